-- The laws of literals.
use Rattle.std.specs.Prelude.{◌≡◌, ◌<◌, ◌≤ℤ◌, List, length}
use Rattle.interval.specs.Boxes.{Bounds, low_of, high_of, IsInside, IsPoint}
use Rattle.tells.specs.declared.tell.Tell.{Tell}
use Rattle.tells.specs.Words.{Keeps}
use Rattle.literals.specs.Literals.{Meets, opposite, IsAsTight}

pub record LiteralLaws : Type 0 where
  -- whoever meets a literal meets each that is less tight
  pub tighter : (b : Bounds) (t u : Tell) → IsAsTight t u → Keeps b t → Keeps b u
  -- a box inside another meets what that one meets
  pub inside : (inner outer : Bounds) (t : Tell) → t.var < length outer → IsInside inner outer → Keeps outer t → Keeps inner t
  -- a point meets a literal or its opposite
  pub opposite : (p : Bounds) (t : Tell) → t.var < length p → IsPoint p → (Keeps p t → ⊥) → Keeps p (opposite t)
