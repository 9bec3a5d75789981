-- What is gathered of the tells of a kernel on a box: all of them, or the first up to one that leaves its variable no number.
use Rattle.std.specs.Prelude.{◌≡◌, ◌⊎◌, ℕ, true, false, List, [], ◌∷◌, ◌++◌, take, Contains}
use Rattle.interval.specs.Boxes.{Bounds}
use Rattle.guarded_tell.specs.Words.{Tell}
use Rattle.seen_tells.specs.Seen.{LeavesNone}
use Rattle.moved_fixpoint.specs.declared.told.Told.{Told}

-- the first of the tells were gathered, among them one that leaves its variable no number
pub record AreCut (b : Bounds) (all told : List Tell) : Type 0 where
  pub count : ℕ
  pub first : told ≡ take count all
  pub last : Tell
  pub among : Contains told last
  pub none : LeavesNone b last

abbrev pub AreGathered : Bounds → List Tell → List Tell → Type 0
AreGathered b all told = (told ≡ all) ⊎ AreCut b all told

-- one more tell is gathered, unless one left its variable no number
pub record HasTaken (b : Bounds) (before : Told) (t : Tell) (after : Told) : Type 0 where
  pub kept : after.refused ≡ false → before.refused ≡ false
  pub over : before.ends ≡ true → after ≡ before
  pub more : before.ends ≡ false → after.refused ≡ false → after.tells.items ≡ before.tells.items ++ t ∷ []
  pub none : before.ends ≡ false → after.ends ≡ true → LeavesNone b t
