-- Boxes that are made of closed ones: on such a box the kernels are quiet but for those that name one variable.
use Rattle.std.specs.Prelude.{◌≡◌, ◌<◌, ℕ, ℤ, List, length, Option, None, Some}
use Rattle.interval.specs.Boxes.{Bounds, IsProper, put_of}
use Rattle.guarded_tell.specs.declared.kernel.Kernel.{Kernel}
use Rattle.fixpoint_laws.specs.Fixpoints.{IsClosed}

-- the box is a closed one in which the bounds of this pair were put, and some number is left for each variable
pub record IsMadeAt (kernels : List Kernel) (pair : ℕ) (b : Bounds) : Type 0 where
  pub closed : Bounds
  pub is_closed : IsClosed closed kernels
  pub in_box : pair < length closed
  pub low : ℤ
  pub high : ℤ
  pub is_put : b ≡ put_of closed pair low high
  pub proper : IsProper b

-- it is such a box by this pair; none: nothing is known of it
abbrev pub IsMadeBy : Option ℕ → List Kernel → Bounds → Type 0
IsMadeBy None kernels b = Unit {0}
IsMadeBy (Some pair) kernels b = IsMadeAt kernels pair b
