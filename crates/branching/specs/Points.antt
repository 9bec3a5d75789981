-- How many points a box has.
use Rattle.std.specs.Prelude.{◌≡◌, ℕ, ◌+◌, ◌*◌, ◌≤◌, ◌<◌, ℤ, pos, negsuc, ◌+ℤ◌, ◌-ℤ◌, [], ◌∷◌, length}
use Rattle.interval.specs.Boxes.{Bounds, IsInside, IsProper}
use Rattle.constraint_model.specs.declared.model.FznModel.{FznModel}
use Rattle.constraint_model.specs.Searches.{IsSearchOf}
use Rattle.branching.specs.Parts.{IsBranch}

-- the number, or 0 where it is below 0
abbrev pub from_zero : ℤ → ℕ
from_zero (pos n) = n
from_zero (negsuc n) = 0

-- how many numbers are from low to high
abbrev pub numbers_in : ℤ → ℤ → ℕ
numbers_in low high = from_zero (high -ℤ low +ℤ pos 1)

-- the product of these over the variables: none where the box is crossed
unfoldable pub points_of : Bounds → ℕ
points_of [] = 1
points_of (p ∷ b) = numbers_in p.0 p.1 * points_of b

-- a box inside another has no more points, a proper one has some, and the two parts of a box have its points between them
pub record PointCounts : Type 0 where
  pub inside : (inner outer : Bounds) → IsInside inner outer → points_of inner ≤ points_of outer
  pub proper : (b : Bounds) → IsProper b → 0 < points_of b
  pub parts : (model : FznModel) (b left right : Bounds) → IsSearchOf model → length model.vars < length b → IsProper b →
      IsBranch model b left right → points_of left + points_of right ≡ points_of b
