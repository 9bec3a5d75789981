-- A box that is changed, and a stack of boxes that are left for later.
use Rattle.std.specs.Prelude.{◌≡◌, ℕ, ℤ, ◌<◌, List, ◌++◌, map}
use Rattle.interval.specs.Limits.{IsBound}
use Rattle.interval.specs.Boxes.{Bounds, put_of}

-- what is left for later: the box as it was then, its base, and other bounds for one of its variables
pub record Left : Type 0 where
  pub base : Bounds
  pub var : ℕ
  pub low : ℤ
  pub high : ℤ

-- the box b left for later with these bounds for variable v
abbrev pub left_of : Bounds → ℕ → ℤ → ℤ → Left
left_of b v low high = record { base = b; var = v; low = low; high = high }

-- the box that is left for later
abbrev pub box_of : Left → Bounds
box_of left = put_of left.base left.var left.low left.high

abbrev pub boxes_of : List Left → List Bounds
boxes_of stack = map box_of stack

-- what is left on a stack is still left, with more above it
abbrev pub IsOver : List Left → List Left → Type 0
IsOver base stack = (rest : List Left) × (stack ≡ base ++ rest)

-- the box as it is now, and what is left for later, the next one last
pub record Trailed : Type 0 where
  pub current : Bounds
  pub stack : List Left

-- one of so many variables, and two bounds
pub record IsPart (count var : ℕ) (low high : ℤ) : Type 0 where
  pub variable : var < count
  pub low_in_range : IsBound low
  pub high_in_range : IsBound high
