-- Terms of a sum that aren't fixed, by their places.
use Rattle.std.specs.Prelude.{◌≢◌, ℕ, ℤ, pos, ◌<ℤ◌, ◌<◌, List, length, slice_index, slice_index_or}
use Rattle.interval.specs.Boxes.{Bounds, low_of, high_of}
use Rattle.sum_tells.specs.Linear.{least_of, greatest_of}

-- a sum has a term at the place, its coefficient isn't 0 and its variable isn't fixed
abbrev pub IsOpenAt : Bounds → List ℤ → List ℕ → ℕ → Type 0
IsOpenAt b coeffs vars n =
    (n < length coeffs) × (slice_index_or coeffs n (pos 0) ≢ pos 0) × (low_of b (slice_index vars n) <ℤ high_of b (slice_index vars n))

-- two places of terms whose least value is below their greatest, the lower place first
pub record AreTwoOpen (b : Bounds) (coeffs : List ℤ) (vars : List ℕ) : Type 0 where
  pub first : ℕ
  pub second : ℕ
  pub rising : first < second
  pub inside : second < length coeffs
  pub first_open : least_of b (slice_index_or coeffs first (pos 0), slice_index vars first) <ℤ greatest_of b (slice_index_or coeffs first (pos 0), slice_index vars first)
  pub second_open : least_of b (slice_index_or coeffs second (pos 0), slice_index vars second) <ℤ greatest_of b (slice_index_or coeffs second (pos 0), slice_index vars second)
