-- What it means for a box that one variable gets tighter bounds.
use Rattle.std.specs.Prelude.{ℕ, ℤ, length, ◌≡◌, ◌<◌, ◌≤ℤ◌, ◌+◌, ◌-ℤ◌, unsigned_abs}
use Rattle.interval.specs.Boxes.{Bounds, low_of, high_of, put_of, IsInside, IsProper, width_sum_of}

-- one variable of a box gets bounds low and high that are each at least as tight as its own
pub record IsTightening (b : Bounds) (v : ℕ) (low high : ℤ) : Type 0 where
  pub variable : v < length b
  pub low_rises : low_of b v ≤ℤ low
  pub high_falls : high ≤ℤ high_of b v

-- what follows for the box: it stays inside, it holds each box whose own bounds of the variable are as tight,
-- and where a number is left it stays proper and its widths fall by exactly the two differences
pub record TightensOne : Type 0 where
  pub inside : (b : Bounds) (v : ℕ) (low high : ℤ) → IsTightening b v low high → IsInside (put_of b v low high) b
  pub holds : (b c : Bounds) (v : ℕ) (low high : ℤ) → v < length b → IsInside c b → low ≤ℤ low_of c v →
      high_of c v ≤ℤ high → IsInside c (put_of b v low high)
  pub proper : (b : Bounds) (v : ℕ) (low high : ℤ) → v < length b → IsProper b → low ≤ℤ high →
      IsProper (put_of b v low high)
  pub widths : (b : Bounds) (v : ℕ) (low high : ℤ) → IsTightening b v low high → IsProper b → low ≤ℤ high →
      width_sum_of (put_of b v low high) + unsigned_abs (low -ℤ low_of b v) + unsigned_abs (high_of b v -ℤ high) ≡ width_sum_of b
