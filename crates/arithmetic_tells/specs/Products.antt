-- What the products of the bounds of a factor say of the tells of the other, without a division.
use Rattle.std.specs.Prelude.{ℤ, pos, ◌*ℤ◌, ◌≤ℤ◌, ◌<ℤ◌}
use Rattle.std.specs.Int.{int_min, int_max}
use Rattle.interval.specs.Corners.{Range}

-- z is at most one of the products of a factor with the two bounds of a range, or at least one of them
abbrev pub IsUnderOne : ℤ → ℤ → Range → Type 0
IsUnderOne z factor y = z ≤ℤ int_max (factor *ℤ y.0) (factor *ℤ y.1)

abbrev pub IsOverOne : ℤ → ℤ → Range → Type 0
IsOverOne z factor y = int_min (factor *ℤ y.0) (factor *ℤ y.1) ≤ℤ z

-- each bound of x, times a bound of y, reaches z, so that no corner quotient of z by y is tighter. A y below 0 turns the
-- order round
pub record IsFactorQuiet (x y z : Range) : Type 0 where
  pub low_above_zero : pos 0 <ℤ y.0 → IsUnderOne z.0 x.0 y
  pub high_above_zero : pos 0 <ℤ y.0 → IsOverOne z.1 x.1 y
  pub low_below_zero : y.1 <ℤ pos 0 → IsOverOne z.1 x.0 y
  pub high_below_zero : y.1 <ℤ pos 0 → IsUnderOne z.0 x.1 y
