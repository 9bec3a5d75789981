-- The corners of a rectangle of two ranges, each a pair of bounds, the lower first: the products, and the quotients, of a
-- bound of the one and a bound of the other. (Multiplication and division of intervals.)
use Rattle.std.specs.Prelude.{ℤ, pos, ◌*ℤ◌, ◌≤ℤ◌, ◌<ℤ◌, ◌⊎◌}
use Rattle.std.specs.Int.{int_min, int_max}
use Rattle.interval.specs.Quotients.{floor_of, ceiling_of}

-- what contracts see of a range
abbrev pub Range : Type 0
Range = ℤ × ℤ

-- the least and the greatest of four numbers
abbrev pub least_of_four : ℤ → ℤ → ℤ → ℤ → ℤ
least_of_four p q r s = int_min (int_min p q) (int_min r s)

abbrev pub greatest_of_four : ℤ → ℤ → ℤ → ℤ → ℤ
greatest_of_four p q r s = int_max (int_max p q) (int_max r s)

-- the least and the greatest of the four products of a bound of x and a bound of y
unfoldable pub least_product : Range → Range → ℤ
least_product x y = least_of_four (x.0 *ℤ y.0) (x.0 *ℤ y.1) (x.1 *ℤ y.0) (x.1 *ℤ y.1)

unfoldable pub greatest_product : Range → Range → ℤ
greatest_product x y = greatest_of_four (x.0 *ℤ y.0) (x.0 *ℤ y.1) (x.1 *ℤ y.0) (x.1 *ℤ y.1)

-- the least ceiling and the greatest floor of the four exact quotients of a bound of z by a bound of y
unfoldable pub least_ceiling : Range → Range → ℤ
least_ceiling z y =
    least_of_four (ceiling_of z.0 y.0) (ceiling_of z.0 y.1) (ceiling_of z.1 y.0) (ceiling_of z.1 y.1)

unfoldable pub greatest_floor : Range → Range → ℤ
greatest_floor z y = greatest_of_four (floor_of z.0 y.0) (floor_of z.0 y.1) (floor_of z.1 y.0) (floor_of z.1 y.1)

-- the number z is in the range
pub record IsIn (r : Range) (z : ℤ) : Type 0 where
  pub from : r.0 ≤ℤ z
  pub to : z ≤ℤ r.1

-- all numbers of the range are on one side of 0
abbrev pub IsOneSided : Range → Type 0
IsOneSided r = (pos 0 <ℤ r.0) ⊎ (r.1 <ℤ pos 0)

-- the products of numbers of two ranges lie between the corners, and so do the rounded quotients where the divisors are
-- on one side of 0
pub record CornerOrder : Type 0 where
  pub products_from : (x y : Range) (p q : ℤ) → IsIn x p → IsIn y q → least_product x y ≤ℤ (p *ℤ q)
  pub products_to : (x y : Range) (p q : ℤ) → IsIn x p → IsIn y q → (p *ℤ q) ≤ℤ greatest_product x y
  pub ceilings_from : (z y : Range) (p q : ℤ)
      → IsIn z p → IsIn y q → IsOneSided y → least_ceiling z y ≤ℤ ceiling_of p q
  pub floors_to : (z y : Range) (p q : ℤ)
      → IsIn z p → IsIn y q → IsOneSided y → floor_of p q ≤ℤ greatest_floor z y
