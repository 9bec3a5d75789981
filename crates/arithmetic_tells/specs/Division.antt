-- Division: z is x divided by y, rounded toward zero; there is no quotient by 0. (FlatZinc: int_div.)
use Rattle.std.specs.Prelude.{◌≡◌, ◌≢◌, ℕ, ℤ, pos, negsuc, neg_ℤ, ◌+ℤ◌, ◌-ℤ◌, List, [], ◌∷◌, ◌++◌, int_lt, int_div}
use Rattle.std.specs.Ordering.{int_eq}
use Rattle.tells.specs.declared.tell.Tell.{Tell}
use Rattle.interval.specs.Boxes.{Bounds, low_of, high_of}
use Rattle.interval.specs.Corners.{Range, least_of_four, greatest_of_four, least_product, greatest_product}
use Rattle.tells.specs.Words.{low_tell, high_tell, when, value_of}
use Rattle.arithmetic_tells.specs.Absolute.{greatest_absolute}
use Rattle.arithmetic_tells.specs.Times.{range_of, excludes_zero}

-- a divided by b, rounded toward zero
unfoldable pub quotient_of : ℤ → ℤ → ℤ
quotient_of a b = int_div a b

-- the least and the greatest of the four quotients of a bound of x by a bound of y
unfoldable pub least_quotient : Range → Range → ℤ
least_quotient x y = least_of_four (quotient_of x.0 y.0) (quotient_of x.0 y.1) (quotient_of x.1 y.0) (quotient_of x.1 y.1)

unfoldable pub greatest_quotient : Range → Range → ℤ
greatest_quotient x y = greatest_of_four (quotient_of x.0 y.0) (quotient_of x.0 y.1) (quotient_of x.1 y.0) (quotient_of x.1 y.1)

-- the greatest absolute value of the numbers of a range
abbrev pub size_of : Range → ℤ
size_of r = greatest_absolute r.0 r.1

-- the divisor isn't 0: a bound that is 0 goes to the number beside it
abbrev pub divisor_tells : ℕ → Bounds → List Tell
divisor_tells y b =
    when (int_eq (low_of b y) (pos 0)) (low_tell y (pos 1) ∷ [])
    ++ when (int_eq (high_of b y) (pos 0)) (high_tell y (negsuc 0) ∷ [])

-- the quotient is no further from 0 than the dividend can be
abbrev pub shrinking_tells : ℕ → ℕ → Bounds → List Tell
shrinking_tells x z b = low_tell z (neg_ℤ (size_of (range_of b x))) ∷ high_tell z (size_of (range_of b x)) ∷ []

-- where 0 isn't in the divisor's range, the quotient lies between the corner quotients
abbrev pub corner_tells : ℕ → Range → Range → List Tell
corner_tells z x y = low_tell z (least_quotient x y) ∷ high_tell z (greatest_quotient x y) ∷ []

abbrev pub truncated_tells : ℕ → ℕ → ℕ → Bounds → List Tell
truncated_tells x y z b = when (excludes_zero (range_of b y)) (corner_tells z (range_of b x) (range_of b y))

-- where some divisor isn't 0, the dividend is nearer to the product of quotient and divisor than a divisor is to 0
abbrev pub rest_tells : ℕ → Range → Range → List Tell
rest_tells x y z =
    low_tell x (least_product z y -ℤ (size_of y -ℤ pos 1))
    ∷ high_tell x (greatest_product z y +ℤ (size_of y -ℤ pos 1))
    ∷ []

abbrev pub dividend_tells : ℕ → ℕ → ℕ → Bounds → List Tell
dividend_tells x y z b = when (int_lt (pos 0) (size_of (range_of b y))) (rest_tells x (range_of b y) (range_of b z))

-- the tells on a box
unfoldable pub div_tells : ℕ → ℕ → ℕ → Bounds → List Tell
div_tells x y z b = divisor_tells y b ++ (shrinking_tells x z b ++ (truncated_tells x y z b ++ dividend_tells x y z b))

-- y isn't 0, and z is x divided by y, rounded toward zero
abbrev pub IsQuotient : ℕ → ℕ → ℕ → List ℤ → Type 0
IsQuotient x y z numbers =
    (value_of numbers y ≢ pos 0) × (quotient_of (value_of numbers x) (value_of numbers y) ≡ value_of numbers z)
