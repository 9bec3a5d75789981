-- The product: z is the product of x and y. (FlatZinc: int_times.)
use Rattle.std.specs.Prelude.{◌≡◌, ℕ, ℤ, pos, ◌*ℤ◌, Bool, ◌||◌, List, [], ◌∷◌, ◌++◌, int_lt}
use Rattle.tells.specs.declared.tell.Tell.{Tell}
use Rattle.interval.specs.Boxes.{Bounds, low_of, high_of}
use Rattle.interval.specs.Corners.{Range, least_product, greatest_product, least_ceiling, greatest_floor}
use Rattle.tells.specs.Words.{low_tell, high_tell, when, value_of}

-- the bounds of a variable
abbrev pub range_of : Bounds → ℕ → Range
range_of b v = (low_of b v, high_of b v)

-- 0 isn't in the range
abbrev pub excludes_zero : Range → Bool
excludes_zero r = int_lt (pos 0) r.0 || int_lt r.1 (pos 0)

-- z lies between the corner products of x and y
abbrev pub product_tells : ℕ → ℕ → ℕ → Bounds → List Tell
product_tells x y z b =
    low_tell z (least_product (range_of b x) (range_of b y))
    ∷ high_tell z (greatest_product (range_of b x) (range_of b y))
    ∷ []

-- x lies between the corner quotients of z by y
abbrev pub quotient_tells : ℕ → Range → Range → List Tell
quotient_tells x z y = low_tell x (least_ceiling z y) ∷ high_tell x (greatest_floor z y) ∷ []

-- it is told so where 0 isn't in y
abbrev pub factor_tells : ℕ → ℕ → ℕ → Bounds → List Tell
factor_tells x y z b = when (excludes_zero (range_of b y)) (quotient_tells x (range_of b z) (range_of b y))

-- the tells on a box
unfoldable pub times_tells : ℕ → ℕ → ℕ → Bounds → List Tell
times_tells x y z b = product_tells x y z b ++ (factor_tells x y z b ++ factor_tells y x z b)

-- z is the product of x and y
abbrev pub IsProduct : ℕ → ℕ → ℕ → List ℤ → Type 0
IsProduct x y z numbers = value_of numbers x *ℤ value_of numbers y ≡ value_of numbers z
