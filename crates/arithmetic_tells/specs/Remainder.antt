-- The remainder: z is what the division of x by y leaves, where the quotient is rounded toward zero; there is none by 0.
-- (FlatZinc: int_mod.)
use Rattle.std.specs.Prelude.{◌≡◌, ◌≢◌, ℕ, ℤ, pos, neg_ℤ, ◌-ℤ◌, ◌*ℤ◌, Bool, not, ◌&&◌, List, [], ◌∷◌, ◌++◌, int_lt}
use Rattle.std.specs.Int.{int_min, int_max}
use Rattle.std.specs.Ordering.{int_eq}
use Rattle.tells.specs.declared.tell.Tell.{Tell}
use Rattle.interval.specs.Boxes.{Bounds}
use Rattle.interval.specs.Corners.{Range}
use Rattle.tells.specs.Words.{low_tell, high_tell, when, value_of}
use Rattle.arithmetic_tells.specs.Times.{range_of}
use Rattle.arithmetic_tells.specs.Division.{quotient_of, size_of, divisor_tells}

-- what a leaves when it is divided by b: a less b times the quotient
unfoldable pub remainder_of : ℤ → ℤ → ℤ
remainder_of a b = a -ℤ (b *ℤ quotient_of a b)

-- a remainder is nearer to 0 than a divisor, on the dividend's side of 0 and no further from it than the dividend
unfoldable pub least_remainder : Range → Range → ℤ
least_remainder x y = int_max (neg_ℤ (size_of y -ℤ pos 1)) (int_min x.0 (pos 0))

unfoldable pub greatest_remainder : Range → Range → ℤ
greatest_remainder x y = int_min (size_of y -ℤ pos 1) (int_max x.1 (pos 0))

-- it is told so where some divisor isn't 0
abbrev pub between_tells : ℕ → Range → Range → List Tell
between_tells z x y = low_tell z (least_remainder x y) ∷ high_tell z (greatest_remainder x y) ∷ []

abbrev pub reach_tells : ℕ → ℕ → ℕ → Bounds → List Tell
reach_tells x y z b = when (int_lt (pos 0) (size_of (range_of b y))) (between_tells z (range_of b x) (range_of b y))

-- the range is one number
abbrev pub is_one : Range → Bool
is_one r = int_eq r.0 r.1

-- where dividend and divisor are fixed, and the divisor isn't 0, it is the remainder
abbrev pub have_remainder : Range → Range → Bool
have_remainder x y = is_one x && (is_one y && not (int_eq y.0 (pos 0)))

abbrev pub remainder_tells : ℕ → ℤ → List Tell
remainder_tells z r = low_tell z r ∷ high_tell z r ∷ []

abbrev pub fixed_tells : ℕ → ℕ → ℕ → Bounds → List Tell
fixed_tells x y z b =
    when (have_remainder (range_of b x) (range_of b y))
    (remainder_tells z (remainder_of (range_of b x).0 (range_of b y).0))

-- the tells on a box
unfoldable pub mod_tells : ℕ → ℕ → ℕ → Bounds → List Tell
mod_tells x y z b = divisor_tells y b ++ (reach_tells x y z b ++ fixed_tells x y z b)

-- y isn't 0, and z is what the division of x by y leaves
abbrev pub IsRemainder : ℕ → ℕ → ℕ → List ℤ → Type 0
IsRemainder x y z numbers =
    (value_of numbers y ≢ pos 0) × (remainder_of (value_of numbers x) (value_of numbers y) ≡ value_of numbers z)
