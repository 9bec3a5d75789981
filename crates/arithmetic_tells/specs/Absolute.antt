-- The absolute value: y is the absolute value of x. (FlatZinc: int_abs.)
use Rattle.std.specs.Prelude.{◌≡◌, ℕ, ℤ, pos, neg_ℤ, cond, unsigned_abs, List, [], ◌∷◌, ◌++◌, int_lt, int_le}
use Rattle.std.specs.Int.{int_max}
use Rattle.tells.specs.declared.tell.Tell.{Tell}
use Rattle.interval.specs.Boxes.{Bounds, low_of, high_of}
use Rattle.tells.specs.Words.{low_tell, high_tell, when, value_of}

-- the least and the greatest absolute value of the numbers from low to high
unfoldable pub least_absolute : ℤ → ℤ → ℤ
least_absolute low high = cond (int_le (pos 0) low) low (cond (int_le high (pos 0)) (neg_ℤ high) (pos 0))

unfoldable pub greatest_absolute : ℤ → ℤ → ℤ
greatest_absolute low high = int_max (neg_ℤ low) high

-- y lies between these two
abbrev pub absolute_tells : ℕ → ℕ → Bounds → List Tell
absolute_tells x y b =
    low_tell y (least_absolute (low_of b x) (high_of b x))
    ∷ high_tell y (greatest_absolute (low_of b x) (high_of b x))
    ∷ []

-- x is at most the high of y away from 0
abbrev pub within_tells : ℕ → ℕ → Bounds → List Tell
within_tells x y b = high_tell x (high_of b y) ∷ low_tell x (neg_ℤ (high_of b y)) ∷ []

-- x is at least the low of y away from 0: where it can't be so below 0 it is so above, and the other way round
abbrev pub above_tells : ℕ → ℕ → Bounds → List Tell
above_tells x y b = when (int_lt (neg_ℤ (low_of b y)) (low_of b x)) (low_tell x (low_of b y) ∷ [])

abbrev pub below_tells : ℕ → ℕ → Bounds → List Tell
below_tells x y b = when (int_lt (high_of b x) (low_of b y)) (high_tell x (neg_ℤ (low_of b y)) ∷ [])

abbrev pub branch_tells : ℕ → ℕ → Bounds → List Tell
branch_tells x y b = above_tells x y b ++ below_tells x y b

-- the tells on a box
unfoldable pub abs_tells : ℕ → ℕ → Bounds → List Tell
abs_tells x y b = absolute_tells x y b ++ (within_tells x y b ++ branch_tells x y b)

-- y is the absolute value of x
abbrev pub IsAbsolute : ℕ → ℕ → List ℤ → Type 0
IsAbsolute x y numbers = pos (unsigned_abs (value_of numbers x)) ≡ value_of numbers y
