-- Membership: the literal is true exactly where the value of x is in a set of numbers. (FlatZinc: set_in and
-- set_in_reif.) A set is the list of its greatest ranges, each by its first and its last number.
use Rattle.std.specs.Prelude.{◌≤◌, ◌≤ℤ◌, ◌<ℤ◌, ◌↔◌, ◌+ℤ◌, ◌-ℤ◌, ℕ, ℤ, pos, Bool, not, ◌&&◌, IsTrue, List, [], ◌∷◌, ◌++◌, length, int_le}
use Rattle.std.specs.Int.{int_min, int_max}
use Rattle.std.specs.List.{All, AllPairs, Any, filter, flat_map, list_any}
use Rattle.tells.specs.declared.tell.Lit.{Lit}
use Rattle.tells.specs.declared.tell.Tell.{Tell}
use Rattle.interval.specs.Limits.{IsNumber}
use Rattle.interval.specs.Boxes.{Bounds, low_of, high_of}
use Rattle.tells.specs.Words.{low_tell, high_tell, when, literal_true, is_sure, is_out, tell_true, tell_false, value_of}
use Rattle.extreme_tells.specs.Extremes.{at_place, last_of, least_over, greatest_over}

-- a set has at most so many ranges
unfoldable pub range_limit : ℕ
range_limit = 65536

-- the range has z; all the numbers from low to high; some of them
abbrev pub has_number : ℤ → ℤ × ℤ → Bool
has_number z r = int_le r.0 z && int_le z r.1

abbrev pub has_all : ℤ → ℤ → ℤ × ℤ → Bool
has_all low high r = int_le r.0 low && int_le high r.1

abbrev pub has_some : ℤ → ℤ → ℤ × ℤ → Bool
has_some low high r = int_le r.0 high && int_le low r.1

-- the range ends at or after z; it begins at or before z
abbrev pub ends_from : ℤ → ℤ × ℤ → Bool
ends_from z r = int_le z r.1

abbrev pub begins_by : ℤ → ℤ × ℤ → Bool
begins_by z r = int_le r.0 z

-- the literal is told true where one range has all of low..high, false where none has any of it
abbrev pub membership_tells : Lit → List (ℤ × ℤ) → ℤ → ℤ → List Tell
membership_tells l ranges low high =
    when (list_any (has_all low high) ranges) (tell_true l ∷ [])
    ++ when (not (list_any (has_some low high) ranges)) (tell_false l ∷ [])

-- x is at least the least number of these ranges from low on, and at most the greatest up to high
unfoldable pub from_tells : ℕ → ℤ → List (ℤ × ℤ) → List Tell
from_tells x low [] = []
from_tells x low (r ∷ rs) = low_tell x (least_over (λ s. int_max s.0 low) (r ∷ rs)) ∷ []

unfoldable pub upto_tells : ℕ → ℤ → List (ℤ × ℤ) → List Tell
upto_tells x high [] = []
upto_tells x high (r ∷ rs) = high_tell x (greatest_over (λ s. int_min s.1 high) (r ∷ rs)) ∷ []

abbrev pub member_tells : ℕ → List (ℤ × ℤ) → ℤ → ℤ → List Tell
member_tells x ranges low high =
    from_tells x low (filter (ends_from low) ranges) ++ upto_tells x high (filter (begins_by high) ranges)

-- x is past the range that has low, and before the range that has high
abbrev pub past_tells : ℕ → ℤ → ℤ × ℤ → List Tell
past_tells x low r = when (has_number low r) (low_tell x (r.1 +ℤ pos 1) ∷ [])

abbrev pub before_tells : ℕ → ℤ → ℤ × ℤ → List Tell
before_tells x high r = when (has_number high r) (high_tell x (r.0 -ℤ pos 1) ∷ [])

abbrev pub gap_tells : ℕ → List (ℤ × ℤ) → ℤ → ℤ → List Tell
gap_tells x ranges low high = flat_map (past_tells x low) ranges ++ flat_map (before_tells x high) ranges

-- the tells on a box
abbrev pub in_set_tells : Lit → ℕ → List (ℤ × ℤ) → Bounds → List Tell
in_set_tells l x ranges b =
    membership_tells l ranges (low_of b x) (high_of b x)
    ++ (when (is_sure l b) (member_tells x ranges (low_of b x) (high_of b x))
    ++ when (is_out l b) (gap_tells x ranges (low_of b x) (high_of b x)))

-- the literal is true exactly where a range has the value of x
abbrev pub IsInSet : Lit → ℕ → List (ℤ × ℤ) → List ℤ → Type 0
IsInSet l x ranges numbers =
    IsTrue (literal_true l (value_of numbers l.var))
    ↔ Any (λ r. (r.0 ≤ℤ value_of numbers x) × (value_of numbers x ≤ℤ r.1)) ranges

-- the ranges of a set: numbers of a model, in order, none of which touch or overlap
pub record IsSet (ranges : List (ℤ × ℤ)) : Type 0 where
  pub short : length ranges ≤ range_limit
  pub firsts : All (λ r. IsNumber r.0) ranges
  pub lasts : All (λ r. IsNumber r.1) ranges
  pub ordered : All (λ r. r.0 ≤ℤ r.1) ranges
  pub apart : AllPairs (λ r s. (r.1 +ℤ pos 1) <ℤ s.0) ranges

-- ---- the tells by two places of the list

-- the tells by the first range that ends at or after the low, and the last that begins at or before the high
abbrev pub member_tells_at : ℕ → List (ℤ × ℤ) → ℕ → ℕ → Bounds → List Tell
member_tells_at x ranges first count b =
    from_tells x (low_of b x) (at_place ranges first) ++ upto_tells x (high_of b x) (last_of ranges count)

abbrev pub gap_tells_at : ℕ → List (ℤ × ℤ) → ℕ → ℕ → Bounds → List Tell
gap_tells_at x ranges first count b =
    flat_map (past_tells x (low_of b x)) (at_place ranges first)
    ++ flat_map (before_tells x (high_of b x)) (last_of ranges count)

abbrev pub bound_tells_at : Lit → ℕ → List (ℤ × ℤ) → ℕ → ℕ → Bounds → List Tell
bound_tells_at l x ranges first count b =
    when (is_sure l b) (member_tells_at x ranges first count b) ++ when (is_out l b) (gap_tells_at x ranges first count b)

abbrev pub in_set_tells_at : Lit → ℕ → List (ℤ × ℤ) → ℕ → ℕ → Bounds → List Tell
in_set_tells_at l x ranges first count b =
    membership_tells l (at_place ranges first) (low_of b x) (high_of b x) ++ bound_tells_at l x ranges first count b
