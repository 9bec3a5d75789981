-- Boxes: for each variable a pair of bounds, the lower first. A number x of variable v is in the box where
-- low <= x <= high. (The lattice of intervals, joined by taking the tighter bound, of Talbot, Pinel and
-- Bouvry, "A Variant of Concurrent Constraint Programming on GPU", AAAI 2022.)
use Rattle.std.specs.Prelude.{◌≡◌, ◌≢◌, ℕ, ℤ, pos, ◌+◌, ◌-ℤ◌, ◌≤◌, ◌<◌, ◌≤ℤ◌, ◌<ℤ◌, List, [], ◌∷◌, length, slice_index_or, slice_set, unsigned_abs}
use Rattle.interval.specs.Limits.{IsBound, box_limit}

-- what contracts see of a box
abbrev pub Bounds : Type 0
Bounds = List (ℤ × ℤ)

-- the lower and the upper bound of variable v
abbrev pub low_of : Bounds → ℕ → ℤ
low_of b v = (slice_index_or b v (pos 0, pos 0)).0

abbrev pub high_of : Bounds → ℕ → ℤ
high_of b v = (slice_index_or b v (pos 0, pos 0)).1

-- the box b with the pair of variable v changed to (low, high)
abbrev pub put_of : Bounds → ℕ → ℤ → ℤ → Bounds
put_of b v low high = slice_set b v (low, high)

-- a box is short enough, and each of its bounds is one
pub record IsInRange (b : Bounds) : Type 0 where
  pub short : length b ≤ box_limit
  pub lows : (v : ℕ) → v < length b → IsBound (low_of b v)
  pub highs : (v : ℕ) → v < length b → IsBound (high_of b v)

-- some number is left for each variable
abbrev pub IsProper : Bounds → Type 0
IsProper b = (v : ℕ) → v < length b → low_of b v ≤ℤ high_of b v

-- for some variable no number is left
abbrev pub IsCrossed : Bounds → Type 0
IsCrossed b = (v : ℕ) × (v < length b) × (high_of b v <ℤ low_of b v)

-- each variable is fixed to one number
abbrev pub IsPoint : Bounds → Type 0
IsPoint b = (v : ℕ) → v < length b → low_of b v ≡ high_of b v

-- each bound of the inner box is at least as tight as that of the outer
pub record IsInside (inner outer : Bounds) : Type 0 where
  pub same_length : length inner ≡ length outer
  pub lows : (v : ℕ) → v < length outer → low_of outer v ≤ℤ low_of inner v
  pub highs : (v : ℕ) → v < length outer → high_of inner v ≤ℤ high_of outer v

-- the sum of high - low over the variables of a proper box
unfoldable pub width_sum_of : Bounds → ℕ
width_sum_of [] = 0
width_sum_of (p ∷ b) = unsigned_abs (p.1 -ℤ p.0) + width_sum_of b

-- how boxes lie inside each other
pub record InsideOrder : Type 0 where
  pub itself : (b : Bounds) → IsInside b b
  pub through : (inner middle outer : Bounds) → IsInside inner middle → IsInside middle outer → IsInside inner outer
  pub equal : (a b : Bounds) → IsInside a b → IsInside b a → a ≡ b
  pub in_range : (inner outer : Bounds) → IsProper inner → IsInRange outer → IsInside inner outer → IsInRange inner
  pub outer_is_proper : (inner outer : Bounds) → IsProper inner → IsInside inner outer → IsProper outer
  pub not_wider : (inner outer : Bounds) → IsProper inner → IsInside inner outer → width_sum_of inner ≤ width_sum_of outer
  pub narrower : (inner outer : Bounds) → IsProper inner → IsInside inner outer → inner ≢ outer → width_sum_of inner < width_sum_of outer
  pub point : (b : Bounds) → IsProper b → width_sum_of b ≡ 0 → IsPoint b
