-- The tells that a divisor isn't 0: along boxes, at a point, on their own variable, and what they leave.
use Rattle.std.proofs.Common.{◌≡◌, ◌≢◌, ℕ, ◌<◌, List, [], ◌∷◌, length, get_or, true, ℤ, pos, negsuc, ◌≤ℤ◌, ◌<ℤ◌, unsigned_abs, inl, inr, sym, ap, ◌∙◌, arith}
use Rattle.std.proofs.lemmas.Int.{ints, clamps, by_lt_z}
use Rattle.std.proofs.lemmas.Bool.Decides.{Decides-int_eq}
use Rattle.std.proofs.lemmas.List.Elements.{All-append}
use Rattle.std.specs.Ordering.{int_eq}
use Rattle.std.specs.List.{All}
use Rattle.tells.specs.declared.tell.Tell.{Tell}
use Rattle.interval.specs.Limits.{bound_limit, largest_number, clamp_of, ClampOrder}
use Rattle.interval.specs.Corners.{IsOneSided}
use Rattle.interval.specs.Boxes.{Bounds, low_of, high_of}
use Rattle.tells.specs.Words.{low_tell, high_tell, when, Keeps, AreVariables}
use Rattle.arithmetic_tells.specs.Absolute.{greatest_absolute}
use Rattle.arithmetic_tells.specs.Times.{range_of, excludes_zero}
use Rattle.arithmetic_tells.specs.Division.{size_of, divisor_tells}
use Rattle.arithmetic_tells.proofs.Lists.{All-left, All-right, All-one, one-All, All-when, when-All}
use Rattle.arithmetic_tells.proofs.AbsoluteLaws.{greatest_falls, greatest_of_one}
use Rattle.arithmetic_tells.proofs.TimesLaws.{IsWithin, excluded}
use Rattle.arithmetic_tells.proofs.PlaceLaws.{IsPlaced, low_placed, high_placed}

one_same : ClampOrder → clamp_of (pos 1) ≡ pos 1
unfolding bound_limit largest_number
one_same c = c.same (pos 1) (omega arith)

minus_one_same : ClampOrder → clamp_of (negsuc 0) ≡ negsuc 0
unfolding bound_limit largest_number
minus_one_same c = c.same (negsuc 0) (omega arith)

-- the two tells
abbrev from_one : ℕ → List Tell
from_one y = low_tell y (pos 1) ∷ []

abbrev to_minus_one : ℕ → List Tell
to_minus_one y = high_tell y (negsuc 0) ∷ []

module _ (clamped : ClampOrder) (b : Bounds) (y : ℕ) (all : All (Keeps b) (divisor_tells y b)) where
  -- a closed box has no bound 0 for the divisor
  pub low_not_zero : low_of b y ≢ pos 0
  low_not_zero e =
      let one = one_same clamped in
      let told = one-All (Keeps b) (low_tell y (pos 1))
      (when-All (Keeps b) (int_eq (low_of b y) (pos 0)) (from_one y) ((Decides-int_eq (low_of b y) (pos 0)).1 e)
      (All-left (Keeps b) (when (int_eq (low_of b y) (pos 0)) (from_one y)) (when (int_eq (high_of b y) (pos 0)) (to_minus_one y)) all)) in
      omega (arith, ints)

  pub high_not_zero : high_of b y ≢ pos 0
  high_not_zero e =
      let one = minus_one_same clamped in
      let told = one-All (Keeps b) (high_tell y (negsuc 0))
      (when-All (Keeps b) (int_eq (high_of b y) (pos 0)) (to_minus_one y) ((Decides-int_eq (high_of b y) (pos 0)).1 e)
      (All-right (Keeps b) (when (int_eq (low_of b y) (pos 0)) (from_one y)) (when (int_eq (high_of b y) (pos 0)) (to_minus_one y)) all)) in
      omega (arith, ints)

  -- so some divisor isn't 0
  pub some_size : low_of b y ≤ℤ high_of b y → pos 0 <ℤ size_of (range_of b y)
  unfolding greatest_absolute
  some_size proper =
      let low = low_not_zero in
      let high = high_not_zero in
      omega (arith, ints, clamps)

-- ---- along boxes

pub divisor_along : ClampOrder → (inner outer : Bounds) (y : ℕ) → low_of inner y ≤ℤ high_of inner y → IsWithin (range_of inner y) (range_of outer y)
    → All (Keeps inner) (divisor_tells y inner) → All (Keeps inner) (divisor_tells y outer)
divisor_along clamped inner outer y proper h all =
    let one = one_same clamped in
    let minus_one = minus_one_same clamped in
    let low = low_not_zero clamped inner y all in
    let high = high_not_zero clamped inner y all in
    let from = h.low.from in
    let to = h.high.to in
    All-append (Keeps inner) (when (int_eq (low_of outer y) (pos 0)) (from_one y)) (when (int_eq (high_of outer y) (pos 0)) (to_minus_one y))
    (All-when (Keeps inner) (int_eq (low_of outer y) (pos 0)) (from_one y) (λ t.
    let zero_low = (Decides-int_eq (low_of outer y) (pos 0)).0 t in
    All-one (Keeps inner) (low_tell y (pos 1)) (omega (arith, ints))))
    (All-when (Keeps inner) (int_eq (high_of outer y) (pos 0)) (to_minus_one y) (λ t.
    let zero_high = (Decides-int_eq (high_of outer y) (pos 0)).0 t in
    All-one (Keeps inner) (high_tell y (negsuc 0)) (omega (arith, ints))))

-- the greatest absolute value of fewer numbers isn't greater
pub size_falls : (inner outer : Bounds) (v : ℕ) → IsWithin (range_of inner v) (range_of outer v) → size_of (range_of inner v) ≤ℤ size_of (range_of outer v)
size_falls inner outer v h = greatest_falls (low_of outer v) (low_of inner v) (high_of inner v) (high_of outer v) h.low.from h.high.to

-- ---- at a point

-- there it is the number's absolute value
pub size_point : (b : Bounds) (v : ℕ) → low_of b v ≡ high_of b v → size_of (range_of b v) ≡ pos (unsigned_abs (low_of b v))
size_point b v fixed = ap (λ (z : ℤ). greatest_absolute (low_of b v) z) (sym fixed) ∙ greatest_of_one (low_of b v)

-- a divisor other than 0 excludes it
pub excluded_point : (b : Bounds) (y : ℕ) → low_of b y ≡ high_of b y → low_of b y ≢ pos 0 → excludes_zero (range_of b y) ≡ true
excluded_point b y fixed n =
    excluded (range_of b y)
    (by_lt_z {P = IsOneSided (range_of b y)} (pos 0) (low_of b y) (λ lt. inl lt) (λ le. inr (omega (arith, ints))))

pub divisor_kept : (b : Bounds) (y : ℕ) → low_of b y ≡ high_of b y → low_of b y ≢ pos 0 → All (Keeps b) (divisor_tells y b)
divisor_kept b y fixed n =
    All-append (Keeps b) (when (int_eq (low_of b y) (pos 0)) (from_one y)) (when (int_eq (high_of b y) (pos 0)) (to_minus_one y))
    (All-when (Keeps b) (int_eq (low_of b y) (pos 0)) (from_one y) (λ t. absurd (n ((Decides-int_eq (low_of b y) (pos 0)).0 t))))
    (All-when (Keeps b) (int_eq (high_of b y) (pos 0)) (to_minus_one y) (λ t. absurd (n (fixed ∙ (Decides-int_eq (high_of b y) (pos 0)).0 t))))

-- ---- places

pub divisor_placed : ClampOrder → (count : ℕ) (vars : List ℕ) (i : ℕ) (b : Bounds) → AreVariables count vars → i < length vars → All (IsPlaced count vars) (divisor_tells (get_or vars i 0) b)
divisor_placed clamped count vars i b variables h =
    let y = get_or vars i 0 in
    All-append (IsPlaced count vars) (when (int_eq (low_of b y) (pos 0)) (from_one y)) (when (int_eq (high_of b y) (pos 0)) (to_minus_one y))
    (All-when (IsPlaced count vars) (int_eq (low_of b y) (pos 0)) (from_one y) (λ t. All-one (IsPlaced count vars) (low_tell y (pos 1)) (low_placed clamped count vars variables i (pos 1) h)))
    (All-when (IsPlaced count vars) (int_eq (high_of b y) (pos 0)) (to_minus_one y) (λ t. All-one (IsPlaced count vars) (high_tell y (negsuc 0)) (high_placed clamped count vars variables i (negsuc 0) h)))
