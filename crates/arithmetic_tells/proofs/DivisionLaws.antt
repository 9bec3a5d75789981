-- The division: monotone, exact at a point, its tells on its own variables, and these alone.
use Rattle.std.proofs.Common.{◌≡◌, ◌≢◌, ◌≤◌, ℕ, List, [], ◌∷◌, ◌++◌, true, ℤ, pos, negsuc, neg_ℤ, ◌+ℤ◌, ◌-ℤ◌, ◌*ℤ◌, ◌≤ℤ◌, ◌<ℤ◌, unsigned_abs, sym, subst, ◌∙◌, arith}
use Rattle.std.proofs.lemmas.Int.{ints}
use Rattle.std.proofs.lemmas.List.Elements.{All-append}
use Rattle.std.specs.Int.RustNames.{int_lt}
use Rattle.std.specs.Ordering.{int_eq}
use Rattle.std.specs.List.{All}
use Rattle.tells.specs.declared.tell.Tell.{Tell}
use Rattle.interval.specs.Limits.{ClampOrder}
use Rattle.interval.specs.Quotients.{QuotientOrder}
use Rattle.interval.specs.Corners.{Range, IsOneSided, CornerOrder, least_product, greatest_product}
use Rattle.interval.specs.Boxes.{Bounds, low_of, high_of}
use Rattle.tells.specs.Words.{low_tell, high_tell, when, Keeps, value_of, point_of, AreVariables, AgreeIn, SameValuesIn, IsProperIn, IsInsideIn}
use Rattle.arithmetic_tells.specs.Times.{range_of, excludes_zero}
use Rattle.arithmetic_tells.specs.Division.{quotient_of, least_quotient, greatest_quotient, size_of, divisor_tells, shrinking_tells, corner_tells, truncated_tells, rest_tells, dividend_tells, div_tells, IsQuotient}
use Rattle.arithmetic_tells.specs.Remainder.{remainder_of}
use Rattle.arithmetic_tells.proofs.Lists.{All-left, All-right, All-two, two-All, All-when, when-All}
use Rattle.arithmetic_tells.proofs.LiteralLaws.{value-point}
use Rattle.arithmetic_tells.proofs.BoundLaws.{keeps_low, keeps_high}
use Rattle.arithmetic_tells.proofs.PlaceLaws.{IsPlaced, low_placed, high_placed}
use Rattle.arithmetic_tells.proofs.TimesLaws.{IsWithin, IsFixed, within, under_four, over_four, least_of_same, greatest_of_same, least_product_rises, greatest_product_falls, least_product_point, greatest_product_point, one_sided, excluded, within_one_sided, high_number}
use Rattle.arithmetic_tells.proofs.TruncationLaws.{quotients_from, quotients_to, quotient_small, quotient_and_remainder, remainder_is_rest}
use Rattle.arithmetic_tells.proofs.DivisorLaws.{divisor_along, divisor_kept, divisor_placed, some_size, size_falls, size_point, low_not_zero, excluded_point}

-- ---- monotone

module _ (x y x' y' : Range) (h : IsWithin x' x) (k : IsWithin y' y) (side : IsOneSided y) where
  least_quotient_rises : least_quotient x y ≤ℤ least_quotient x' y'
  unfolding least_quotient
  least_quotient_rises =
      under_four (least_quotient x y) (quotient_of x'.0 y'.0) (quotient_of x'.0 y'.1) (quotient_of x'.1 y'.0) (quotient_of x'.1 y'.1)
      (quotients_from x y x'.0 y'.0 h.low k.low side) (quotients_from x y x'.0 y'.1 h.low k.high side)
      (quotients_from x y x'.1 y'.0 h.high k.low side) (quotients_from x y x'.1 y'.1 h.high k.high side)

  greatest_quotient_falls : greatest_quotient x' y' ≤ℤ greatest_quotient x y
  unfolding greatest_quotient
  greatest_quotient_falls =
      over_four (greatest_quotient x y) (quotient_of x'.0 y'.0) (quotient_of x'.0 y'.1) (quotient_of x'.1 y'.0) (quotient_of x'.1 y'.1)
      (quotients_to x y x'.0 y'.0 h.low k.low side) (quotients_to x y x'.0 y'.1 h.low k.high side)
      (quotients_to x y x'.1 y'.0 h.high k.low side) (quotients_to x y x'.1 y'.1 h.high k.high side)

module _ (inner outer : Bounds) (quotients : QuotientOrder) (clamped : ClampOrder) (corners : CornerOrder) where
  shrinking_along : (x z : ℕ) → IsWithin (range_of inner x) (range_of outer x) → All (Keeps inner) (shrinking_tells x z inner) → All (Keeps inner) (shrinking_tells x z outer)
  shrinking_along x z h all =
      let less = size_of (range_of inner x) in
      let more = size_of (range_of outer x) in
      let falls : less ≤ℤ more = size_falls inner outer x h in
      let given = two-All (Keeps inner) (low_tell z (neg_ℤ less)) (high_tell z less) all in
      All-two (Keeps inner) (low_tell z (neg_ℤ more)) (high_tell z more)
      (keeps_low quotients clamped inner z (neg_ℤ less) (neg_ℤ more) (omega (arith, ints)) given.0)
      (keeps_high quotients clamped inner z less more falls given.1)

  truncated_along : (x y z : ℕ) → IsWithin (range_of inner x) (range_of outer x) → IsWithin (range_of inner y) (range_of outer y)
      → All (Keeps inner) (truncated_tells x y z inner) → All (Keeps inner) (truncated_tells x y z outer)
  truncated_along x y z h k all =
      let P : Tell → Type 0 = Keeps inner in
      All-when P (excludes_zero (range_of outer y)) (corner_tells z (range_of outer x) (range_of outer y)) (λ e.
      let s = one_sided (range_of outer y) e in
      let s' = within_one_sided (range_of inner y) (range_of outer y) k s in
      let given = two-All P (low_tell z (least_quotient (range_of inner x) (range_of inner y))) (high_tell z (greatest_quotient (range_of inner x) (range_of inner y)))
      (when-All P (excludes_zero (range_of inner y)) (corner_tells z (range_of inner x) (range_of inner y)) (excluded (range_of inner y) s') all) in
      All-two P (low_tell z (least_quotient (range_of outer x) (range_of outer y))) (high_tell z (greatest_quotient (range_of outer x) (range_of outer y)))
      (keeps_low quotients clamped inner z (least_quotient (range_of inner x) (range_of inner y)) (least_quotient (range_of outer x) (range_of outer y))
      (least_quotient_rises (range_of outer x) (range_of outer y) (range_of inner x) (range_of inner y) h k s) given.0)
      (keeps_high quotients clamped inner z (greatest_quotient (range_of inner x) (range_of inner y)) (greatest_quotient (range_of outer x) (range_of outer y))
      (greatest_quotient_falls (range_of outer x) (range_of outer y) (range_of inner x) (range_of inner y) h k s) given.1))

  dividend_along : (x y z : ℕ) → IsWithin (range_of inner y) (range_of outer y) → IsWithin (range_of inner z) (range_of outer z) → pos 0 <ℤ size_of (range_of inner y)
      → All (Keeps inner) (dividend_tells x y z inner) → All (Keeps inner) (dividend_tells x y z outer)
  dividend_along x y z k l some all =
      let P : Tell → Type 0 = Keeps inner in
      let less = size_of (range_of inner y) in
      let more = size_of (range_of outer y) in
      let falls : less ≤ℤ more = size_falls inner outer y k in
      let least = least_product (range_of inner z) (range_of inner y) in
      let greatest = greatest_product (range_of inner z) (range_of inner y) in
      let outer_least = least_product (range_of outer z) (range_of outer y) in
      let outer_greatest = greatest_product (range_of outer z) (range_of outer y) in
      let rises : outer_least ≤ℤ least = least_product_rises corners (range_of outer z) (range_of outer y) (range_of inner z) (range_of inner y) l k in
      let lowers : greatest ≤ℤ outer_greatest = greatest_product_falls corners (range_of outer z) (range_of outer y) (range_of inner z) (range_of inner y) l k in
      let test : true ≡ int_lt (pos 0) less = omega (arith, ints) in
      let given = two-All P (low_tell x (least -ℤ (less -ℤ pos 1))) (high_tell x (greatest +ℤ (less -ℤ pos 1)))
      (when-All P (int_lt (pos 0) less) (rest_tells x (range_of inner y) (range_of inner z)) (sym test) all) in
      All-when P (int_lt (pos 0) more) (rest_tells x (range_of outer y) (range_of outer z)) (λ e.
      All-two P (low_tell x (outer_least -ℤ (more -ℤ pos 1))) (high_tell x (outer_greatest +ℤ (more -ℤ pos 1)))
      (keeps_low quotients clamped inner x (least -ℤ (less -ℤ pos 1)) (outer_least -ℤ (more -ℤ pos 1)) (omega (arith, ints)) given.0)
      (keeps_high quotients clamped inner x (greatest +ℤ (less -ℤ pos 1)) (outer_greatest +ℤ (more -ℤ pos 1)) (omega (arith, ints)) given.1))

  pub div_monotone : (x y z : ℕ) → IsProperIn (x ∷ y ∷ z ∷ []) inner → IsInsideIn (x ∷ y ∷ z ∷ []) inner outer → All (Keeps inner) (div_tells x y z inner) → All (Keeps inner) (div_tells x y z outer)
  unfolding div_tells
  div_monotone x y z proper inside all =
      let P : Tell → Type 0 = Keeps inner in
      let y_proper = proper 1 (omega arith) in
      let wx = within inner outer x (inside.lows 0 (omega arith)) (proper 0 (omega arith)) (inside.highs 0 (omega arith)) in
      let wy = within inner outer y (inside.lows 1 (omega arith)) y_proper (inside.highs 1 (omega arith)) in
      let wz = within inner outer z (inside.lows 2 (omega arith)) (proper 2 (omega arith)) (inside.highs 2 (omega arith)) in
      let divisor = All-left P (divisor_tells y inner) (shrinking_tells x z inner ++ (truncated_tells x y z inner ++ dividend_tells x y z inner)) all in
      let rest = All-right P (divisor_tells y inner) (shrinking_tells x z inner ++ (truncated_tells x y z inner ++ dividend_tells x y z inner)) all in
      let shrinking = All-left P (shrinking_tells x z inner) (truncated_tells x y z inner ++ dividend_tells x y z inner) rest in
      let parts = All-right P (shrinking_tells x z inner) (truncated_tells x y z inner ++ dividend_tells x y z inner) rest in
      All-append P (divisor_tells y outer) (shrinking_tells x z outer ++ (truncated_tells x y z outer ++ dividend_tells x y z outer))
      (divisor_along clamped inner outer y y_proper wy divisor)
      (All-append P (shrinking_tells x z outer) (truncated_tells x y z outer ++ dividend_tells x y z outer)
      (shrinking_along x z wx shrinking)
      (All-append P (truncated_tells x y z outer) (dividend_tells x y z outer)
      (truncated_along x y z wx wy (All-left P (truncated_tells x y z inner) (dividend_tells x y z inner) parts))
      (dividend_along x y z wy wz (some_size clamped inner y divisor y_proper) (All-right P (truncated_tells x y z inner) (dividend_tells x y z inner) parts))))

-- ---- at a point

module _ (b : Bounds) (x y : ℕ) (fx : low_of b x ≡ high_of b x) (fy : low_of b y ≡ high_of b y) where
  least_quotient_point : least_quotient (range_of b x) (range_of b y) ≡ quotient_of (low_of b x) (low_of b y)
  unfolding least_quotient
  least_quotient_point =
      (λ i. least_quotient (low_of b x, sym fx i) (low_of b y, sym fy i)) ∙ least_of_same (quotient_of (low_of b x) (low_of b y))

  greatest_quotient_point : greatest_quotient (range_of b x) (range_of b y) ≡ quotient_of (low_of b x) (low_of b y)
  unfolding greatest_quotient
  greatest_quotient_point =
      (λ i. greatest_quotient (low_of b x, sym fx i) (low_of b y, sym fy i)) ∙ greatest_of_same (quotient_of (low_of b x) (low_of b y))

module _ (clamped : ClampOrder) (b : Bounds) (x y z : ℕ) (fx : IsFixed b x) (fy : IsFixed b y) (fz : IsFixed b z) where
  values : quotient_of (value_of (point_of b) x) (value_of (point_of b) y) ≡ quotient_of (low_of b x) (low_of b y)
  values = (λ i. quotient_of (value-point b x i) (value-point b y i))

  pub div_closed_holds : All (Keeps b) (div_tells x y z b) → IsQuotient x y z (point_of b)
  unfolding div_tells
  div_closed_holds all =
      let P : Tell → Type 0 = Keeps b in
      let divisor = All-left P (divisor_tells y b) (shrinking_tells x z b ++ (truncated_tells x y z b ++ dividend_tells x y z b)) all in
      let rest = All-right P (divisor_tells y b) (shrinking_tells x z b ++ (truncated_tells x y z b ++ dividend_tells x y z b)) all in
      let parts = All-right P (shrinking_tells x z b) (truncated_tells x y z b ++ dividend_tells x y z b) rest in
      let n = low_not_zero clamped b y divisor in
      let told = two-All P (low_tell z (least_quotient (range_of b x) (range_of b y))) (high_tell z (greatest_quotient (range_of b x) (range_of b y)))
      (when-All P (excludes_zero (range_of b y)) (corner_tells z (range_of b x) (range_of b y)) (excluded_point b y fy.fixed n)
      (All-left P (truncated_tells x y z b) (dividend_tells x y z b) parts)) in
      let low = least_quotient_point b x y fx.fixed fy.fixed in
      let high = greatest_quotient_point b x y fx.fixed fy.fixed in
      let own = fz.fixed in
      let from = (clamped.below_number (low_of b z) (least_quotient (range_of b x) (range_of b y)) fz.low).0 told.0 in
      let to = (clamped.above_number (high_of b z) (greatest_quotient (range_of b x) (range_of b y)) (high_number b z fz)).0 told.1 in
      let equal : quotient_of (low_of b x) (low_of b y) ≡ low_of b z = omega (arith, ints) in
      (λ e. n (sym (value-point b y) ∙ e), values ∙ equal ∙ sym (value-point b z))

  -- what the quotient times the divisor leaves of the dividend
  near_product : low_of b y ≢ pos 0 → quotient_of (low_of b x) (low_of b y) ≡ low_of b z
      → ((low_of b z *ℤ low_of b y -ℤ (pos (unsigned_abs (low_of b y)) -ℤ pos 1)) ≤ℤ low_of b x)
      × (low_of b x ≤ℤ (low_of b z *ℤ low_of b y +ℤ (pos (unsigned_abs (low_of b y)) -ℤ pos 1)))
  near_product n equal =
      let r = remainder_of (low_of b x) (low_of b y) in
      let small = (remainder_is_rest (low_of b x) (low_of b y) n).small in
      let whole : low_of b z *ℤ low_of b y +ℤ r ≡ low_of b x =
      subst (λ (q : ℤ). q *ℤ low_of b y +ℤ r ≡ low_of b x) equal (quotient_and_remainder (low_of b x) (low_of b y)) in
      (omega (arith, ints), omega (arith, ints))

  pub div_holds_closed : IsQuotient x y z (point_of b) → All (Keeps b) (div_tells x y z b)
  unfolding div_tells
  div_holds_closed holds =
      let P : Tell → Type 0 = Keeps b in
      let n : low_of b y ≢ pos 0 = λ e. holds.0 (value-point b y ∙ e) in
      let equal : quotient_of (low_of b x) (low_of b y) ≡ low_of b z = sym values ∙ holds.1 ∙ value-point b z in
      let low = least_quotient_point b x y fx.fixed fy.fixed in
      let high = greatest_quotient_point b x y fx.fixed fy.fixed in
      let own = fz.fixed in
      let x_own = fx.fixed in
      let x_size = size_point b x fx.fixed in
      let y_size = size_point b y fy.fixed in
      let shrinks : unsigned_abs (low_of b z) ≤ unsigned_abs (low_of b x) = subst (λ (q : ℤ). unsigned_abs q ≤ unsigned_abs (low_of b x)) equal (quotient_small (low_of b x) (low_of b y)) in
      let near = near_product n equal in
      let above = near.0 in
      let below = near.1 in
      let least = least_product_point b z y fz.fixed fy.fixed in
      let greatest = greatest_product_point b z y fz.fixed fy.fixed in
      All-append P (divisor_tells y b) (shrinking_tells x z b ++ (truncated_tells x y z b ++ dividend_tells x y z b))
      (divisor_kept b y fy.fixed n)
      (All-append P (shrinking_tells x z b) (truncated_tells x y z b ++ dividend_tells x y z b)
      (All-two P (low_tell z (neg_ℤ (size_of (range_of b x)))) (high_tell z (size_of (range_of b x)))
      ((clamped.below_number (low_of b z) (neg_ℤ (size_of (range_of b x))) fz.low).1 (omega (arith, ints)))
      ((clamped.above_number (high_of b z) (size_of (range_of b x)) (high_number b z fz)).1 (omega (arith, ints))))
      (All-append P (truncated_tells x y z b) (dividend_tells x y z b)
      (All-when P (excludes_zero (range_of b y)) (corner_tells z (range_of b x) (range_of b y)) (λ t.
      All-two P (low_tell z (least_quotient (range_of b x) (range_of b y))) (high_tell z (greatest_quotient (range_of b x) (range_of b y)))
      ((clamped.below_number (low_of b z) (least_quotient (range_of b x) (range_of b y)) fz.low).1 (omega (arith, ints)))
      ((clamped.above_number (high_of b z) (greatest_quotient (range_of b x) (range_of b y)) (high_number b z fz)).1 (omega (arith, ints)))))
      (All-when P (int_lt (pos 0) (size_of (range_of b y))) (rest_tells x (range_of b y) (range_of b z)) (λ t.
      All-two P (low_tell x (least_product (range_of b z) (range_of b y) -ℤ (size_of (range_of b y) -ℤ pos 1))) (high_tell x (greatest_product (range_of b z) (range_of b y) +ℤ (size_of (range_of b y) -ℤ pos 1)))
      ((clamped.below_number (low_of b x) (least_product (range_of b z) (range_of b y) -ℤ (size_of (range_of b y) -ℤ pos 1)) fx.low).1 (omega (arith, ints)))
      ((clamped.above_number (high_of b x) (greatest_product (range_of b z) (range_of b y) +ℤ (size_of (range_of b y) -ℤ pos 1)) (high_number b x fx)).1 (omega (arith, ints)))))))

-- ---- places

pub div_placed : ClampOrder → (count x y z : ℕ) (b : Bounds) → AreVariables count (x ∷ y ∷ z ∷ []) → All (IsPlaced count (x ∷ y ∷ z ∷ [])) (div_tells x y z b)
unfolding div_tells
div_placed clamped count x y z b variables =
    let vars = x ∷ y ∷ z ∷ [] in
    let P : Tell → Type 0 = IsPlaced count vars in
    All-append P (divisor_tells y b) (shrinking_tells x z b ++ (truncated_tells x y z b ++ dividend_tells x y z b))
    (divisor_placed clamped count vars 1 b variables (omega arith))
    (All-append P (shrinking_tells x z b) (truncated_tells x y z b ++ dividend_tells x y z b)
    (All-two P (low_tell z (neg_ℤ (size_of (range_of b x)))) (high_tell z (size_of (range_of b x)))
    (low_placed clamped count vars variables 2 _ (omega arith)) (high_placed clamped count vars variables 2 _ (omega arith)))
    (All-append P (truncated_tells x y z b) (dividend_tells x y z b)
    (All-when P (excludes_zero (range_of b y)) (corner_tells z (range_of b x) (range_of b y)) (λ t. All-two P (low_tell z (least_quotient (range_of b x) (range_of b y))) (high_tell z (greatest_quotient (range_of b x) (range_of b y)))
    (low_placed clamped count vars variables 2 _ (omega arith)) (high_placed clamped count vars variables 2 _ (omega arith))))
    (All-when P (int_lt (pos 0) (size_of (range_of b y))) (rest_tells x (range_of b y) (range_of b z)) (λ t. All-two P (low_tell x (least_product (range_of b z) (range_of b y) -ℤ (size_of (range_of b y) -ℤ pos 1))) (high_tell x (greatest_product (range_of b z) (range_of b y) +ℤ (size_of (range_of b y) -ℤ pos 1)))
    (low_placed clamped count vars variables 0 _ (omega arith)) (high_placed clamped count vars variables 0 _ (omega arith))))))

-- the tells as they depend on three ranges
tells_at : ℕ → ℕ → ℕ → Range → Range → Range → List Tell
tells_at x y z rx ry rz =
    (when (int_eq ry.0 (pos 0)) (low_tell y (pos 1) ∷ []) ++ when (int_eq ry.1 (pos 0)) (high_tell y (negsuc 0) ∷ []))
    ++ ((low_tell z (neg_ℤ (size_of rx)) ∷ high_tell z (size_of rx) ∷ [])
    ++ (when (excludes_zero ry) (corner_tells z rx ry) ++ when (int_lt (pos 0) (size_of ry)) (rest_tells x ry rz)))

pub div_local : (x y z : ℕ) (b c : Bounds) → AgreeIn (x ∷ y ∷ z ∷ []) b c → div_tells x y z b ≡ div_tells x y z c
unfolding div_tells tells_at
div_local x y z b c agree =
    let xl = agree.lows 0 (omega arith) in
    let xh = agree.highs 0 (omega arith) in
    let yl = agree.lows 1 (omega arith) in
    let yh = agree.highs 1 (omega arith) in
    let zl = agree.lows 2 (omega arith) in
    let zh = agree.highs 2 (omega arith) in
    (λ i. tells_at x y z (xl i, xh i) (yl i, yh i) (zl i, zh i))

pub div_local_relation : (x y z : ℕ) (f g : List ℤ) → SameValuesIn (x ∷ y ∷ z ∷ []) f g → IsQuotient x y z f → IsQuotient x y z g
div_local_relation x y z f g same holds =
    let p = same 0 (omega arith) in
    let q = same 1 (omega arith) in
    let r = same 2 (omega arith) in
    (λ e. holds.0 (q ∙ e), (λ i. quotient_of (sym p i) (sym q i)) ∙ holds.1 ∙ r)
