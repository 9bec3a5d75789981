-- The product: monotone, exact at a point, its tells on its own variables, and these alone.
use Rattle.std.proofs.Common.{◌≡◌, ℕ, List, [], ◌∷◌, ◌++◌, true, ℤ, pos, ◌*ℤ◌, ◌≤ℤ◌, ◌<ℤ◌, inl, inr, ⊎_elim, sym, subst, ◌∙◌, arith}
use Rattle.std.proofs.lemmas.Int.{ints, clamps}
use Rattle.std.proofs.lemmas.Bool.{or_cases}
use Rattle.std.proofs.lemmas.List.Elements.{All-append}
use Rattle.std.specs.Int.RustNames.{int_lt}
use Rattle.std.specs.List.{All}
use Rattle.tells.specs.declared.tell.Tell.{Tell}
use Rattle.interval.specs.Limits.{IsNumber, ClampOrder}
use Rattle.interval.specs.Quotients.{floor_of, ceiling_of, QuotientOrder}
use Rattle.interval.specs.Corners.{Range, IsIn, IsOneSided, CornerOrder, least_of_four, greatest_of_four, least_product, greatest_product, least_ceiling, greatest_floor}
use Rattle.interval.specs.Boxes.{Bounds, low_of, high_of}
use Rattle.tells.specs.Words.{low_tell, high_tell, when, Keeps, value_of, point_of, AreVariables, AgreeIn, SameValuesIn, IsProperIn, IsInsideIn}
use Rattle.arithmetic_tells.specs.Times.{range_of, excludes_zero, product_tells, quotient_tells, factor_tells, times_tells, IsProduct}
use Rattle.arithmetic_tells.proofs.Lists.{All-left, All-right, All-two, two-All, All-when, when-All}
use Rattle.arithmetic_tells.proofs.LiteralLaws.{value-point}
use Rattle.arithmetic_tells.proofs.BoundLaws.{keeps_low, keeps_high}
use Rattle.arithmetic_tells.proofs.LiteralLaws.{or_true}
use Rattle.arithmetic_tells.proofs.PlaceLaws.{IsPlaced, low_placed, high_placed}

-- what is at most four numbers is at most the least of them, and the mirror
pub under_four : (z p q r s : ℤ) → z ≤ℤ p → z ≤ℤ q → z ≤ℤ r → z ≤ℤ s → z ≤ℤ least_of_four p q r s
under_four z p q r s e f g h = omega (arith, ints, clamps)

pub over_four : (z p q r s : ℤ) → p ≤ℤ z → q ≤ℤ z → r ≤ℤ z → s ≤ℤ z → greatest_of_four p q r s ≤ℤ z
over_four z p q r s e f g h = omega (arith, ints, clamps)

-- both bounds of the inner range are in the outer
pub record IsWithin (inner outer : Range) : Type 0 where
  pub low : IsIn outer inner.0
  pub high : IsIn outer inner.1

module _ (corners : CornerOrder) (x y x' y' : Range) (h : IsWithin x' x) (k : IsWithin y' y) where
  pub least_product_rises : least_product x y ≤ℤ least_product x' y'
  unfolding least_product
  least_product_rises =
      under_four (least_product x y) (x'.0 *ℤ y'.0) (x'.0 *ℤ y'.1) (x'.1 *ℤ y'.0) (x'.1 *ℤ y'.1)
      (corners.products_from x y x'.0 y'.0 h.low k.low) (corners.products_from x y x'.0 y'.1 h.low k.high)
      (corners.products_from x y x'.1 y'.0 h.high k.low) (corners.products_from x y x'.1 y'.1 h.high k.high)

  pub greatest_product_falls : greatest_product x' y' ≤ℤ greatest_product x y
  unfolding greatest_product
  greatest_product_falls =
      over_four (greatest_product x y) (x'.0 *ℤ y'.0) (x'.0 *ℤ y'.1) (x'.1 *ℤ y'.0) (x'.1 *ℤ y'.1)
      (corners.products_to x y x'.0 y'.0 h.low k.low) (corners.products_to x y x'.0 y'.1 h.low k.high)
      (corners.products_to x y x'.1 y'.0 h.high k.low) (corners.products_to x y x'.1 y'.1 h.high k.high)

  least_ceiling_rises : IsOneSided y → least_ceiling x y ≤ℤ least_ceiling x' y'
  unfolding least_ceiling
  least_ceiling_rises s =
      under_four (least_ceiling x y) (ceiling_of x'.0 y'.0) (ceiling_of x'.0 y'.1) (ceiling_of x'.1 y'.0) (ceiling_of x'.1 y'.1)
      (corners.ceilings_from x y x'.0 y'.0 h.low k.low s) (corners.ceilings_from x y x'.0 y'.1 h.low k.high s)
      (corners.ceilings_from x y x'.1 y'.0 h.high k.low s) (corners.ceilings_from x y x'.1 y'.1 h.high k.high s)

  greatest_floor_falls : IsOneSided y → greatest_floor x' y' ≤ℤ greatest_floor x y
  unfolding greatest_floor
  greatest_floor_falls s =
      over_four (greatest_floor x y) (floor_of x'.0 y'.0) (floor_of x'.0 y'.1) (floor_of x'.1 y'.0) (floor_of x'.1 y'.1)
      (corners.floors_to x y x'.0 y'.0 h.low k.low s) (corners.floors_to x y x'.0 y'.1 h.low k.high s)
      (corners.floors_to x y x'.1 y'.0 h.high k.low s) (corners.floors_to x y x'.1 y'.1 h.high k.high s)

-- the test says that the range is on one side of 0
pub one_sided : (r : Range) → excludes_zero r ≡ true → IsOneSided r
one_sided r e = ⊎_elim (λ p. inl (omega (arith, ints))) (λ q. inr (omega (arith, ints))) (or_cases (int_lt (pos 0) r.0) (int_lt r.1 (pos 0)) e)

pub excluded : (r : Range) → IsOneSided r → excludes_zero r ≡ true
excluded r s = or_true (int_lt (pos 0) r.0) (int_lt r.1 (pos 0)) (⊎_elim (λ p. inl (omega (arith, ints))) (λ q. inr (omega (arith, ints))) s)

pub within_one_sided : (r' r : Range) → IsWithin r' r → IsOneSided r → IsOneSided r'
within_one_sided r' r h s =
    let low = h.low.from in
    let high = h.high.to in
    ⊎_elim (λ p. inl (omega (arith, ints))) (λ q. inr (omega (arith, ints))) s

pub within : (inner outer : Bounds) (v : ℕ) → low_of outer v ≤ℤ low_of inner v → low_of inner v ≤ℤ high_of inner v → high_of inner v ≤ℤ high_of outer v → IsWithin (range_of inner v) (range_of outer v)
within inner outer v p q r = record {
  low = record { from = p; to = omega (arith, ints) };
  high = record { from = omega (arith, ints); to = r };
}

-- ---- monotone

module _ (inner outer : Bounds) (quotients : QuotientOrder) (clamped : ClampOrder) (corners : CornerOrder) where
  factor_along : (x y z : ℕ) → IsWithin (range_of inner y) (range_of outer y) → IsWithin (range_of inner z) (range_of outer z)
      → All (Keeps inner) (factor_tells x y z inner) → All (Keeps inner) (factor_tells x y z outer)
  factor_along x y z h k all =
      let P : Tell → Type 0 = Keeps inner in
      All-when P (excludes_zero (range_of outer y)) (quotient_tells x (range_of outer z) (range_of outer y)) (λ e.
      let s = one_sided (range_of outer y) e in
      let s' = within_one_sided (range_of inner y) (range_of outer y) h s in
      let given = two-All P (low_tell x (least_ceiling (range_of inner z) (range_of inner y))) (high_tell x (greatest_floor (range_of inner z) (range_of inner y)))
      (when-All P (excludes_zero (range_of inner y)) (quotient_tells x (range_of inner z) (range_of inner y)) (excluded (range_of inner y) s') all) in
      All-two P (low_tell x (least_ceiling (range_of outer z) (range_of outer y))) (high_tell x (greatest_floor (range_of outer z) (range_of outer y)))
      (keeps_low quotients clamped inner x (least_ceiling (range_of inner z) (range_of inner y)) (least_ceiling (range_of outer z) (range_of outer y))
      (least_ceiling_rises corners (range_of outer z) (range_of outer y) (range_of inner z) (range_of inner y) k h s) given.0)
      (keeps_high quotients clamped inner x (greatest_floor (range_of inner z) (range_of inner y)) (greatest_floor (range_of outer z) (range_of outer y))
      (greatest_floor_falls corners (range_of outer z) (range_of outer y) (range_of inner z) (range_of inner y) k h s) given.1))

  pub times_monotone : (x y z : ℕ) → IsProperIn (x ∷ y ∷ z ∷ []) inner → IsInsideIn (x ∷ y ∷ z ∷ []) inner outer → All (Keeps inner) (times_tells x y z inner) → All (Keeps inner) (times_tells x y z outer)
  unfolding times_tells
  times_monotone x y z proper inside all =
      let P : Tell → Type 0 = Keeps inner in
      let wx = within inner outer x (inside.lows 0 (omega arith)) (proper 0 (omega arith)) (inside.highs 0 (omega arith)) in
      let wy = within inner outer y (inside.lows 1 (omega arith)) (proper 1 (omega arith)) (inside.highs 1 (omega arith)) in
      let wz = within inner outer z (inside.lows 2 (omega arith)) (proper 2 (omega arith)) (inside.highs 2 (omega arith)) in
      let products = two-All P (low_tell z (least_product (range_of inner x) (range_of inner y))) (high_tell z (greatest_product (range_of inner x) (range_of inner y)))
      (All-left P (product_tells x y z inner) (factor_tells x y z inner ++ factor_tells y x z inner) all) in
      let factors = All-right P (product_tells x y z inner) (factor_tells x y z inner ++ factor_tells y x z inner) all in
      All-append P (product_tells x y z outer) (factor_tells x y z outer ++ factor_tells y x z outer)
      (All-two P (low_tell z (least_product (range_of outer x) (range_of outer y))) (high_tell z (greatest_product (range_of outer x) (range_of outer y)))
      (keeps_low quotients clamped inner z (least_product (range_of inner x) (range_of inner y)) (least_product (range_of outer x) (range_of outer y))
      (least_product_rises corners (range_of outer x) (range_of outer y) (range_of inner x) (range_of inner y) wx wy) products.0)
      (keeps_high quotients clamped inner z (greatest_product (range_of inner x) (range_of inner y)) (greatest_product (range_of outer x) (range_of outer y))
      (greatest_product_falls corners (range_of outer x) (range_of outer y) (range_of inner x) (range_of inner y) wx wy) products.1))
      (All-append P (factor_tells x y z outer) (factor_tells y x z outer)
      (factor_along x y z wy wz (All-left P (factor_tells x y z inner) (factor_tells y x z inner) factors))
      (factor_along y x z wx wz (All-right P (factor_tells x y z inner) (factor_tells y x z inner) factors)))

-- ---- at a point

pub least_of_same : (p : ℤ) → least_of_four p p p p ≡ p
least_of_same p = omega (arith, ints, clamps)

pub greatest_of_same : (p : ℤ) → greatest_of_four p p p p ≡ p
greatest_of_same p = omega (arith, ints, clamps)

module _ (b : Bounds) (x y : ℕ) (fx : low_of b x ≡ high_of b x) (fy : low_of b y ≡ high_of b y) where
  pub least_product_point : least_product (range_of b x) (range_of b y) ≡ low_of b x *ℤ low_of b y
  unfolding least_product
  least_product_point =
      (λ i. least_product (low_of b x, sym fx i) (low_of b y, sym fy i)) ∙ least_of_same (low_of b x *ℤ low_of b y)

  pub greatest_product_point : greatest_product (range_of b x) (range_of b y) ≡ low_of b x *ℤ low_of b y
  unfolding greatest_product
  greatest_product_point =
      (λ i. greatest_product (low_of b x, sym fx i) (low_of b y, sym fy i)) ∙ greatest_of_same (low_of b x *ℤ low_of b y)

  least_ceiling_point : least_ceiling (range_of b x) (range_of b y) ≡ ceiling_of (low_of b x) (low_of b y)
  unfolding least_ceiling
  least_ceiling_point =
      (λ i. least_ceiling (low_of b x, sym fx i) (low_of b y, sym fy i)) ∙ least_of_same (ceiling_of (low_of b x) (low_of b y))

  greatest_floor_point : greatest_floor (range_of b x) (range_of b y) ≡ floor_of (low_of b x) (low_of b y)
  unfolding greatest_floor
  greatest_floor_point =
      (λ i. greatest_floor (low_of b x, sym fx i) (low_of b y, sym fy i)) ∙ greatest_of_same (floor_of (low_of b x) (low_of b y))

-- a variable of a point: its bounds are one number of a model
pub record IsFixed (b : Bounds) (v : ℕ) : Type 0 where
  pub fixed : low_of b v ≡ high_of b v
  pub low : IsNumber (low_of b v)

pub high_number : (b : Bounds) (v : ℕ) → IsFixed b v → IsNumber (high_of b v)
high_number b v f = let N : ℤ → Type 0 = λ z. IsNumber z in subst N f.fixed f.low

module _ (quotients : QuotientOrder) (clamped : ClampOrder) (b : Bounds) where
  factor_kept : (x y z : ℕ) → IsFixed b x → IsFixed b y → IsFixed b z → low_of b x *ℤ low_of b y ≡ low_of b z → All (Keeps b) (factor_tells x y z b)
  factor_kept x y z fx fy fz holds =
      let e = fx.fixed in
      let low = least_ceiling_point b z y fz.fixed fy.fixed in
      let high = greatest_floor_point b z y fz.fixed fy.fixed in
      let c = ceiling_of (low_of b z) (low_of b y) in
      let f = floor_of (low_of b z) (low_of b y) in
      let bounds : IsOneSided (range_of b y) → (c ≤ℤ low_of b x) × (low_of b x ≤ℤ f) =
      λ s. ⊎_elim {C = (c ≤ℤ low_of b x) × (low_of b x ≤ℤ f)}
      (λ p. ((quotients.ceiling_above_zero (low_of b z) (low_of b y) (low_of b x) p).1 (omega (arith, ints)), (quotients.floor_above_zero (low_of b z) (low_of b y) (low_of b x) p).1 (omega (arith, ints))))
      (λ q.
      let own = fy.fixed in
      let below : low_of b y <ℤ pos 0 = omega (arith, ints) in
      ((quotients.ceiling_below_zero (low_of b z) (low_of b y) (low_of b x) below).1 (omega (arith, ints)), (quotients.floor_below_zero (low_of b z) (low_of b y) (low_of b x) below).1 (omega (arith, ints))))
      s in
      All-when (Keeps b) (excludes_zero (range_of b y)) (quotient_tells x (range_of b z) (range_of b y)) (λ t.
      let both = bounds (one_sided (range_of b y) t) in
      let from = both.0 in
      let to = both.1 in
      All-two (Keeps b) (low_tell x (least_ceiling (range_of b z) (range_of b y))) (high_tell x (greatest_floor (range_of b z) (range_of b y)))
      ((clamped.below_number (low_of b x) (least_ceiling (range_of b z) (range_of b y)) fx.low).1 (omega (arith, ints)))
      ((clamped.above_number (high_of b x) (greatest_floor (range_of b z) (range_of b y)) (high_number b x fx)).1 (omega (arith, ints))))

  module _ (x y z : ℕ) (fx : IsFixed b x) (fy : IsFixed b y) (fz : IsFixed b z) where
    values : value_of (point_of b) x *ℤ value_of (point_of b) y ≡ low_of b x *ℤ low_of b y
    values = (λ i. value-point b x i *ℤ value-point b y i)

    pub times_closed_holds : All (Keeps b) (times_tells x y z b) → IsProduct x y z (point_of b)
    unfolding times_tells
    times_closed_holds all =
        let products = two-All (Keeps b) (low_tell z (least_product (range_of b x) (range_of b y))) (high_tell z (greatest_product (range_of b x) (range_of b y)))
        (All-left (Keeps b) (product_tells x y z b) (factor_tells x y z b ++ factor_tells y x z b) all) in
        let low = least_product_point b x y fx.fixed fy.fixed in
        let high = greatest_product_point b x y fx.fixed fy.fixed in
        let own = fz.fixed in
        let from = (clamped.below_number (low_of b z) (least_product (range_of b x) (range_of b y)) fz.low).0 products.0 in
        let to = (clamped.above_number (high_of b z) (greatest_product (range_of b x) (range_of b y)) (high_number b z fz)).0 products.1 in
        let equal : low_of b x *ℤ low_of b y ≡ low_of b z = omega (arith, ints) in
        values ∙ equal ∙ sym (value-point b z)

    pub times_holds_closed : IsProduct x y z (point_of b) → All (Keeps b) (times_tells x y z b)
    unfolding times_tells
    times_holds_closed holds =
        let P : Tell → Type 0 = Keeps b in
        let equal : low_of b x *ℤ low_of b y ≡ low_of b z = sym values ∙ holds ∙ value-point b z in
        let turned : low_of b y *ℤ low_of b x ≡ low_of b z = omega (arith, ints) in
        let low = least_product_point b x y fx.fixed fy.fixed in
        let high = greatest_product_point b x y fx.fixed fy.fixed in
        let own = fz.fixed in
        All-append P (product_tells x y z b) (factor_tells x y z b ++ factor_tells y x z b)
        (All-two P (low_tell z (least_product (range_of b x) (range_of b y))) (high_tell z (greatest_product (range_of b x) (range_of b y)))
        ((clamped.below_number (low_of b z) (least_product (range_of b x) (range_of b y)) fz.low).1 (omega (arith, ints)))
        ((clamped.above_number (high_of b z) (greatest_product (range_of b x) (range_of b y)) (high_number b z fz)).1 (omega (arith, ints))))
        (All-append P (factor_tells x y z b) (factor_tells y x z b) (factor_kept x y z fx fy fz equal) (factor_kept y x z fy fx fz turned))

-- ---- places

pub times_placed : ClampOrder → (count x y z : ℕ) (b : Bounds) → AreVariables count (x ∷ y ∷ z ∷ []) → All (IsPlaced count (x ∷ y ∷ z ∷ [])) (times_tells x y z b)
unfolding times_tells
times_placed clamped count x y z b variables =
    let vars = x ∷ y ∷ z ∷ [] in
    let P : Tell → Type 0 = IsPlaced count vars in
    All-append P (product_tells x y z b) (factor_tells x y z b ++ factor_tells y x z b)
    (All-two P (low_tell z (least_product (range_of b x) (range_of b y))) (high_tell z (greatest_product (range_of b x) (range_of b y)))
    (low_placed clamped count vars variables 2 _ (omega arith)) (high_placed clamped count vars variables 2 _ (omega arith)))
    (All-append P (factor_tells x y z b) (factor_tells y x z b)
    (All-when P (excludes_zero (range_of b y)) _ (λ e. All-two P (low_tell x (least_ceiling (range_of b z) (range_of b y))) (high_tell x (greatest_floor (range_of b z) (range_of b y)))
    (low_placed clamped count vars variables 0 _ (omega arith)) (high_placed clamped count vars variables 0 _ (omega arith))))
    (All-when P (excludes_zero (range_of b x)) _ (λ e. All-two P (low_tell y (least_ceiling (range_of b z) (range_of b x))) (high_tell y (greatest_floor (range_of b z) (range_of b x)))
    (low_placed clamped count vars variables 1 _ (omega arith)) (high_placed clamped count vars variables 1 _ (omega arith)))))

-- the tells as they depend on three ranges
tells_at : ℕ → ℕ → ℕ → Range → Range → Range → List Tell
tells_at x y z rx ry rz =
    (low_tell z (least_product rx ry) ∷ high_tell z (greatest_product rx ry) ∷ [])
    ++ (when (excludes_zero ry) (quotient_tells x rz ry) ++ when (excludes_zero rx) (quotient_tells y rz rx))

pub times_local : (x y z : ℕ) (b c : Bounds) → AgreeIn (x ∷ y ∷ z ∷ []) b c → times_tells x y z b ≡ times_tells x y z c
unfolding times_tells tells_at
times_local x y z b c agree =
    let xl = agree.lows 0 (omega arith) in
    let xh = agree.highs 0 (omega arith) in
    let yl = agree.lows 1 (omega arith) in
    let yh = agree.highs 1 (omega arith) in
    let zl = agree.lows 2 (omega arith) in
    let zh = agree.highs 2 (omega arith) in
    (λ i. tells_at x y z (xl i, xh i) (yl i, yh i) (zl i, zh i))

pub times_local_relation : (x y z : ℕ) (f g : List ℤ) → SameValuesIn (x ∷ y ∷ z ∷ []) f g → IsProduct x y z f → IsProduct x y z g
times_local_relation x y z f g same holds =
    let p = same 0 (omega arith) in
    let q = same 1 (omega arith) in
    let r = same 2 (omega arith) in
    (λ i. sym p i *ℤ sym q i) ∙ holds ∙ r
