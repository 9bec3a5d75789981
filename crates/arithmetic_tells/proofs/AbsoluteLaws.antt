-- The absolute value: monotone, exact at a point, its tells on its own variables, and these alone.
use Rattle.std.proofs.Common.{◌≡◌, ℕ, List, [], ◌∷◌, ◌++◌, true, false, cond, ℤ, pos, neg_ℤ, ◌≤ℤ◌, ◌<ℤ◌, unsigned_abs, sym, ap, subst, ◌∙◌, arith}
use Rattle.std.proofs.lemmas.Int.{ints, clamps, by_lt_z}
use Rattle.std.proofs.lemmas.List.Elements.{All-append}
use Rattle.std.specs.Int.RustNames.{int_lt, int_le}
use Rattle.std.specs.List.{All}
use Rattle.tells.specs.declared.tell.Tell.{Tell}
use Rattle.interval.specs.Limits.{IsNumber, ClampOrder}
use Rattle.interval.specs.Quotients.{QuotientOrder}
use Rattle.interval.specs.Boxes.{Bounds, low_of, high_of}
use Rattle.tells.specs.Words.{low_tell, high_tell, when, Keeps, point_of, AreVariables, AgreeIn, SameValuesIn, IsProperIn, IsInsideIn}
use Rattle.arithmetic_tells.specs.Absolute.{least_absolute, greatest_absolute, absolute_tells, within_tells, branch_tells, abs_tells, IsAbsolute}
use Rattle.arithmetic_tells.proofs.Lists.{All-left, All-right, All-one, one-All, All-two, two-All, All-when, when-All}
use Rattle.arithmetic_tells.proofs.LiteralLaws.{value-point}
use Rattle.arithmetic_tells.proofs.BoundLaws.{keeps_low, keeps_high}
use Rattle.arithmetic_tells.proofs.PlaceLaws.{IsPlaced, low_placed, high_placed}

-- ---- the least and the greatest absolute value

least_from_zero : (low high : ℤ) → pos 0 ≤ℤ low → least_absolute low high ≡ low
unfolding least_absolute
least_from_zero low high h =
    let e : true ≡ int_le (pos 0) low = omega (arith, ints) in
    (λ i. cond (sym e i) low (cond (int_le high (pos 0)) (neg_ℤ high) (pos 0)))

least_to_zero : (low high : ℤ) → low <ℤ pos 0 → high ≤ℤ pos 0 → least_absolute low high ≡ neg_ℤ high
unfolding least_absolute
least_to_zero low high h k =
    let e : false ≡ int_le (pos 0) low = omega (arith, ints) in
    let f : true ≡ int_le high (pos 0) = omega (arith, ints) in
    (λ i. cond (sym e i) low (cond (sym f i) (neg_ℤ high) (pos 0)))

least_around_zero : (low high : ℤ) → low <ℤ pos 0 → pos 0 <ℤ high → least_absolute low high ≡ pos 0
unfolding least_absolute
least_around_zero low high h k =
    let e : false ≡ int_le (pos 0) low = omega (arith, ints) in
    let f : false ≡ int_le high (pos 0) = omega (arith, ints) in
    (λ i. cond (sym e i) low (cond (sym f i) (neg_ℤ high) (pos 0)))

-- from 0 on the least absolute value is 0 or more
not_negative : (low high : ℤ) → pos 0 ≤ℤ least_absolute low high
not_negative low high = by_lt_z low (pos 0)
    (λ lt. by_lt_z (pos 0) high
    (λ lt2. let e = least_around_zero low high lt lt2 in omega (arith, ints))
    (λ le. let e = least_to_zero low high lt le in omega (arith, ints)))
    (λ ge. let e = least_from_zero low high ge in omega (arith, ints))

-- among fewer numbers the least absolute value isn't less
least_rises : (l l' h' h : ℤ) → l ≤ℤ l' → l' ≤ℤ h' → h' ≤ℤ h → least_absolute l h ≤ℤ least_absolute l' h'
least_rises l l' h' h p q r = by_lt_z l (pos 0)
    (λ lt. by_lt_z (pos 0) h
    (λ lt2. let e = least_around_zero l h lt lt2 in let n = not_negative l' h' in omega (arith, ints))
    (λ le. let e = least_to_zero l h lt le in by_lt_z l' (pos 0)
    (λ lt2. let f = least_to_zero l' h' lt2 (omega (arith, ints)) in omega (arith, ints))
    (λ ge. let f = least_from_zero l' h' ge in omega (arith, ints))))
    (λ ge. let e = least_from_zero l h ge in let f = least_from_zero l' h' (omega (arith, ints)) in omega (arith, ints))

pub greatest_falls : (l l' h' h : ℤ) → l ≤ℤ l' → h' ≤ℤ h → greatest_absolute l' h' ≤ℤ greatest_absolute l h
unfolding greatest_absolute
greatest_falls l l' h' h p r = omega (arith, ints, clamps)

-- of one number both are its absolute value
least_of_one : (z : ℤ) → least_absolute z z ≡ pos (unsigned_abs z)
least_of_one z = by_lt_z z (pos 0)
    (λ lt. let e = least_to_zero z z lt (omega (arith, ints)) in omega (arith, ints))
    (λ ge. let e = least_from_zero z z ge in omega (arith, ints))

pub greatest_of_one : (z : ℤ) → greatest_absolute z z ≡ pos (unsigned_abs z)
unfolding greatest_absolute
greatest_of_one z = omega (arith, ints, clamps)

-- ---- monotone

module _ (inner outer : Bounds) (quotients : QuotientOrder) (clamped : ClampOrder) (x y : ℕ) (proper : IsProperIn (x ∷ y ∷ []) inner) (inside : IsInsideIn (x ∷ y ∷ []) inner outer) where
  pub abs_monotone : All (Keeps inner) (abs_tells x y inner) → All (Keeps inner) (abs_tells x y outer)
  unfolding abs_tells
  abs_monotone all =
      let P : Tell → Type 0 = Keeps inner in
      let x_low = inside.lows 0 (omega arith) in
      let x_own = proper 0 (omega arith) in
      let x_high = inside.highs 0 (omega arith) in
      let y_low = inside.lows 1 (omega arith) in
      let y_own = proper 1 (omega arith) in
      let y_high = inside.highs 1 (omega arith) in
      let values = two-All P _ _ (All-left P (absolute_tells x y inner) (within_tells x y inner ++ branch_tells x y inner) all) in
      let away = All-right P (absolute_tells x y inner) (within_tells x y inner ++ branch_tells x y inner) all in
      let within = two-All P _ _ (All-left P (within_tells x y inner) (branch_tells x y inner) away) in
      let branches = All-right P (within_tells x y inner) (branch_tells x y inner) away in
      let above = int_lt (neg_ℤ (low_of inner y)) (low_of inner x) in
      let below = int_lt (high_of inner x) (low_of inner y) in
      let ups = All-left P (when above (low_tell x (low_of inner y) ∷ [])) (when below (high_tell x (neg_ℤ (low_of inner y)) ∷ [])) branches in
      let downs = All-right P (when above (low_tell x (low_of inner y) ∷ [])) (when below (high_tell x (neg_ℤ (low_of inner y)) ∷ [])) branches in
      All-append P (absolute_tells x y outer) (within_tells x y outer ++ branch_tells x y outer)
      (All-two P (low_tell y (least_absolute (low_of outer x) (high_of outer x))) (high_tell y (greatest_absolute (low_of outer x) (high_of outer x)))
      (keeps_low quotients clamped inner y (least_absolute (low_of inner x) (high_of inner x)) (least_absolute (low_of outer x) (high_of outer x)) (least_rises (low_of outer x) (low_of inner x) (high_of inner x) (high_of outer x) x_low x_own x_high) values.0)
      (keeps_high quotients clamped inner y (greatest_absolute (low_of inner x) (high_of inner x)) (greatest_absolute (low_of outer x) (high_of outer x)) (greatest_falls (low_of outer x) (low_of inner x) (high_of inner x) (high_of outer x) x_low x_high) values.1))
      (All-append P (within_tells x y outer) (branch_tells x y outer)
      (All-two P (high_tell x (high_of outer y)) (low_tell x (neg_ℤ (high_of outer y)))
      (keeps_high quotients clamped inner x (high_of inner y) (high_of outer y) y_high within.0)
      (keeps_low quotients clamped inner x (neg_ℤ (high_of inner y)) (neg_ℤ (high_of outer y)) (omega (arith, ints)) within.1))
      (All-append P (when (int_lt (neg_ℤ (low_of outer y)) (low_of outer x)) (low_tell x (low_of outer y) ∷ [])) (when (int_lt (high_of outer x) (low_of outer y)) (high_tell x (neg_ℤ (low_of outer y)) ∷ []))
      (All-when P (int_lt (neg_ℤ (low_of outer y)) (low_of outer x)) _ (λ e.
      let f : true ≡ above = omega (arith, ints) in
      All-one P (low_tell x (low_of outer y)) (keeps_low quotients clamped inner x (low_of inner y) (low_of outer y) y_low (one-All P (low_tell x (low_of inner y)) (when-All P above _ (sym f) ups)))))
      (All-when P (int_lt (high_of outer x) (low_of outer y)) _ (λ e.
      let f : true ≡ below = omega (arith, ints) in
      All-one P (high_tell x (neg_ℤ (low_of outer y))) (keeps_high quotients clamped inner x (neg_ℤ (low_of inner y)) (neg_ℤ (low_of outer y)) (omega (arith, ints)) (one-All P (high_tell x (neg_ℤ (low_of inner y))) (when-All P below _ (sym f) downs)))))))

-- ---- at a point

module _ (clamped : ClampOrder) (b : Bounds) (x y : ℕ) (x_point : low_of b x ≡ high_of b x) (y_point : low_of b y ≡ high_of b y) (x_number : IsNumber (low_of b x)) (y_number : IsNumber (low_of b y)) where
  least_at_point : least_absolute (low_of b x) (high_of b x) ≡ pos (unsigned_abs (low_of b x))
  least_at_point = ap (λ (z : ℤ). least_absolute (low_of b x) z) (sym x_point) ∙ least_of_one (low_of b x)

  greatest_at_point : greatest_absolute (low_of b x) (high_of b x) ≡ pos (unsigned_abs (low_of b x))
  greatest_at_point = ap (λ (z : ℤ). greatest_absolute (low_of b x) z) (sym x_point) ∙ greatest_of_one (low_of b x)

  pub abs_closed_holds : All (Keeps b) (abs_tells x y b) → IsAbsolute x y (point_of b)
  unfolding abs_tells
  abs_closed_holds all =
      let values = two-All (Keeps b) _ _ (All-left (Keeps b) (absolute_tells x y b) (within_tells x y b ++ branch_tells x y b) all) in
      let v0 = values.0 in
      let v1 = values.1 in
      let l = least_at_point in
      let g = greatest_at_point in
      let y_high : IsNumber (high_of b y) = let N : ℤ → Type 0 = λ z. IsNumber z in subst N y_point y_number in
      let from = (clamped.below_number (low_of b y) (least_absolute (low_of b x) (high_of b x)) y_number).0 v0 in
      let to = (clamped.above_number (high_of b y) (greatest_absolute (low_of b x) (high_of b x)) y_high).0 v1 in
      let equal : pos (unsigned_abs (low_of b x)) ≡ low_of b y = omega (arith, ints) in
      let e = value-point b x in
      let f = value-point b y in
      ap (λ (z : ℤ). pos (unsigned_abs z)) e ∙ equal ∙ sym f

  pub abs_holds_closed : IsAbsolute x y (point_of b) → All (Keeps b) (abs_tells x y b)
  unfolding abs_tells
  abs_holds_closed holds =
      let P : Tell → Type 0 = Keeps b in
      let e = value-point b x in
      let f = value-point b y in
      let equal : pos (unsigned_abs (low_of b x)) ≡ low_of b y = ap (λ (z : ℤ). pos (unsigned_abs z)) (sym e) ∙ holds ∙ f in
      let l = least_at_point in
      let g = greatest_at_point in
      let x_high : IsNumber (high_of b x) = let N : ℤ → Type 0 = λ z. IsNumber z in subst N x_point x_number in
      let y_high : IsNumber (high_of b y) = let N : ℤ → Type 0 = λ z. IsNumber z in subst N y_point y_number in
      All-append P (absolute_tells x y b) (within_tells x y b ++ branch_tells x y b)
      (All-two P (low_tell y (least_absolute (low_of b x) (high_of b x))) (high_tell y (greatest_absolute (low_of b x) (high_of b x)))
      ((clamped.below_number (low_of b y) (least_absolute (low_of b x) (high_of b x)) y_number).1 (omega (arith, ints)))
      ((clamped.above_number (high_of b y) (greatest_absolute (low_of b x) (high_of b x)) y_high).1 (omega (arith, ints))))
      (All-append P (within_tells x y b) (branch_tells x y b)
      (All-two P (high_tell x (high_of b y)) (low_tell x (neg_ℤ (high_of b y)))
      ((clamped.above_number (high_of b x) (high_of b y) x_high).1 (omega (arith, ints)))
      ((clamped.below_number (low_of b x) (neg_ℤ (high_of b y)) x_number).1 (omega (arith, ints))))
      (All-append P (when (int_lt (neg_ℤ (low_of b y)) (low_of b x)) (low_tell x (low_of b y) ∷ [])) (when (int_lt (high_of b x) (low_of b y)) (high_tell x (neg_ℤ (low_of b y)) ∷ []))
      (All-when P (int_lt (neg_ℤ (low_of b y)) (low_of b x)) _ (λ t. All-one P (low_tell x (low_of b y)) ((clamped.below_number (low_of b x) (low_of b y) x_number).1 (omega (arith, ints)))))
      (All-when P (int_lt (high_of b x) (low_of b y)) _ (λ t. All-one P (high_tell x (neg_ℤ (low_of b y))) ((clamped.above_number (high_of b x) (neg_ℤ (low_of b y)) x_high).1 (omega (arith, ints)))))))

-- ---- places

pub abs_placed : ClampOrder → (count x y : ℕ) (b : Bounds) → AreVariables count (x ∷ y ∷ []) → All (IsPlaced count (x ∷ y ∷ [])) (abs_tells x y b)
unfolding abs_tells
abs_placed clamped count x y b variables =
    let vars = x ∷ y ∷ [] in
    let P : Tell → Type 0 = IsPlaced count vars in
    All-append P (absolute_tells x y b) (within_tells x y b ++ branch_tells x y b)
    (All-two P (low_tell y (least_absolute (low_of b x) (high_of b x))) (high_tell y (greatest_absolute (low_of b x) (high_of b x)))
    (low_placed clamped count vars variables 1 _ (omega arith)) (high_placed clamped count vars variables 1 _ (omega arith)))
    (All-append P (within_tells x y b) (branch_tells x y b)
    (All-two P (high_tell x (high_of b y)) (low_tell x (neg_ℤ (high_of b y)))
    (high_placed clamped count vars variables 0 _ (omega arith)) (low_placed clamped count vars variables 0 _ (omega arith)))
    (All-append P (when (int_lt (neg_ℤ (low_of b y)) (low_of b x)) (low_tell x (low_of b y) ∷ [])) (when (int_lt (high_of b x) (low_of b y)) (high_tell x (neg_ℤ (low_of b y)) ∷ []))
    (All-when P (int_lt (neg_ℤ (low_of b y)) (low_of b x)) _ (λ e. All-one P (low_tell x (low_of b y)) (low_placed clamped count vars variables 0 _ (omega arith))))
    (All-when P (int_lt (high_of b x) (low_of b y)) _ (λ e. All-one P (high_tell x (neg_ℤ (low_of b y))) (high_placed clamped count vars variables 0 _ (omega arith))))))

-- the tells as they depend on four bounds
tells_at : ℕ → ℕ → ℤ → ℤ → ℤ → ℤ → List Tell
unfolding least_absolute greatest_absolute
tells_at x y xl xh yl yh =
    (low_tell y (least_absolute xl xh) ∷ high_tell y (greatest_absolute xl xh) ∷ [])
    ++ ((high_tell x yh ∷ low_tell x (neg_ℤ yh) ∷ [])
    ++ (when (int_lt (neg_ℤ yl) xl) (low_tell x yl ∷ []) ++ when (int_lt xh yl) (high_tell x (neg_ℤ yl) ∷ [])))

pub abs_local : (x y : ℕ) (b c : Bounds) → AgreeIn (x ∷ y ∷ []) b c → abs_tells x y b ≡ abs_tells x y c
unfolding abs_tells tells_at
abs_local x y b c agree =
    let p = agree.lows 0 (omega arith) in
    let q = agree.highs 0 (omega arith) in
    let r = agree.lows 1 (omega arith) in
    let s = agree.highs 1 (omega arith) in
    (λ i. tells_at x y (p i) (q i) (r i) (s i))

pub abs_local_relation : (x y : ℕ) (f g : List ℤ) → SameValuesIn (x ∷ y ∷ []) f g → IsAbsolute x y f → IsAbsolute x y g
abs_local_relation x y f g same holds =
    let p = same 0 (omega arith) in
    let q = same 1 (omega arith) in
    ap (λ (z : ℤ). pos (unsigned_abs z)) (sym p) ∙ holds ∙ q
