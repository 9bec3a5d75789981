-- The remainder: monotone, exact at a point, its tells on its own variables, and these alone.
use Rattle.std.proofs.Common.{◌≡◌, ◌≢◌, ℕ, List, [], ◌∷◌, ◌++◌, true, not, ◌&&◌, ℤ, pos, negsuc, ◌≤ℤ◌, ◌<ℤ◌, unsigned_abs, refl, sym, subst, ◌∙◌, arith}
use Rattle.std.proofs.lemmas.Int.{ints, clamps, by_lt_z}
use Rattle.std.proofs.lemmas.Bool.{and_parts, and_from, not_from_false, true≢false}
use Rattle.std.proofs.lemmas.Bool.Decides.{Decides-int_eq}
use Rattle.std.proofs.lemmas.List.Elements.{All-append}
use Rattle.std.specs.Int.RustNames.{int_lt}
use Rattle.std.specs.Ordering.{int_eq}
use Rattle.std.specs.List.{All}
use Rattle.tells.specs.declared.tell.Tell.{Tell}
use Rattle.interval.specs.Limits.{ClampOrder}
use Rattle.interval.specs.Quotients.{QuotientOrder}
use Rattle.interval.specs.Corners.{Range}
use Rattle.interval.specs.Boxes.{Bounds, low_of, high_of}
use Rattle.tells.specs.Words.{low_tell, high_tell, when, Keeps, value_of, point_of, AreVariables, AgreeIn, SameValuesIn, IsProperIn, IsInsideIn}
use Rattle.arithmetic_tells.specs.Times.{range_of}
use Rattle.arithmetic_tells.specs.Division.{size_of, divisor_tells}
use Rattle.arithmetic_tells.specs.Remainder.{remainder_of, least_remainder, greatest_remainder, between_tells, reach_tells, is_one, have_remainder, remainder_tells, fixed_tells, mod_tells, IsRemainder}
use Rattle.arithmetic_tells.proofs.Lists.{All-left, All-right, All-two, two-All, All-when, when-All}
use Rattle.arithmetic_tells.proofs.LiteralLaws.{value-point, by_bool, not_true}
use Rattle.arithmetic_tells.proofs.BoundLaws.{keeps_low, keeps_high}
use Rattle.arithmetic_tells.proofs.PlaceLaws.{IsPlaced, low_placed, high_placed}
use Rattle.arithmetic_tells.proofs.TimesLaws.{IsWithin, IsFixed, within, high_number}
use Rattle.arithmetic_tells.proofs.TruncationLaws.{IsRest, remainder_is_rest}
use Rattle.arithmetic_tells.proofs.DivisorLaws.{divisor_along, divisor_kept, divisor_placed, some_size, size_falls, size_point, low_not_zero}

-- ---- what the test of fixed numbers says

pub record AreFixed (x y : Range) : Type 0 where
  pub dividend : x.0 ≡ x.1
  pub divisor : y.0 ≡ y.1
  pub not_zero : y.0 ≢ pos 0

fixed_by : (x y : Range) → have_remainder x y ≡ true → AreFixed x y
fixed_by x y t =
    let outer = and_parts (is_one x) (is_one y && not (int_eq y.0 (pos 0))) t in
    let inner = and_parts (is_one y) (not (int_eq y.0 (pos 0))) outer.1 in
    record {
      dividend = (Decides-int_eq x.0 x.1).0 outer.0;
      divisor = (Decides-int_eq y.0 y.1).0 inner.0;
      not_zero = λ e. true≢false (sym ((Decides-int_eq y.0 (pos 0)).1 e) ∙ not_true (int_eq y.0 (pos 0)) inner.1);
    }

by_fixed : (x y : Range) → AreFixed x y → have_remainder x y ≡ true
by_fixed x y f =
    and_from (is_one x) (is_one y && not (int_eq y.0 (pos 0))) ((Decides-int_eq x.0 x.1).1 f.dividend)
    (and_from (is_one y) (not (int_eq y.0 (pos 0))) ((Decides-int_eq y.0 y.1).1 f.divisor)
    (by_bool (int_eq y.0 (pos 0)) (λ t. absurd (f.not_zero ((Decides-int_eq y.0 (pos 0)).0 t))) (λ t. not_from_false (int_eq y.0 (pos 0)) t)))

-- ---- monotone

least_rises : (x y x' y' : Range) → x.0 ≤ℤ x'.0 → size_of y' ≤ℤ size_of y → least_remainder x y ≤ℤ least_remainder x' y'
unfolding least_remainder
least_rises x y x' y' h k = omega (arith, ints, clamps)

greatest_falls : (x y x' y' : Range) → x'.1 ≤ℤ x.1 → size_of y' ≤ℤ size_of y → greatest_remainder x' y' ≤ℤ greatest_remainder x y
unfolding greatest_remainder
greatest_falls x y x' y' h k = omega (arith, ints, clamps)

module _ (inner outer : Bounds) (quotients : QuotientOrder) (clamped : ClampOrder) where
  reach_along : (x y z : ℕ) → IsWithin (range_of inner x) (range_of outer x) → IsWithin (range_of inner y) (range_of outer y) → pos 0 <ℤ size_of (range_of inner y)
      → All (Keeps inner) (reach_tells x y z inner) → All (Keeps inner) (reach_tells x y z outer)
  reach_along x y z h k some all =
      let P : Tell → Type 0 = Keeps inner in
      let falls = size_falls inner outer y k in
      let least = least_remainder (range_of inner x) (range_of inner y) in
      let greatest = greatest_remainder (range_of inner x) (range_of inner y) in
      let test : true ≡ int_lt (pos 0) (size_of (range_of inner y)) = omega (arith, ints) in
      let given = two-All P (low_tell z least) (high_tell z greatest)
      (when-All P (int_lt (pos 0) (size_of (range_of inner y))) (between_tells z (range_of inner x) (range_of inner y)) (sym test) all) in
      All-when P (int_lt (pos 0) (size_of (range_of outer y))) (between_tells z (range_of outer x) (range_of outer y)) (λ e.
      All-two P (low_tell z (least_remainder (range_of outer x) (range_of outer y))) (high_tell z (greatest_remainder (range_of outer x) (range_of outer y)))
      (keeps_low quotients clamped inner z least (least_remainder (range_of outer x) (range_of outer y))
      (least_rises (range_of outer x) (range_of outer y) (range_of inner x) (range_of inner y) h.low.from falls) given.0)
      (keeps_high quotients clamped inner z greatest (greatest_remainder (range_of outer x) (range_of outer y))
      (greatest_falls (range_of outer x) (range_of outer y) (range_of inner x) (range_of inner y) h.high.to falls) given.1))

  -- what is fixed in a box is the same number in a box inside
  same_low : (v : ℕ) → IsWithin (range_of inner v) (range_of outer v) → low_of outer v ≡ high_of outer v → low_of inner v ≡ low_of outer v
  same_low v h fixed =
      let from = h.low.from in
      let to = h.low.to in
      omega (arith, ints)

  same_high : (v : ℕ) → IsWithin (range_of inner v) (range_of outer v) → low_of outer v ≡ high_of outer v → high_of inner v ≡ low_of outer v
  same_high v h fixed =
      let from = h.high.from in
      let to = h.high.to in
      omega (arith, ints)

  fixed_along : (x y z : ℕ) → IsWithin (range_of inner x) (range_of outer x) → IsWithin (range_of inner y) (range_of outer y)
      → All (Keeps inner) (fixed_tells x y z inner) → All (Keeps inner) (fixed_tells x y z outer)
  fixed_along x y z h k all =
      let P : Tell → Type 0 = Keeps inner in
      All-when P (have_remainder (range_of outer x) (range_of outer y)) (remainder_tells z (remainder_of (low_of outer x) (low_of outer y))) (λ t.
      let f = fixed_by (range_of outer x) (range_of outer y) t in
      let x_low = same_low x h f.dividend in
      let y_low = same_low y k f.divisor in
      let own : AreFixed (range_of inner x) (range_of inner y) = record {
        dividend = x_low ∙ sym (same_high x h f.dividend);
        divisor = y_low ∙ sym (same_high y k f.divisor);
        not_zero = λ e. f.not_zero (sym y_low ∙ e);
      } in
      let given = when-All P (have_remainder (range_of inner x) (range_of inner y)) (remainder_tells z (remainder_of (low_of inner x) (low_of inner y))) (by_fixed (range_of inner x) (range_of inner y) own) all in
      let same : remainder_of (low_of inner x) (low_of inner y) ≡ remainder_of (low_of outer x) (low_of outer y) = (λ i. remainder_of (x_low i) (y_low i)) in
      subst (λ (r : ℤ). All P (remainder_tells z r)) same given)

  pub mod_monotone : (x y z : ℕ) → IsProperIn (x ∷ y ∷ z ∷ []) inner → IsInsideIn (x ∷ y ∷ z ∷ []) inner outer → All (Keeps inner) (mod_tells x y z inner) → All (Keeps inner) (mod_tells x y z outer)
  unfolding mod_tells
  mod_monotone x y z proper inside all =
      let P : Tell → Type 0 = Keeps inner in
      let y_proper = proper 1 (omega arith) in
      let wx = within inner outer x (inside.lows 0 (omega arith)) (proper 0 (omega arith)) (inside.highs 0 (omega arith)) in
      let wy = within inner outer y (inside.lows 1 (omega arith)) y_proper (inside.highs 1 (omega arith)) in
      let divisor = All-left P (divisor_tells y inner) (reach_tells x y z inner ++ fixed_tells x y z inner) all in
      let rest = All-right P (divisor_tells y inner) (reach_tells x y z inner ++ fixed_tells x y z inner) all in
      All-append P (divisor_tells y outer) (reach_tells x y z outer ++ fixed_tells x y z outer)
      (divisor_along clamped inner outer y y_proper wy divisor)
      (All-append P (reach_tells x y z outer) (fixed_tells x y z outer)
      (reach_along x y z wx wy (some_size clamped inner y divisor y_proper) (All-left P (reach_tells x y z inner) (fixed_tells x y z inner) rest))
      (fixed_along x y z wx wy (All-right P (reach_tells x y z inner) (fixed_tells x y z inner) rest)))

-- ---- at a point

-- a remainder lies between the least and the greatest of its dividend and divisor
least_under : (a b r : ℤ) (x y : Range) → x.0 ≡ a → size_of y ≡ pos (unsigned_abs b) → IsRest a b r → least_remainder x y ≤ℤ r
unfolding least_remainder
least_under a b r x y e f rest =
    let small = rest.small in
    by_lt_z a (pos 0)
    (λ lt. let signed = rest.to_zero (omega (arith, ints)) in let from = signed.0 in let to = signed.1 in omega (arith, ints, clamps))
    (λ ge. let signed = rest.from_zero ge in let from = signed.0 in let to = signed.1 in omega (arith, ints, clamps))

greatest_over : (a b r : ℤ) (x y : Range) → x.1 ≡ a → size_of y ≡ pos (unsigned_abs b) → IsRest a b r → r ≤ℤ greatest_remainder x y
unfolding greatest_remainder
greatest_over a b r x y e f rest =
    let small = rest.small in
    by_lt_z a (pos 0)
    (λ lt. let signed = rest.to_zero (omega (arith, ints)) in let from = signed.0 in let to = signed.1 in omega (arith, ints, clamps))
    (λ ge. let signed = rest.from_zero ge in let from = signed.0 in let to = signed.1 in omega (arith, ints, clamps))

module _ (clamped : ClampOrder) (b : Bounds) (x y z : ℕ) (fx : IsFixed b x) (fy : IsFixed b y) (fz : IsFixed b z) where
  values : remainder_of (value_of (point_of b) x) (value_of (point_of b) y) ≡ remainder_of (low_of b x) (low_of b y)
  values = (λ i. remainder_of (value-point b x i) (value-point b y i))

  pub mod_closed_holds : All (Keeps b) (mod_tells x y z b) → IsRemainder x y z (point_of b)
  unfolding mod_tells
  mod_closed_holds all =
      let P : Tell → Type 0 = Keeps b in
      let r = remainder_of (low_of b x) (low_of b y) in
      let divisor = All-left P (divisor_tells y b) (reach_tells x y z b ++ fixed_tells x y z b) all in
      let rest = All-right P (divisor_tells y b) (reach_tells x y z b ++ fixed_tells x y z b) all in
      let n = low_not_zero clamped b y divisor in
      let fixed : AreFixed (range_of b x) (range_of b y) = record { dividend = fx.fixed; divisor = fy.fixed; not_zero = n } in
      let told = two-All P (low_tell z r) (high_tell z r)
      (when-All P (have_remainder (range_of b x) (range_of b y)) (remainder_tells z r) (by_fixed (range_of b x) (range_of b y) fixed)
      (All-right P (reach_tells x y z b) (fixed_tells x y z b) rest)) in
      let own = fz.fixed in
      let from = (clamped.below_number (low_of b z) r fz.low).0 told.0 in
      let to = (clamped.above_number (high_of b z) r (high_number b z fz)).0 told.1 in
      let equal : r ≡ low_of b z = omega (arith, ints) in
      (λ e. n (sym (value-point b y) ∙ e), values ∙ equal ∙ sym (value-point b z))

  pub mod_holds_closed : IsRemainder x y z (point_of b) → All (Keeps b) (mod_tells x y z b)
  unfolding mod_tells
  mod_holds_closed holds =
      let P : Tell → Type 0 = Keeps b in
      let r = remainder_of (low_of b x) (low_of b y) in
      let n : low_of b y ≢ pos 0 = λ e. holds.0 (value-point b y ∙ e) in
      let equal : r ≡ low_of b z = sym values ∙ holds.1 ∙ value-point b z in
      let own = fz.fixed in
      let is_rest = remainder_is_rest (low_of b x) (low_of b y) n in
      let above = least_under (low_of b x) (low_of b y) r (range_of b x) (range_of b y) refl (size_point b y fy.fixed) is_rest in
      let below = greatest_over (low_of b x) (low_of b y) r (range_of b x) (range_of b y) (sym fx.fixed) (size_point b y fy.fixed) is_rest in
      All-append P (divisor_tells y b) (reach_tells x y z b ++ fixed_tells x y z b)
      (divisor_kept b y fy.fixed n)
      (All-append P (reach_tells x y z b) (fixed_tells x y z b)
      (All-when P (int_lt (pos 0) (size_of (range_of b y))) (between_tells z (range_of b x) (range_of b y)) (λ t.
      All-two P (low_tell z (least_remainder (range_of b x) (range_of b y))) (high_tell z (greatest_remainder (range_of b x) (range_of b y)))
      ((clamped.below_number (low_of b z) (least_remainder (range_of b x) (range_of b y)) fz.low).1 (omega (arith, ints)))
      ((clamped.above_number (high_of b z) (greatest_remainder (range_of b x) (range_of b y)) (high_number b z fz)).1 (omega (arith, ints)))))
      (All-when P (have_remainder (range_of b x) (range_of b y)) (remainder_tells z r) (λ t.
      All-two P (low_tell z r) (high_tell z r)
      ((clamped.below_number (low_of b z) r fz.low).1 (omega (arith, ints)))
      ((clamped.above_number (high_of b z) r (high_number b z fz)).1 (omega (arith, ints))))))

-- ---- places

pub mod_placed : ClampOrder → (count x y z : ℕ) (b : Bounds) → AreVariables count (x ∷ y ∷ z ∷ []) → All (IsPlaced count (x ∷ y ∷ z ∷ [])) (mod_tells x y z b)
unfolding mod_tells
mod_placed clamped count x y z b variables =
    let vars = x ∷ y ∷ z ∷ [] in
    let P : Tell → Type 0 = IsPlaced count vars in
    All-append P (divisor_tells y b) (reach_tells x y z b ++ fixed_tells x y z b)
    (divisor_placed clamped count vars 1 b variables (omega arith))
    (All-append P (reach_tells x y z b) (fixed_tells x y z b)
    (All-when P (int_lt (pos 0) (size_of (range_of b y))) (between_tells z (range_of b x) (range_of b y)) (λ t. All-two P (low_tell z (least_remainder (range_of b x) (range_of b y))) (high_tell z (greatest_remainder (range_of b x) (range_of b y)))
    (low_placed clamped count vars variables 2 _ (omega arith)) (high_placed clamped count vars variables 2 _ (omega arith))))
    (All-when P (have_remainder (range_of b x) (range_of b y)) (remainder_tells z (remainder_of (low_of b x) (low_of b y))) (λ t. All-two P (low_tell z (remainder_of (low_of b x) (low_of b y))) (high_tell z (remainder_of (low_of b x) (low_of b y)))
    (low_placed clamped count vars variables 2 _ (omega arith)) (high_placed clamped count vars variables 2 _ (omega arith)))))

-- the tells as they depend on two ranges
tells_at : ℕ → ℕ → Range → Range → List Tell
tells_at y z rx ry =
    (when (int_eq ry.0 (pos 0)) (low_tell y (pos 1) ∷ []) ++ when (int_eq ry.1 (pos 0)) (high_tell y (negsuc 0) ∷ []))
    ++ (when (int_lt (pos 0) (size_of ry)) (between_tells z rx ry) ++ when (have_remainder rx ry) (remainder_tells z (remainder_of rx.0 ry.0)))

pub mod_local : (x y z : ℕ) (b c : Bounds) → AgreeIn (x ∷ y ∷ z ∷ []) b c → mod_tells x y z b ≡ mod_tells x y z c
unfolding mod_tells tells_at
mod_local x y z b c agree =
    let xl = agree.lows 0 (omega arith) in
    let xh = agree.highs 0 (omega arith) in
    let yl = agree.lows 1 (omega arith) in
    let yh = agree.highs 1 (omega arith) in
    (λ i. tells_at y z (xl i, xh i) (yl i, yh i))

pub mod_local_relation : (x y z : ℕ) (f g : List ℤ) → SameValuesIn (x ∷ y ∷ z ∷ []) f g → IsRemainder x y z f → IsRemainder x y z g
mod_local_relation x y z f g same holds =
    let p = same 0 (omega arith) in
    let q = same 1 (omega arith) in
    let r = same 2 (omega arith) in
    (λ e. holds.0 (q ∙ e), (λ i. remainder_of (sym p i) (sym q i)) ∙ holds.1 ∙ r)
