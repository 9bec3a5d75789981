-- The quotients by 1 and by -1.
use Rattle.std.proofs.Common.{◌≡◌, ◌≤◌, ℤ, pos, negsuc, neg_ℤ, ◌-ℤ◌, ◌≤ℤ◌, ◌^◌, unsigned_abs, sym, subst, ◌∙◌, arith, FitsSigned, to_z, of_z}
use Rattle.std.proofs.lemmas.Int.{ints, to_z-of_z, fits_signed_from_abs}
use mir.Syntax.{w128}
use Rattle.interval.specs.Limits.{dividend_limit}
use Rattle.interval.specs.Quotients.{floor_of, ceiling_of, QuotientOrder}

module _ (quotients : QuotientOrder) (a : ℤ) where
  pub floor_by_one : a ≡ floor_of a (pos 1)
  floor_by_one =
      let q = floor_of a (pos 1) in
      let above : q ≤ℤ a = omega (arith, ints, (quotients.floor_above_zero a (pos 1) q (omega (arith, ints))).0 (omega (arith, ints))) in
      let below : a ≤ℤ q = (quotients.floor_above_zero a (pos 1) a (omega (arith, ints))).1 (omega (arith, ints)) in
      omega (arith, ints)

  pub ceiling_by_one : a ≡ ceiling_of a (pos 1)
  ceiling_by_one =
      let q = ceiling_of a (pos 1) in
      let below : a ≤ℤ q = omega (arith, ints, (quotients.ceiling_above_zero a (pos 1) q (omega (arith, ints))).0 (omega (arith, ints))) in
      let above : q ≤ℤ a = (quotients.ceiling_above_zero a (pos 1) a (omega (arith, ints))).1 (omega (arith, ints)) in
      omega (arith, ints)

  pub floor_by_minus_one : pos 0 -ℤ a ≡ floor_of a (negsuc 0)
  floor_by_minus_one =
      let q = floor_of a (negsuc 0) in
      let above : q ≤ℤ neg_ℤ a = omega (arith, ints, (quotients.floor_below_zero a (negsuc 0) q (omega (arith, ints))).0 (omega (arith, ints))) in
      let below : neg_ℤ a ≤ℤ q = (quotients.floor_below_zero a (negsuc 0) (neg_ℤ a) (omega (arith, ints))).1 (omega (arith, ints)) in
      omega (arith, ints)

  pub ceiling_by_minus_one : pos 0 -ℤ a ≡ ceiling_of a (negsuc 0)
  ceiling_by_minus_one =
      let q = ceiling_of a (negsuc 0) in
      let below : neg_ℤ a ≤ℤ q = omega (arith, ints, (quotients.ceiling_below_zero a (negsuc 0) q (omega (arith, ints))).0 (omega (arith, ints))) in
      let above : q ≤ℤ neg_ℤ a = (quotients.ceiling_below_zero a (negsuc 0) (neg_ℤ a) (omega (arith, ints))).1 (omega (arith, ints)) in
      omega (arith, ints)

-- what the code forms in 128 bits is exact
pub opposite_fits : (r : ℤ) → FitsSigned w128 r → unsigned_abs r ≤ dividend_limit → FitsSigned w128 (pos 0 -ℤ to_z w128 (of_z w128 r))
unfolding dividend_limit
opposite_fits r f h =
    let P : ℤ → Type 0 = λ z. FitsSigned w128 (pos 0 -ℤ z) in
    let size : unsigned_abs (pos 0 -ℤ r) ≤ 2 ^ 120 = omega (arith, ints, h) in
    subst P (sym (to_z-of_z w128 r f)) (fits_signed_from_abs w128 (pos 0 -ℤ r) (omega arith))

pub coded_opposite : (r : ℤ) → FitsSigned w128 r → unsigned_abs r ≤ dividend_limit → to_z w128 (of_z w128 (pos 0 -ℤ to_z w128 (of_z w128 r))) ≡ pos 0 -ℤ r
coded_opposite r f h = to_z-of_z w128 (pos 0 -ℤ to_z w128 (of_z w128 r)) (opposite_fits r f h) ∙ (λ i. pos 0 -ℤ to_z-of_z w128 r f i)
