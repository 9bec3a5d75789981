-- What the code compares before it divides: a product with a bound of the box, in 128 bits, and what is left for it.
use Rattle.std.proofs.Common.{◌≡◌, ℕ, ◌≤◌, true, ℤ, pos, negsuc, ◌*ℤ◌, ◌≤ℤ◌, ◌<ℤ◌, unsigned_abs, sym, subst, ◌∙◌, arith, FitsSigned, to_z, of_z}
use Rattle.std.proofs.lemmas.Int.{ints, to_z-of_z, fits_signed_mul, fits_signed_from_abs}
use mir.Syntax.{w64, w128}
use Rattle.std.specs.Int.RustNames.{int_le}
use Rattle.std.specs.List.{All}
use Rattle.interval.specs.Limits.{IsBound, bound_limit, largest_number, ClampOrder}
use Rattle.interval.specs.Quotients.{QuotientOrder}
use Rattle.interval.specs.Boxes.{Bounds, low_of, high_of}
use Rattle.guarded_tell.specs.Words.{Keeps}
use Rattle.sum_tells.specs.Linear.{product_at_most, product_at_least}
use Rattle.sum_tells.proofs.ProductLaws.{coded_product}
use Rattle.small_sums.proofs.QuietLaws.{at_most_kept, at_least_kept}

size_of : (a : ℤ) → FitsSigned w64 a → unsigned_abs a ≤ 9223372036854775808
size_of (pos n) f = let h = f.sfits in omega arith
size_of (negsuc n) f = let h = f.sfits in omega arith

-- 64-bit numbers, and the product of one with a bound, fit 128 bits
module _ (a z : ℤ) (f : FitsSigned w64 a) (bound : IsBound z) where
  wide_number : to_z w128 (of_z w128 (to_z w64 (of_z w64 a))) ≡ a
  wide_number =
      let size = size_of a f in
      (λ i. to_z w128 (of_z w128 (to_z-of_z w64 a f i))) ∙ to_z-of_z w128 a (fits_signed_from_abs w128 a (omega arith))

  wide_bound : to_z w128 (of_z w128 (to_z w64 (of_z w64 z))) ≡ z
  unfolding bound_limit largest_number
  wide_bound = omega (arith, ints, bound)

  product_fits : FitsSigned w128 (a *ℤ z)
  unfolding bound_limit largest_number
  product_fits = fits_signed_mul w128 a z 9223372036854775808 140737488355328 (size_of a f) bound (omega arith)

  wide_product : coded_product a z ≡ a *ℤ z
  wide_product = (λ i. to_z w128 (of_z w128 (wide_number i *ℤ wide_bound i))) ∙ to_z-of_z w128 (a *ℤ z) product_fits

module _ (quotients : QuotientOrder) (clamped : ClampOrder) (b : Bounds) (x : ℕ) (a z r : ℤ) (f : FitsSigned w64 a) (g : FitsSigned w128 r) (bound : IsBound z) where
  within : int_le (coded_product a z) (to_z w128 (of_z w128 r)) ≡ true → (z *ℤ a) ≤ℤ r
  within e =
      let own : int_le (a *ℤ z) r ≡ true = sym (λ i. int_le (wide_product a z f bound i) (to_z-of_z w128 r g i)) ∙ e in
      omega (arith, ints)

  beyond : int_le (to_z w128 (of_z w128 r)) (coded_product a z) ≡ true → r ≤ℤ (z *ℤ a)
  beyond e =
      let own : int_le r (a *ℤ z) ≡ true = sym (λ i. int_le (to_z-of_z w128 r g i) (wide_product a z f bound i)) ∙ e in
      omega (arith, ints)

  pub high_within : z ≡ high_of b x → pos 0 <ℤ a → int_le (coded_product a z) (to_z w128 (of_z w128 r)) ≡ true → All (Keeps b) (product_at_most x a r)
  high_within v s e =
      let P : ℤ → Type 0 = λ w. IsBound w × ((w *ℤ a) ≤ℤ r) in
      let kept : P (high_of b x) = subst P v (bound, within e) in
      at_most_kept quotients clamped b x a r (λ t. kept) (λ t. absurd (omega (arith, ints)))

  pub low_within : z ≡ low_of b x → a <ℤ pos 0 → int_le (coded_product a z) (to_z w128 (of_z w128 r)) ≡ true → All (Keeps b) (product_at_most x a r)
  low_within v s e =
      let P : ℤ → Type 0 = λ w. IsBound w × ((w *ℤ a) ≤ℤ r) in
      let kept : P (low_of b x) = subst P v (bound, within e) in
      at_most_kept quotients clamped b x a r (λ t. absurd (omega (arith, ints))) (λ t. kept)

  pub low_beyond : z ≡ low_of b x → pos 0 <ℤ a → int_le (to_z w128 (of_z w128 r)) (coded_product a z) ≡ true → All (Keeps b) (product_at_least x a r)
  low_beyond v s e =
      let P : ℤ → Type 0 = λ w. IsBound w × (r ≤ℤ (w *ℤ a)) in
      let kept : P (low_of b x) = subst P v (bound, beyond e) in
      at_least_kept quotients clamped b x a r (λ t. kept) (λ t. absurd (omega (arith, ints)))

  pub high_beyond : z ≡ high_of b x → a <ℤ pos 0 → int_le (to_z w128 (of_z w128 r)) (coded_product a z) ≡ true → All (Keeps b) (product_at_least x a r)
  high_beyond v s e =
      let P : ℤ → Type 0 = λ w. IsBound w × (r ≤ℤ (w *ℤ a)) in
      let kept : P (high_of b x) = subst P v (bound, beyond e) in
      at_least_kept quotients clamped b x a r (λ t. absurd (omega (arith, ints))) (λ t. kept)
