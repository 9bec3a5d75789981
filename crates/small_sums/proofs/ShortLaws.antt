-- Products of small numbers in 64 bits.
use Rattle.std.proofs.Common.{◌≡◌, ℕ, ◌*◌, ◌≤◌, ℤ, ◌*ℤ◌, unsigned_abs, sym, subst, ◌∙◌, arith, FitsSigned, to_z, of_z}
use Rattle.std.proofs.lemmas.Int.{ints, clamps, unsigned_abs-mul, fits_signed_from_abs, to_z-of_z}
use Rattle.std.proofs.Math.Nat.{mul-le-mul}
use Rattle.std.specs.Int.{int_min, int_max}
use mir.Syntax.{w64}
use Rattle.interval.specs.Limits.{IsNumber, IsBound, largest_number, bound_limit}
use Rattle.small_sums.specs.Short.{slight_limit, small_limit, small_product_limit}

pub product_small : (a z : ℤ) → unsigned_abs a ≤ small_limit → unsigned_abs z ≤ small_limit → unsigned_abs (a *ℤ z) ≤ small_product_limit
unfolding small_product_limit
product_small a z h k = omega (arith, unsigned_abs-mul a z, mul-le-mul h k)

-- a slight coefficient has a small product with any bound
slight_products : slight_limit * bound_limit ≤ small_product_limit
unfolding slight_limit bound_limit largest_number small_product_limit small_limit
slight_products = omega arith

pub product_slight : (a z : ℤ) → unsigned_abs a ≤ slight_limit → IsBound z → unsigned_abs (a *ℤ z) ≤ small_product_limit
product_slight a z h k = omega (arith, unsigned_abs-mul a z, mul-le-mul h k, slight_products)

pub short_fits : (z : ℤ) → unsigned_abs z ≤ small_product_limit → to_z w64 (of_z w64 z) ≡ z
unfolding small_product_limit small_limit
short_fits z h = to_z-of_z w64 z (fits_signed_from_abs w64 z (omega arith))

product_fits : (p : ℤ) → unsigned_abs p ≤ small_product_limit → FitsSigned w64 p
unfolding small_product_limit small_limit
product_fits p h = fits_signed_from_abs w64 p (omega arith)

module _ (a z : ℤ) (f : FitsSigned w64 a) (g : FitsSigned w64 z) (h : unsigned_abs (a *ℤ z) ≤ small_product_limit) where
  pub coded_fits : FitsSigned w64 (to_z w64 (of_z w64 a) *ℤ to_z w64 (of_z w64 z))
  coded_fits =
      let P : ℤ → Type 0 = λ p. FitsSigned w64 p in
      subst P (λ i. sym (to_z-of_z w64 a f) i *ℤ sym (to_z-of_z w64 z g) i) (product_fits (a *ℤ z) h)

  pub coded_is : to_z w64 (of_z w64 (to_z w64 (of_z w64 a) *ℤ to_z w64 (of_z w64 z))) ≡ a *ℤ z
  coded_is = (λ i. to_z w64 (of_z w64 (to_z-of_z w64 a f i *ℤ to_z-of_z w64 z g i))) ∙ to_z-of_z w64 (a *ℤ z) (product_fits (a *ℤ z) h)

-- what the code reads is the number
pub short_number : (z : ℤ) → IsNumber z → to_z w64 (of_z w64 z) ≡ z
unfolding largest_number
short_number z h = omega (arith, ints)

short_bound : (z : ℤ) → IsBound z → to_z w64 (of_z w64 z) ≡ z
unfolding bound_limit largest_number
short_bound z h = omega (arith, ints)

-- what equals a bound is one
pub bound_of : (z w : ℤ) → IsBound z → z ≡ w → IsBound w
bound_of z w b e = subst (λ (y : ℤ). IsBound y) e b

-- the product with a bound of the box
pub product_at : (a z w p : ℤ) → FitsSigned w64 a → IsBound z → z ≡ w → p ≡ to_z w64 (of_z w64 a) *ℤ to_z w64 (of_z w64 z) → unsigned_abs p ≤ small_product_limit → to_z w64 (of_z w64 p) ≡ a *ℤ w
product_at a z w p f b e v s = short_fits p s ∙ v ∙ (λ i. to_z-of_z w64 a f i *ℤ (short_bound z b ∙ e) i)

least_small : (p q : ℤ) (n : ℕ) → unsigned_abs p ≤ n → unsigned_abs q ≤ n → unsigned_abs (int_min p q) ≤ n
least_small p q n h k = omega (arith, ints, clamps)

greatest_small : (p q : ℤ) (n : ℕ) → unsigned_abs p ≤ n → unsigned_abs q ≤ n → unsigned_abs (int_max p q) ≤ n
greatest_small p q n h k = omega (arith, ints, clamps)

module _ (p q r : ℤ) (h : unsigned_abs p ≤ small_product_limit) (k : unsigned_abs q ≤ small_product_limit) where
  same_small : (z : ℤ) → unsigned_abs z ≤ small_product_limit → unsigned_abs (to_z w64 (of_z w64 z)) ≤ small_product_limit
  same_small z s = rw (short_fits z s) s

  pub min_small : r ≡ int_min (to_z w64 (of_z w64 p)) (to_z w64 (of_z w64 q)) → unsigned_abs r ≤ small_product_limit
  min_small e = rw e (least_small (to_z w64 (of_z w64 p)) (to_z w64 (of_z w64 q)) small_product_limit (same_small p h) (same_small q k))

  pub max_small : r ≡ int_max (to_z w64 (of_z w64 p)) (to_z w64 (of_z w64 q)) → unsigned_abs r ≤ small_product_limit
  max_small e = rw e (greatest_small (to_z w64 (of_z w64 p)) (to_z w64 (of_z w64 q)) small_product_limit (same_small p h) (same_small q k))
