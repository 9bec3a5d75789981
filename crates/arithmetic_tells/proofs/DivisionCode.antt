-- What the code of the division stands on: products of bounds are small, and the least and the greatest of four numbers
-- that went to 128 bits and came back.
use Rattle.std.proofs.Common.{◌≡◌, ℕ, ◌*◌, ◌≤◌, ℤ, ◌*ℤ◌, ◌∙◌, FitsSigned, to_z, of_z, unsigned_abs, arith}
use Rattle.std.proofs.lemmas.Int.{ints, clamps, to_z-of_z, unsigned_abs-mul}
use Rattle.std.proofs.Math.Nat.{mul-le-mul}
use mir.Syntax.{w64, w128}
use Rattle.interval.specs.Limits.{IsBound, bound_limit}
use Rattle.interval.specs.Corners.{Range, least_of_four, greatest_of_four, least_product, greatest_product}

-- the square of the greatest bound
unfoldable pub square : ℕ
square = bound_limit * bound_limit

product_small : (a b : ℤ) → IsBound a → IsBound b → unsigned_abs (a *ℤ b) ≤ square
unfolding square
product_small a b f g = rw unsigned_abs-mul (mul-le-mul f g)

least_small : (p q r s : ℤ) (n : ℕ) → unsigned_abs p ≤ n → unsigned_abs q ≤ n → unsigned_abs r ≤ n → unsigned_abs s ≤ n → unsigned_abs (least_of_four p q r s) ≤ n
least_small p q r s n e f g h = omega (arith, ints, clamps)

greatest_small : (p q r s : ℤ) (n : ℕ) → unsigned_abs p ≤ n → unsigned_abs q ≤ n → unsigned_abs r ≤ n → unsigned_abs s ≤ n → unsigned_abs (greatest_of_four p q r s) ≤ n
greatest_small p q r s n e f g h = omega (arith, ints, clamps)

module _ (x y : Range) (a : IsBound x.0) (b : IsBound x.1) (c : IsBound y.0) (d : IsBound y.1) where
  pub least_product_small : unsigned_abs (least_product x y) ≤ square
  unfolding least_product
  least_product_small =
      least_small (x.0 *ℤ y.0) (x.0 *ℤ y.1) (x.1 *ℤ y.0) (x.1 *ℤ y.1) square
      (product_small x.0 y.0 a c) (product_small x.0 y.1 a d) (product_small x.1 y.0 b c) (product_small x.1 y.1 b d)

  pub greatest_product_small : unsigned_abs (greatest_product x y) ≤ square
  unfolding greatest_product
  greatest_product_small =
      greatest_small (x.0 *ℤ y.0) (x.0 *ℤ y.1) (x.1 *ℤ y.0) (x.1 *ℤ y.1) square
      (product_small x.0 y.0 a c) (product_small x.0 y.1 a d) (product_small x.1 y.0 b c) (product_small x.1 y.1 b d)

module _ (n p q r s p' q' r' s' : ℤ) (f : FitsSigned w128 n) (f0 : FitsSigned w128 p) (f1 : FitsSigned w128 q) (f2 : FitsSigned w128 r) (f3 : FitsSigned w128 s) (e0 : p ≡ p') (e1 : q ≡ q') (e2 : r ≡ r') (e3 : s ≡ s') where
  pub same_least : n ≡ least_of_four (to_z w128 (of_z w128 p)) (to_z w128 (of_z w128 q)) (to_z w128 (of_z w128 r)) (to_z w128 (of_z w128 s))
      → to_z w128 (of_z w128 n) ≡ least_of_four p' q' r' s'
  same_least e = to_z-of_z w128 n f ∙ e ∙ (λ i. least_of_four ((to_z-of_z w128 p f0 ∙ e0) i) ((to_z-of_z w128 q f1 ∙ e1) i) ((to_z-of_z w128 r f2 ∙ e2) i) ((to_z-of_z w128 s f3 ∙ e3) i))

  pub same_greatest : n ≡ greatest_of_four (to_z w128 (of_z w128 p)) (to_z w128 (of_z w128 q)) (to_z w128 (of_z w128 r)) (to_z w128 (of_z w128 s))
      → to_z w128 (of_z w128 n) ≡ greatest_of_four p' q' r' s'
  same_greatest e = to_z-of_z w128 n f ∙ e ∙ (λ i. greatest_of_four ((to_z-of_z w128 p f0 ∙ e0) i) ((to_z-of_z w128 q f1 ∙ e1) i) ((to_z-of_z w128 r f2 ∙ e2) i) ((to_z-of_z w128 s f3 ∙ e3) i))

-- the same for two numbers that went to 64 bits
pub same_pair : (g : ℤ → ℤ → ℤ) (r a b : ℤ) → FitsSigned w64 a → FitsSigned w64 b → r ≡ g (to_z w64 (of_z w64 a)) (to_z w64 (of_z w64 b)) → r ≡ g a b
same_pair g r a b f h e = e ∙ (λ i. g (to_z-of_z w64 a f i) (to_z-of_z w64 b h i))
