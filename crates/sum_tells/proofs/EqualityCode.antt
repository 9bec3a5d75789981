-- What the code of the linear equation computes, in 64 and 128 bits, is what the definitions say.
use Rattle.std.proofs.Common.{◌≡◌, ℕ, ◌≤◌, List, ◌++◌, length, get_or, Bool, true, not, ◌&&◌, ℤ, pos, ◌+ℤ◌, ◌-ℤ◌, ◌*ℤ◌, unsigned_abs, sym, ap, subst, ◌∙◌, arith, to_z, of_z, FitsSigned}
use Rattle.std.proofs.lemmas.Int.{ints, to_z-of_z}
use mir.Syntax.{w64, w128}
use Rattle.std.specs.List.{zip}
use Rattle.interval.specs.Limits.{IsNumber, IsBound, largest_number, bound_limit, dividend_limit}
use Rattle.interval.specs.Boxes.{Bounds}
use Rattle.tells.specs.Words.{when}
use Rattle.sum_tells.specs.Linear.{least_of, greatest_of, product_limit, sum_limit, term_limit, product_at_most, product_at_least}
use Rattle.sum_tells.specs.Equality.{is_same, is_product, product_is_not, equal_tell, unequal_tell}
use Rattle.sum_tells.proofs.TermLaws.{get_or-zip}
use Rattle.sum_tells.proofs.ProductLaws.{coded_number, coded_product, coded_product_is, product_fits, sum_fits, room_fits}
use Rattle.tell_laws.proofs.LiteralLaws.{by_bool}
use Rattle.sum_tells.proofs.EqualityLaws.{same_is}

pub coded_difference : (z t : ℤ) → unsigned_abs z ≤ sum_limit → unsigned_abs t ≤ product_limit → to_z w128 (of_z w128 (to_z w128 (of_z w128 z) -ℤ to_z w128 (of_z w128 t))) ≡ z -ℤ t
unfolding sum_limit term_limit product_limit bound_limit largest_number
coded_difference z t h k = omega (arith, ints)

pub coded_room : (limit sum term room : ℤ) → IsNumber limit → unsigned_abs sum ≤ sum_limit → unsigned_abs term ≤ product_limit → unsigned_abs room ≤ dividend_limit
    → room ≡ to_z w64 (of_z w64 limit) -ℤ (to_z w128 (of_z w128 sum) -ℤ to_z w128 (of_z w128 term)) → to_z w128 (of_z w128 room) ≡ limit -ℤ (sum -ℤ term)
coded_room limit sum term room h k l m e =
    room_fits room m ∙ e ∙ (λ i. coded_number limit h i -ℤ (sum_fits sum k i -ℤ product_fits term l i))

-- the bounds beside a bound
pub coded_next : (z w : ℤ) → IsBound z → z ≡ w → to_z w128 (of_z w128 (to_z w128 (of_z w128 (to_z w64 (of_z w64 z))) +ℤ pos 1)) ≡ w +ℤ pos 1
unfolding bound_limit largest_number
coded_next z w h e = omega (arith, ints)

pub coded_previous : (z w : ℤ) → IsBound z → z ≡ w → to_z w128 (of_z w128 (to_z w128 (of_z w128 (to_z w64 (of_z w64 z))) -ℤ pos 1)) ≡ w -ℤ pos 1
unfolding bound_limit largest_number
coded_previous z w h e = omega (arith, ints)

-- a coefficient other than 0
pub is_product_at : (a z p : ℤ) → ¬ (a ≡ pos 0) → is_same (a *ℤ z) p ≡ is_product a z p
is_product_at a z p n = by_bool (is_same a (pos 0))
    (λ e. absurd (n (same_is a (pos 0) e)))
    (λ e. (λ i. not (sym e i) && is_same (a *ℤ z) p))

pub coded_is_product : (a z p : ℤ) (t : Bool) → IsNumber a → IsBound z → FitsSigned w128 p → (of_z w64 a ≡ 0 → ⊥) → t ≡ is_same (coded_product a z) (to_z w128 (of_z w128 p)) → t ≡ is_product a z p
coded_is_product a z p t h k f n e =
    let zero_bits : (a ≡ pos 0) → of_z w64 a ≡ 0 = λ q. ap (of_z w64) q in
    e ∙ (λ i. is_same (coded_product_is a z h k i) (to_z-of_z w128 p f i)) ∙ is_product_at a z p (λ q. n (zero_bits q))

pub is_product_is : (a z w p : ℤ) → FitsSigned w64 a → IsBound z → FitsSigned w128 p → z ≡ w → true ≡ is_product (to_z w64 (of_z w64 a)) (to_z w64 (of_z w64 z)) (to_z w128 (of_z w128 p)) → is_product a w p ≡ true
unfolding bound_limit largest_number
is_product_is a z w p f h k e t =
    let bound : to_z w64 (of_z w64 z) ≡ w = omega (arith, ints) in
    sym (t ∙ (λ i. is_product (to_z-of_z w64 a f i) (bound i) (to_z-of_z w128 p k i)))

-- what the code tells of a term is what the term tells
module _ (b : Bounds) (limit m n : ℤ) (coeffs : List ℤ) (vars : List ℕ) (i : ℕ) (a : ℤ) (x : ℕ) (least greatest : ℤ) (same : length coeffs ≡ length vars) (number : IsNumber (get_or coeffs i (pos 0)))
    (ea : a ≡ to_z w64 (of_z w64 (get_or coeffs i (pos 0)))) (ex : x ≡ get_or vars i 0)
    (el : least ≡ least_of b (to_z w64 (of_z w64 (get_or coeffs i (pos 0))), get_or vars i 0))
    (eg : greatest ≡ greatest_of b (to_z w64 (of_z w64 (get_or coeffs i (pos 0))), get_or vars i 0)) where
  exact : to_z w64 (of_z w64 (get_or coeffs i (pos 0))) ≡ get_or coeffs i (pos 0)
  exact = coded_number (get_or coeffs i (pos 0)) number

  coeff_is : a ≡ get_or coeffs i (pos 0)
  coeff_is = ea ∙ exact

  least_is : least ≡ least_of b (get_or coeffs i (pos 0), get_or vars i 0)
  least_is = el ∙ ap (λ (z : ℤ). least_of b (z, get_or vars i 0)) exact

  greatest_is : greatest ≡ greatest_of b (get_or coeffs i (pos 0), get_or vars i 0)
  greatest_is = eg ∙ ap (λ (z : ℤ). greatest_of b (z, get_or vars i 0)) exact

  pub told_equal : product_at_most x a (limit -ℤ (m -ℤ least)) ++ product_at_least x a (limit -ℤ (n -ℤ greatest)) ≡ equal_tell b limit m n (get_or (zip coeffs vars) i (pos 0, 0))
  told_equal =
      (λ k. product_at_most (ex k) (coeff_is k) (limit -ℤ (m -ℤ least_is k)) ++ product_at_least (ex k) (coeff_is k) (limit -ℤ (n -ℤ greatest_is k)))
      ∙ sym (ap (equal_tell b limit m n) (get_or-zip coeffs vars i same))

  pub told_unequal : when (is_same (m -ℤ least) (n -ℤ greatest)) (product_is_not x a (limit -ℤ (m -ℤ least)) b) ≡ unequal_tell b limit m n (get_or (zip coeffs vars) i (pos 0, 0))
  told_unequal =
      (λ k. when (is_same (m -ℤ least_is k) (n -ℤ greatest_is k)) (product_is_not (ex k) (coeff_is k) (limit -ℤ (m -ℤ least_is k)) b))
      ∙ sym (ap (unequal_tell b limit m n) (get_or-zip coeffs vars i same))

  pub coefficient_number : IsNumber a
  coefficient_number = let N : ℤ → Type 0 = λ z. IsNumber z in subst N (sym coeff_is) number
