-- The tells of one product, and how large products get.
use Rattle.std.proofs.Common.{◌≡◌, ℕ, ◌+◌, ◌*◌, ◌≤◌, List, [], ◌∷◌, ◌++◌, length, get_or, true, false, ℤ, pos, ◌+ℤ◌, ◌-ℤ◌, ◌*ℤ◌, ◌<ℤ◌, unsigned_abs, sym, ap, ◌∙◌, arith, to_z, of_z}
use Rattle.std.proofs.lemmas.Int.{ints, clamps, unsigned_abs-mul, to_z-of_z, fits_signed_from_abs}
use Rattle.std.proofs.Math.Nat.{mul-le-mul, mul-le-mul_right}
use Rattle.std.specs.Int.{int_min, int_max}
use Rattle.std.specs.Int.RustNames.{int_lt}
use mir.Syntax.{w64, w128}
use Rattle.interval.specs.Limits.{IsNumber, IsBound, largest_number, bound_limit, dividend_limit}
use Rattle.interval.specs.Quotients.{floor_of, ceiling_of}
use Rattle.tells.specs.Words.{low_tell, high_tell, when}
use Rattle.interval.specs.Boxes.{Bounds}
use Rattle.sum_tells.specs.Linear.{least_of, greatest_of, product_limit, sum_limit, term_limit, product_at_most, product_at_least, at_most_tell, more_than_tell}
use Rattle.sum_tells.proofs.TermLaws.{get_or-zip}
use Rattle.std.specs.List.{zip}

pub at_most_above : (var : ℕ) (coeff room : ℤ) → pos 0 <ℤ coeff → product_at_most var coeff room ≡ high_tell var (floor_of room coeff) ∷ []
at_most_above var coeff room h =
    let above : true ≡ int_lt (pos 0) coeff = omega (arith, ints) in
    let below : false ≡ int_lt coeff (pos 0) = omega (arith, ints) in
    (λ i. when (sym above i) (high_tell var (floor_of room coeff) ∷ []) ++ when (sym below i) (low_tell var (ceiling_of room coeff) ∷ []))

pub at_most_below : (var : ℕ) (coeff room : ℤ) → coeff <ℤ pos 0 → product_at_most var coeff room ≡ low_tell var (ceiling_of room coeff) ∷ []
at_most_below var coeff room h =
    let above : false ≡ int_lt (pos 0) coeff = omega (arith, ints) in
    let below : true ≡ int_lt coeff (pos 0) = omega (arith, ints) in
    (λ i. when (sym above i) (high_tell var (floor_of room coeff) ∷ []) ++ when (sym below i) (low_tell var (ceiling_of room coeff) ∷ []))

pub at_least_above : (var : ℕ) (coeff room : ℤ) → pos 0 <ℤ coeff → product_at_least var coeff room ≡ low_tell var (ceiling_of room coeff) ∷ []
at_least_above var coeff room h =
    let above : true ≡ int_lt (pos 0) coeff = omega (arith, ints) in
    let below : false ≡ int_lt coeff (pos 0) = omega (arith, ints) in
    (λ i. when (sym above i) (low_tell var (ceiling_of room coeff) ∷ []) ++ when (sym below i) (high_tell var (floor_of room coeff) ∷ []))

pub at_least_below : (var : ℕ) (coeff room : ℤ) → coeff <ℤ pos 0 → product_at_least var coeff room ≡ high_tell var (floor_of room coeff) ∷ []
at_least_below var coeff room h =
    let above : false ≡ int_lt (pos 0) coeff = omega (arith, ints) in
    let below : true ≡ int_lt coeff (pos 0) = omega (arith, ints) in
    (λ i. when (sym above i) (low_tell var (ceiling_of room coeff) ∷ []) ++ when (sym below i) (high_tell var (floor_of room coeff) ∷ []))

pub product_small : (a x : ℤ) → IsNumber a → IsBound x → unsigned_abs (a *ℤ x) ≤ product_limit
unfolding product_limit
product_small a x h k = omega (arith, unsigned_abs-mul a x, mul-le-mul h k)

-- the product of two 64-bit numbers as the code forms it in 128 bits
abbrev pub coded_product : ℤ → ℤ → ℤ
coded_product a x = to_z w128 (of_z w128 (to_z w128 (of_z w128 (to_z w64 (of_z w64 a))) *ℤ to_z w128 (of_z w128 (to_z w64 (of_z w64 x)))))

pub coded_product_is : (a x : ℤ) → IsNumber a → IsBound x → coded_product a x ≡ a *ℤ x
unfolding product_limit bound_limit largest_number
coded_product_is a x h k =
    let one : to_z w128 (of_z w128 (to_z w64 (of_z w64 a))) ≡ a = omega (arith, ints) in
    let two : to_z w128 (of_z w128 (to_z w64 (of_z w64 x))) ≡ x = omega (arith, ints) in
    (λ i. to_z w128 (of_z w128 (one i *ℤ two i))) ∙ to_z-of_z w128 (a *ℤ x) (fits_signed_from_abs w128 (a *ℤ x) (omega (arith, product_small a x h k)))

pub least_small : (p q : ℤ) (n : ℕ) → unsigned_abs p ≤ n → unsigned_abs q ≤ n → unsigned_abs (int_min p q) ≤ n
least_small p q n h k = omega (arith, ints, clamps)

pub greatest_small : (p q : ℤ) (n : ℕ) → unsigned_abs p ≤ n → unsigned_abs q ≤ n → unsigned_abs (int_max p q) ≤ n
greatest_small p q n h k = omega (arith, ints, clamps)

-- a number as small as a product, or as a sum of products, fits 128 bits
pub product_fits : (z : ℤ) → unsigned_abs z ≤ product_limit → to_z w128 (of_z w128 z) ≡ z
unfolding product_limit bound_limit largest_number
product_fits z h = to_z-of_z w128 z (fits_signed_from_abs w128 z (omega arith))

pub sum_fits : (z : ℤ) → unsigned_abs z ≤ sum_limit → to_z w128 (of_z w128 z) ≡ z
unfolding sum_limit term_limit product_limit bound_limit largest_number
sum_fits z h = to_z-of_z w128 z (fits_signed_from_abs w128 z (omega arith))

-- a sum of so many terms is small
pub terms_small : (z : ℤ) (i n : ℕ) → unsigned_abs z ≤ i * product_limit → i ≤ n → n ≤ term_limit → unsigned_abs z ≤ sum_limit
unfolding sum_limit
terms_small z i n h k m = let few : i ≤ term_limit = omega arith in omega (arith, mul-le-mul_right product_limit few)

pub one_more_small : (z t : ℤ) (i : ℕ) → unsigned_abs z ≤ i * product_limit → unsigned_abs t ≤ product_limit → unsigned_abs (z +ℤ t) ≤ (i + 1) * product_limit
one_more_small z t i h k = omega (arith, ints)

-- a number of a model is the same as it is read in 64 bits
pub coded_number : (z : ℤ) → IsNumber z → to_z w64 (of_z w64 z) ≡ z
unfolding largest_number
coded_number z h = omega (arith, ints)

pub coded_number_wide : (z : ℤ) → IsNumber z → to_z w128 (of_z w128 (to_z w64 (of_z w64 z))) ≡ z
unfolding largest_number
coded_number_wide z h = omega (arith, ints)

pub room_fits : (z : ℤ) → unsigned_abs z ≤ dividend_limit → to_z w128 (of_z w128 z) ≡ z
unfolding dividend_limit
room_fits z h = to_z-of_z w128 z (fits_signed_from_abs w128 z (omega arith))

-- what the code tells of a term is what the term tells
module _ (b : Bounds) (limit total : ℤ) (coeffs : List ℤ) (vars : List ℕ) (i : ℕ) (term room : ℤ) (same : length coeffs ≡ length vars) (number : IsNumber (get_or coeffs i (pos 0))) (small : unsigned_abs term ≤ product_limit) (room_small : unsigned_abs room ≤ dividend_limit) where
  pub told_at_most : term ≡ least_of b (to_z w64 (of_z w64 (get_or coeffs i (pos 0))), get_or vars i 0)
      → room ≡ limit -ℤ (total -ℤ to_z w128 (of_z w128 term))
      → product_at_most (get_or vars i 0) (to_z w64 (of_z w64 (get_or coeffs i (pos 0)))) (to_z w128 (of_z w128 room)) ≡ at_most_tell b limit total (get_or (zip coeffs vars) i (pos 0, 0))
  told_at_most e v =
      let var = get_or vars i 0 in
      let exact = coded_number (get_or coeffs i (pos 0)) number in
      let least = product_fits term small ∙ e ∙ ap (λ (z : ℤ). least_of b (z, var)) exact in
      let all = room_fits room room_small ∙ v ∙ ap (λ (z : ℤ). limit -ℤ (total -ℤ z)) least in
      (λ k. product_at_most var (exact k) (all k)) ∙ sym (ap (at_most_tell b limit total) (get_or-zip coeffs vars i same))

  pub told_more_than : term ≡ greatest_of b (to_z w64 (of_z w64 (get_or coeffs i (pos 0))), get_or vars i 0)
      → room ≡ limit +ℤ pos 1 -ℤ (total -ℤ to_z w128 (of_z w128 term))
      → product_at_least (get_or vars i 0) (to_z w64 (of_z w64 (get_or coeffs i (pos 0)))) (to_z w128 (of_z w128 room)) ≡ more_than_tell b limit total (get_or (zip coeffs vars) i (pos 0, 0))
  told_more_than e v =
      let var = get_or vars i 0 in
      let exact = coded_number (get_or coeffs i (pos 0)) number in
      let greatest = product_fits term small ∙ e ∙ ap (λ (z : ℤ). greatest_of b (z, var)) exact in
      let all = room_fits room room_small ∙ v ∙ ap (λ (z : ℤ). limit +ℤ pos 1 -ℤ (total -ℤ z)) greatest in
      (λ k. product_at_least var (exact k) (all k)) ∙ sym (ap (more_than_tell b limit total) (get_or-zip coeffs vars i same))
