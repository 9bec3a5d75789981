-- How large products and sums get, and what the code computes of them in 64 and 128 bits.
use Rattle.std.proofs.Common.{◌≡◌, ℕ, ◌+◌, ◌*◌, ◌≤◌, Bool, true, false, not, ◌&&◌, ℤ, pos, ◌+ℤ◌, ◌-ℤ◌, ◌*ℤ◌, unsigned_abs, sym, ap, ◌∙◌, refl, arith, to_z, of_z, FitsSigned}
use Rattle.std.proofs.lemmas.Bool.{and_parts, and_from}
use Rattle.std.proofs.lemmas.Int.{ints, clamps, unsigned_abs-mul, to_z-of_z, fits_signed_from_abs}
use Rattle.std.proofs.Math.Nat.{mul-le-mul, mul-le-mul_right}
use Rattle.std.specs.Int.{int_min, int_max}
use Rattle.std.specs.Int.RustNames.{int_le}
use mir.Syntax.{w64, w128}
use Rattle.interval.specs.Limits.{IsNumber, IsBound, largest_number, bound_limit, dividend_limit}
use Rattle.sum_tells.specs.Linear.{product_limit, sum_limit, term_limit}
use Rattle.sum_tells.specs.Equality.{is_same, is_product}

pub by_bool : {P : Type 0} (t : Bool) → (t ≡ true → P) → (t ≡ false → P) → P
by_bool true f g = f refl
by_bool false f g = g refl

pub same_is : (y z : ℤ) → is_same y z ≡ true → y ≡ z
same_is y z e =
    let parts = and_parts (int_le y z) (int_le z y) e in
    let p = parts.0 in
    let q = parts.1 in
    omega (arith, ints)

pub is_same_of : (y z : ℤ) → y ≡ z → is_same y z ≡ true
is_same_of y z e =
    let p : true ≡ int_le y z = omega (arith, ints) in
    let q : true ≡ int_le z y = omega (arith, ints) in
    and_from (int_le y z) (int_le z y) (sym p) (sym q)

pub product_small : (a x : ℤ) → IsNumber a → IsBound x → unsigned_abs (a *ℤ x) ≤ product_limit
unfolding product_limit
product_small a x h k = omega (arith, unsigned_abs-mul a x, mul-le-mul h k)

-- the product of two 64-bit numbers as the code forms it in 128 bits
abbrev pub coded_product : ℤ → ℤ → ℤ
coded_product a x = to_z w128 (of_z w128 (to_z w128 (of_z w128 (to_z w64 (of_z w64 a))) *ℤ to_z w128 (of_z w128 (to_z w64 (of_z w64 x)))))

pub coded_product_is : (a x : ℤ) → IsNumber a → IsBound x → coded_product a x ≡ a *ℤ x
unfolding product_limit bound_limit largest_number
coded_product_is a x h k =
    let one : to_z w128 (of_z w128 (to_z w64 (of_z w64 a))) ≡ a = omega (arith, ints) in
    let two : to_z w128 (of_z w128 (to_z w64 (of_z w64 x))) ≡ x = omega (arith, ints) in
    (λ i. to_z w128 (of_z w128 (one i *ℤ two i))) ∙ to_z-of_z w128 (a *ℤ x) (fits_signed_from_abs w128 (a *ℤ x) (omega (arith, product_small a x h k)))

pub least_small : (p q : ℤ) (n : ℕ) → unsigned_abs p ≤ n → unsigned_abs q ≤ n → unsigned_abs (int_min p q) ≤ n
least_small p q n h k = omega (arith, ints, clamps)

pub greatest_small : (p q : ℤ) (n : ℕ) → unsigned_abs p ≤ n → unsigned_abs q ≤ n → unsigned_abs (int_max p q) ≤ n
greatest_small p q n h k = omega (arith, ints, clamps)

-- a number as small as a product fits 128 bits
pub product_fits : (z : ℤ) → unsigned_abs z ≤ product_limit → to_z w128 (of_z w128 z) ≡ z
unfolding product_limit bound_limit largest_number
product_fits z h = to_z-of_z w128 z (fits_signed_from_abs w128 z (omega arith))

-- a sum of so many terms is small
pub terms_small : (z : ℤ) (i n : ℕ) → unsigned_abs z ≤ i * product_limit → i ≤ n → n ≤ term_limit → unsigned_abs z ≤ sum_limit
unfolding sum_limit
terms_small z i n h k m = let few : i ≤ term_limit = omega arith in omega (arith, mul-le-mul_right product_limit few)

pub one_more_small : (z t : ℤ) (i : ℕ) → unsigned_abs z ≤ i * product_limit → unsigned_abs t ≤ product_limit → unsigned_abs (z +ℤ t) ≤ (i + 1) * product_limit
one_more_small z t i h k = omega (arith, ints)

-- a number of a model is the same as it is read in 64 bits
pub coded_number : (z : ℤ) → IsNumber z → to_z w64 (of_z w64 z) ≡ z
unfolding largest_number
coded_number z h = omega (arith, ints)

pub coded_difference : (z t : ℤ) → unsigned_abs z ≤ sum_limit → unsigned_abs t ≤ product_limit → to_z w128 (of_z w128 (to_z w128 (of_z w128 z) -ℤ to_z w128 (of_z w128 t))) ≡ z -ℤ t
unfolding sum_limit term_limit product_limit bound_limit largest_number
coded_difference z t h k = omega (arith, ints)

-- a coefficient other than 0
pub is_product_at : (a z p : ℤ) → ¬ (a ≡ pos 0) → is_same (a *ℤ z) p ≡ is_product a z p
is_product_at a z p n = by_bool (is_same a (pos 0))
    (λ e. absurd (n (same_is a (pos 0) e)))
    (λ e. (λ i. not (sym e i) && is_same (a *ℤ z) p))

pub coded_is_product : (a z p : ℤ) (t : Bool) → IsNumber a → IsBound z → FitsSigned w128 p → (of_z w64 a ≡ 0 → ⊥) → t ≡ is_same (coded_product a z) (to_z w128 (of_z w128 p)) → t ≡ is_product a z p
coded_is_product a z p t h k f n e =
    let zero_bits : (a ≡ pos 0) → of_z w64 a ≡ 0 = λ q. ap (of_z w64) q in
    e ∙ (λ i. is_same (coded_product_is a z h k i) (to_z-of_z w128 p f i)) ∙ is_product_at a z p (λ q. n (zero_bits q))

-- what is left for a term
room_fits : (z : ℤ) → unsigned_abs z ≤ dividend_limit → to_z w128 (of_z w128 z) ≡ z
unfolding dividend_limit
room_fits z h = to_z-of_z w128 z (fits_signed_from_abs w128 z (omega arith))

sum_fits : (z : ℤ) → unsigned_abs z ≤ sum_limit → to_z w128 (of_z w128 z) ≡ z
unfolding sum_limit term_limit product_limit bound_limit largest_number
sum_fits z h = to_z-of_z w128 z (fits_signed_from_abs w128 z (omega arith))

pub coded_room : (limit sum term room : ℤ) → IsNumber limit → unsigned_abs sum ≤ sum_limit → unsigned_abs term ≤ product_limit → unsigned_abs room ≤ dividend_limit
    → room ≡ to_z w64 (of_z w64 limit) -ℤ (to_z w128 (of_z w128 sum) -ℤ to_z w128 (of_z w128 term)) → to_z w128 (of_z w128 room) ≡ limit -ℤ (sum -ℤ term)
coded_room limit sum term room h k l m e =
    room_fits room m ∙ e ∙ (λ i. coded_number limit h i -ℤ (sum_fits sum k i -ℤ product_fits term l i))
