-- Sums and products of numbers of a model, as the code forms them.
use Rattle.std.proofs.Common.{◌≡◌, ◌+◌, ◌*◌, ◌/◌, ◌<◌, ◌≤◌, ◌^◌, ℕ, zero, suc, ℤ, pos, negsuc, neg_ℤ, List, [], ◌∷◌, length, map, drop, get_or, refl, sym, ap, subst, ◌∙◌, arith, to_z, of_z, ⊎_elim, inl, inr, ◌⊎◌, min, div-le_self}
use Rattle.std.specs.Prelude.{◌+ℤ◌, ◌-ℤ◌, ◌*ℤ◌, All, unsigned_abs, FitsSigned}
use Rattle.std.specs.Int.RustNames.{int_div, int_rem}
use Rattle.std.proofs.lemmas.Int.{ints, to_z-of_z, fits_signed_mul, fits_signed_from_abs, unsigned_abs-mul, quot-rem, rem_is}
use Rattle.std.proofs.lemmas.Bool.{cases_lt}
use Rattle.std.proofs.lemmas.List.{drop_more, drop_all, get_or-map, get_or_past, length-map}
use Rattle.std.proofs.Math.Nat.{mul-le-mul, mul-le-mul_right}
use Rattle.std.proofs.Math.IntN.{*ℤ_comm}
use mir.Syntax.{w64, w128}
use Rattle.constraint_model.specs.declared.model.Term.{Term}
use Rattle.constraint_model.specs.Limits.{most_entries}
use Rattle.constraint_model.specs.Numbers.{IsInProfile, largest}
use Rattle.constraint_model.specs.Relations.{value, dot}
use Rattle.constraint_check.specs.Asked.{IsSmallTerm, product_limit}

-- ---- two numbers of 64 bits

abbrev pub coded : ℤ → ℤ
coded x = to_z w128 (of_z w128 (to_z w64 (of_z w64 x)))

pub coded_is : (x : ℤ) → FitsSigned w64 x → coded x ≡ x
coded_is x fits = omega (arith, ints)

abs_small : (x : ℤ) → FitsSigned w64 x → unsigned_abs x ≤ 2 ^ 63
abs_small x fits = omega (arith, ints)

pub product_is : (x y : ℤ) → FitsSigned w64 x → FitsSigned w64 y → to_z w128 (of_z w128 (coded x *ℤ coded y)) ≡ x *ℤ y
product_is x y f g =
    (λ i. to_z w128 (of_z w128 (coded_is x f i *ℤ coded_is y g i)))
    ∙ to_z-of_z w128 (x *ℤ y) (fits_signed_mul w128 x y (2 ^ 63) (2 ^ 63) (abs_small x f) (abs_small y g) (omega arith))

abs_opposite : (n : ℕ) → unsigned_abs (neg_ℤ (pos n)) ≡ n
abs_opposite zero = refl
abs_opposite (suc n) = refl

quotient_small : (a b : ℤ) → unsigned_abs (int_div a b) ≤ unsigned_abs a
quotient_small (pos a) (pos b) = div-le_self a b
quotient_small (pos a) (negsuc b) = omega (arith, abs_opposite (a / suc b), div-le_self a (suc b))
quotient_small (negsuc a) (pos b) = omega (arith, abs_opposite (suc a / b), div-le_self (suc a) b)
quotient_small (negsuc a) (negsuc b) = div-le_self (suc a) (suc b)

quotient_fits : (a b : ℤ) → FitsSigned w64 a → FitsSigned w128 (int_div a b)
quotient_fits a b f = let h = abs_small a f in fits_signed_from_abs w128 (int_div a b) (omega (arith, quotient_small a b))

pub quotient_is : (x y : ℤ) → FitsSigned w64 x → FitsSigned w64 y → to_z w128 (of_z w128 (int_div (coded x) (coded y))) ≡ int_div x y
quotient_is x y f g =
    (λ i. to_z w128 (of_z w128 (int_div (coded_is x f i) (coded_is y g i)))) ∙ to_z-of_z w128 (int_div x y) (quotient_fits x y f)

-- the code may divide
pub quotient_coded : (x y : ℤ) → FitsSigned w64 x → FitsSigned w64 y → FitsSigned w128 (int_div (coded x) (coded y))
quotient_coded x y f g = let P : ℤ → Type 0 = λ z. FitsSigned w128 z in subst P (sym (λ i. int_div (coded_is x f i) (coded_is y g i))) (quotient_fits x y f)

wide : (x : ℤ) → FitsSigned w64 x → FitsSigned w128 x
wide x f = let h = abs_small x f in fits_signed_from_abs w128 x (omega arith)

short_is : (x : ℤ) → FitsSigned w64 x → to_z w64 (of_z w64 x) ≡ x
short_is x f = to_z-of_z w64 x f

-- what the quotient leaves
pub rest_is : (a b : ℤ) → int_rem a b ≡ a -ℤ (b *ℤ int_div a b)
rest_is a b = let whole = quot-rem a b in let turned = *ℤ_comm b (int_div a b) in omega (arith, ints)

pub coded_rest_is : (x y : ℤ) → FitsSigned w64 x → FitsSigned w64 y → to_z w128 (of_z w128 (int_rem (coded x) (coded y))) ≡ int_rem x y
coded_rest_is x y f g =
    (λ i. to_z w128 (of_z w128 (int_rem (to_z w128 (of_z w128 (short_is x f i))) (to_z w128 (of_z w128 (short_is y g i))))))
    ∙ rem_is w128 x y (wide x f) (wide y g)

-- ---- numbers of a model

pub value_small : (a : List ℤ) (t : Term) → All IsInProfile a → IsSmallTerm t → IsInProfile (value a t)
unfolding largest
value_small a (Term.Number n) all small = small
value_small a (Term.Var v) all small =
    ⊎_elim (λ inside. all v (pos 0) inside) (λ past. subst IsInProfile (sym (get_or_past a v (pos 0) past)) (omega (arith, ints))) (cases_lt v (length a))

fits_64 : (z : ℤ) → IsInProfile z → FitsSigned w64 z
unfolding largest
fits_64 z h = omega (arith, ints)

pub product_small : (x y : ℤ) → IsInProfile x → IsInProfile y → unsigned_abs (x *ℤ y) ≤ product_limit
unfolding product_limit largest
product_small x y h k = omega (arith, unsigned_abs-mul x y, mul-le-mul h k)

pub coded_product_small : (x y : ℤ) → IsInProfile x → IsInProfile y → unsigned_abs (to_z w128 (of_z w128 (coded x *ℤ coded y))) ≤ product_limit
coded_product_small x y h k = subst (λ (z : ℤ). unsigned_abs z ≤ product_limit) (sym (product_is x y (fits_64 x h) (fits_64 y k))) (product_small x y h k)

-- and so is one number
pub coded_small : (x : ℤ) → IsInProfile x → unsigned_abs (coded x) ≤ product_limit
unfolding product_limit largest
coded_small x h = subst (λ (z : ℤ). unsigned_abs z ≤ product_limit) (sym (coded_is x (fits_64 x h))) (omega (arith, h))

-- a sum of so many products is small
pub sum_small : (z : ℤ) (i n : ℕ) → unsigned_abs z ≤ i * product_limit → i ≤ n → n ≤ most_entries → unsigned_abs z ≤ most_entries * product_limit
sum_small z i n h k m = let few : i ≤ most_entries = omega arith in omega (arith, mul-le-mul_right product_limit few)

pub one_more_small : (z t : ℤ) (i : ℕ) → unsigned_abs z ≤ i * product_limit → unsigned_abs t ≤ product_limit → unsigned_abs (z +ℤ t) ≤ (i + 1) * product_limit
one_more_small z t i h k = omega (arith, ints)

-- ---- sums of products

-- the first of those that are left
pub dot_step : (v : Term → ℤ) (cs xs : List Term) (i : ℕ) (d : Term) → i < length cs → i < length xs
    → dot (drop i (map v cs)) (drop i (map v xs)) ≡ (v (get_or cs i d) *ℤ v (get_or xs i d)) +ℤ dot (drop (i + 1) (map v cs)) (drop (i + 1) (map v xs))
dot_step v cs xs i d in_cs in_xs = (λ k. dot (part cs in_cs k) (part xs in_xs k))
  where
    part : (ts : List Term) → i < length ts → drop i (map v ts) ≡ v (get_or ts i d) ∷ drop (i + 1) (map v ts)
    part ts inside =
        let long = length-map ts v in
        drop_more (map v ts) i (pos 0) (omega arith) ∙ ap (λ (z : ℤ). z ∷ drop (i + 1) (map v ts)) (get_or-map v ts i d (pos 0) inside)

-- and none is left
dot_none : (cs xs : List ℤ) → (length cs ≡ 0) ⊎ (length xs ≡ 0) → dot cs xs ≡ pos 0
dot_none [] xs none = refl
dot_none (c ∷ cs) [] none = refl
dot_none (c ∷ cs) (x ∷ xs) none = absurd (⊎_elim (λ e. omega arith) (λ e. omega arith) none)

pub dot_end : (v : Term → ℤ) (cs xs : List Term) (i : ℕ) → (length cs ≤ i) ⊎ (length xs ≤ i) → dot (drop i (map v cs)) (drop i (map v xs)) ≡ pos 0
dot_end v cs xs i none = dot_none (drop i (map v cs)) (drop i (map v xs)) (⊎_elim (λ h. inl (gone cs h)) (λ h. inr (gone xs h)) none)
  where
    gone : (ts : List Term) → length ts ≤ i → length (drop i (map v ts)) ≡ 0
    gone ts h = let long = length-map ts v in ap length (drop_all i (map v ts) (omega arith))

pub min_cases : (m n i : ℕ) → min m n ≤ i → (m ≤ i) ⊎ (n ≤ i)
min_cases m n i h = ⊎_elim (λ less. inl (omega arith)) (λ more. inr (omega arith)) (cases_lt m n)
