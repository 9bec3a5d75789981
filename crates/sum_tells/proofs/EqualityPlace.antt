-- Where the tells of the linear equation are, and that they depend on its variables alone.
use Rattle.std.proofs.Common.{◌≡◌, ◌↔◌, ℕ, suc, ◌<◌, List, [], ◌∷◌, ◌++◌, length, get_or, not, ◌&&◌, ◌||◌, ℤ, pos, ◌+ℤ◌, ◌-ℤ◌, ◌*ℤ◌, sym, ap, subst, arith}
use Rattle.std.proofs.lemmas.List.Elements.{All-append}
use Rattle.std.specs.Int.RustNames.{int_lt}
use Rattle.std.specs.List.{All, zip, flat_map}
use Rattle.std.specs.Prelude.{IsTrue}
use Rattle.tells.specs.declared.tell.Lit.{Lit}
use Rattle.tells.specs.declared.tell.Tell.{Tell}
use Rattle.interval.specs.Limits.{ClampOrder}
use Rattle.interval.specs.Boxes.{Bounds, low_of, high_of}
use Rattle.tells.specs.Words.{low_tell, high_tell, when, literal_true, is_sure, is_out, tell_true, tell_false, AreVariables, AgreeIn, SameValuesIn, value_of}
use Rattle.sum_tells.specs.Linear.{Term, least_of, greatest_of, sum_over, product_at_most, product_at_least, at_most_tell, at_least_tell, term_value}
use Rattle.sum_tells.specs.Equality.{is_same, is_product, low_is_not, high_is_not, product_is_not, equation_tells, equal_tell, unequal_tell, equal_tells, unequal_tells, eq_tells, IsEquation}
use Rattle.tell_laws.proofs.Lists.{All-one, All-flat_map, All-when, flat_map_same}
use Rattle.sum_tells.proofs.SumLists.{sum_same}
use Rattle.sum_tells.proofs.TermLaws.{length-zip, get_or-zip}
use Rattle.tell_laws.proofs.PlaceLaws.{IsPlaced, low_placed, high_placed, sign_placed, at_most_placed, at_least_placed, same_sure, same_out}
use Rattle.sum_tells.proofs.TermPlaces.{same_least, same_greatest, at_zip}

pub eq_placed : ClampOrder → (count : ℕ) (l : Lit) (coeffs : List ℤ) (vars : List ℕ) (limit : ℤ) (b : Bounds) → length coeffs ≡ length vars → AreVariables count (l.var ∷ vars)
    → All (IsPlaced count (l.var ∷ vars)) (eq_tells l coeffs vars limit b)
unfolding eq_tells
eq_placed clamped count l coeffs vars limit b same variables =
    let all = l.var ∷ vars in
    let P : Tell → Type 0 = IsPlaced count all in
    let ts = zip coeffs vars in
    let m = sum_over (least_of b) ts in
    let n = sum_over (greatest_of b) ts in
    let impossible = int_lt limit m || int_lt n limit in
    let certain = is_same m limit && is_same n limit in
    All-append P (equation_tells l limit m n) (equal_tells l ts limit m n b ++ unequal_tells l ts limit m n b)
    (All-append P (when impossible (tell_false l ∷ [])) (when certain (tell_true l ∷ []))
    (All-when P impossible _ (λ e. All-one P (tell_false l) (sign_placed clamped count all variables (not l.positive) 0 (omega arith))))
    (All-when P certain _ (λ e. All-one P (tell_true l) (sign_placed clamped count all variables l.positive 0 (omega arith)))))
    (All-append P (equal_tells l ts limit m n b) (unequal_tells l ts limit m n b)
    (All-when P (is_sure l b) (flat_map (equal_tell b limit m n) ts) (λ e. All-flat_map P (equal_tell b limit m n) ts (pos 0, 0) (λ i h.
    let Q : Term → Type 0 = λ t. All P (equal_tell b limit m n t) in
    let a = get_or coeffs i (pos 0) in
    let x = get_or vars i 0 in
    let inside : suc i < length all = omega (arith, length-zip coeffs vars same) in
    subst Q (sym (get_or-zip coeffs vars i same))
    (All-append P (at_most_tell b limit m (a, x)) (at_least_tell b limit n (a, x))
    (at_most_placed clamped count all variables (suc i) a (limit -ℤ (m -ℤ least_of b (a, x))) inside)
    (at_least_placed clamped count all variables (suc i) a (limit -ℤ (n -ℤ greatest_of b (a, x))) inside)))))
    (All-when P (is_out l b) (flat_map (unequal_tell b limit m n) ts) (λ e. All-flat_map P (unequal_tell b limit m n) ts (pos 0, 0) (λ i h.
    let Q : Term → Type 0 = λ t. All P (unequal_tell b limit m n t) in
    let a = get_or coeffs i (pos 0) in
    let x = get_or vars i 0 in
    let p = limit -ℤ (m -ℤ least_of b (a, x)) in
    let inside : suc i < length all = omega (arith, length-zip coeffs vars same) in
    subst Q (sym (get_or-zip coeffs vars i same))
    (All-when P (is_same (m -ℤ least_of b (a, x)) (n -ℤ greatest_of b (a, x))) (product_is_not x a p b) (λ f.
    All-append P (low_is_not x a p b) (high_is_not x a p b)
    (All-when P (is_product a (low_of b x) p) _ (λ k. All-one P (low_tell x (low_of b x +ℤ pos 1)) (low_placed clamped count all variables (suc i) (low_of b x +ℤ pos 1) inside)))
    (All-when P (is_product a (high_of b x) p) _ (λ k. All-one P (high_tell x (high_of b x -ℤ pos 1)) (high_placed clamped count all variables (suc i) (high_of b x -ℤ pos 1) inside)))))))))

-- the tells of a term as they depend on the sums and on the term's range and bounds
equal_at : ℤ → ℕ → ℤ → ℤ → ℤ → ℤ → ℤ → List Tell
equal_at limit x a m n least greatest =
    product_at_most x a (limit -ℤ (m -ℤ least)) ++ product_at_least x a (limit -ℤ (n -ℤ greatest))

unequal_at : ℤ → ℕ → ℤ → ℤ → ℤ → ℤ → ℤ → ℤ → ℤ → List Tell
unequal_at limit x a m n least greatest low high =
    when (is_same (m -ℤ least) (n -ℤ greatest))
    (when (is_product a low (limit -ℤ (m -ℤ least))) (low_tell x (low +ℤ pos 1) ∷ [])
    ++ when (is_product a high (limit -ℤ (m -ℤ least))) (high_tell x (high -ℤ pos 1) ∷ []))

pub eq_local : (l : Lit) (coeffs : List ℤ) (vars : List ℕ) (limit : ℤ) (b c : Bounds) → AgreeIn (l.var ∷ vars) b c → eq_tells l coeffs vars limit b ≡ eq_tells l coeffs vars limit c
unfolding eq_tells equal_at unequal_at
eq_local l coeffs vars limit b c agree =
    let ts = zip coeffs vars in
    let lows = at_zip (λ x. low_of b x ≡ low_of c x) coeffs vars (λ i h. agree.lows (suc i) (omega arith)) in
    let highs = at_zip (λ x. high_of b x ≡ high_of c x) coeffs vars (λ i h. agree.highs (suc i) (omega arith)) in
    let low = agree.lows 0 (omega arith) in
    let high = agree.highs 0 (omega arith) in
    let least = λ (i : ℕ) (h : i < length ts). same_least b c (get_or ts i (pos 0, 0)) (lows i h) (highs i h) in
    let greatest = λ (i : ℕ) (h : i < length ts). same_greatest b c (get_or ts i (pos 0, 0)) (lows i h) (highs i h) in
    let m = sum_same (least_of b) (least_of c) ts (pos 0, 0) least in
    let n = sum_same (greatest_of b) (greatest_of c) ts (pos 0, 0) greatest in
    let equals = flat_map_same (equal_tell b limit (sum_over (least_of b) ts) (sum_over (greatest_of b) ts)) (equal_tell c limit (sum_over (least_of c) ts) (sum_over (greatest_of c) ts)) ts (pos 0, 0)
    (λ i h. (λ k. equal_at limit (get_or ts i (pos 0, 0)).1 (get_or ts i (pos 0, 0)).0 (m k) (n k) (least i h k) (greatest i h k))) in
    let unequals = flat_map_same (unequal_tell b limit (sum_over (least_of b) ts) (sum_over (greatest_of b) ts)) (unequal_tell c limit (sum_over (least_of c) ts) (sum_over (greatest_of c) ts)) ts (pos 0, 0)
    (λ i h. (λ k. unequal_at limit (get_or ts i (pos 0, 0)).1 (get_or ts i (pos 0, 0)).0 (m k) (n k) (least i h k) (greatest i h k) (lows i h k) (highs i h k))) in
    (λ k. equation_tells l limit (m k) (n k) ++ (when (same_sure l b c low high k) (equals k) ++ when (same_out l b c low high k) (unequals k)))

pub eq_local_relation : (l : Lit) (coeffs : List ℤ) (vars : List ℕ) (limit : ℤ) (f g : List ℤ) → SameValuesIn (l.var ∷ vars) f g → IsEquation l coeffs vars limit f → IsEquation l coeffs vars limit g
eq_local_relation l coeffs vars limit f g same holds =
    let ts = zip coeffs vars in
    let values = at_zip (λ x. value_of f x ≡ value_of g x) coeffs vars (λ i h. same (suc i) (omega arith)) in
    let own = same 0 (omega arith) in
    let sums = sum_same (term_value f) (term_value g) ts (pos 0, 0) (λ i h. ap (λ (z : ℤ). (get_or ts i (pos 0, 0)).0 *ℤ z) (values i h)) in
    let P : ℤ → ℤ → Type 0 = λ v s. IsTrue (literal_true l v) ↔ (s ≡ limit) in
    subst (λ (v : ℤ). P v (sum_over (term_value g) ts)) own (subst (P (value_of f l.var)) sums holds)
