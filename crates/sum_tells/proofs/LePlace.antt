-- Where the tells of the linear inequality are, and that they depend on its variables alone.
use Rattle.std.proofs.Common.{◌≡◌, ◌↔◌, ℕ, suc, ◌<◌, List, [], ◌∷◌, ◌++◌, length, get_or, not, ℤ, pos, ◌+ℤ◌, ◌-ℤ◌, ◌*ℤ◌, ◌≤ℤ◌, sym, ap, subst, arith}
use Rattle.std.proofs.lemmas.List.Elements.{All-append}
use Rattle.std.specs.Int.RustNames.{int_lt, int_le}
use Rattle.std.specs.List.{All, zip, flat_map}
use Rattle.std.specs.Prelude.{IsTrue}
use Rattle.tells.specs.declared.tell.Lit.{Lit}
use Rattle.tells.specs.declared.tell.Tell.{Tell}
use Rattle.interval.specs.Limits.{ClampOrder}
use Rattle.interval.specs.Boxes.{Bounds, low_of, high_of}
use Rattle.tells.specs.Words.{when, literal_true, is_sure, is_out, tell_true, tell_false, AreVariables, AgreeIn, SameValuesIn, value_of}
use Rattle.sum_tells.specs.Linear.{Term, least_of, greatest_of, sum_over, product_at_most, product_at_least, at_most_tell, more_than_tell, literal_tells, sure_tells, out_tells, bound_tells, at_most_tells, term_value, IsAtMost}
use Rattle.tell_laws.proofs.Lists.{All-one, All-flat_map, All-when, flat_map_same}
use Rattle.sum_tells.proofs.SumLists.{sum_same}
use Rattle.sum_tells.proofs.TermLaws.{length-zip, get_or-zip}
use Rattle.tell_laws.proofs.PlaceLaws.{IsPlaced, sign_placed, at_most_placed, at_least_placed, same_sure, same_out}
use Rattle.sum_tells.proofs.TermPlaces.{same_least, same_greatest, at_zip}

pub le_placed : ClampOrder → (count : ℕ) (l : Lit) (coeffs : List ℤ) (vars : List ℕ) (limit : ℤ) (b : Bounds) → length coeffs ≡ length vars → AreVariables count (l.var ∷ vars)
    → All (IsPlaced count (l.var ∷ vars)) (at_most_tells l coeffs vars limit b)
le_placed clamped count l coeffs vars limit b same variables =
    let all = l.var ∷ vars in
    let P : Tell → Type 0 = IsPlaced count all in
    let ts = zip coeffs vars in
    let m = sum_over (least_of b) ts in
    let n = sum_over (greatest_of b) ts in
    All-append P (literal_tells l limit m n) (bound_tells l ts limit m n b)
    (All-append P (when (int_le n limit) (tell_true l ∷ [])) (when (int_lt limit m) (tell_false l ∷ []))
    (All-when P (int_le n limit) _ (λ e. All-one P (tell_true l) (sign_placed clamped count all variables l.positive 0 (omega arith))))
    (All-when P (int_lt limit m) _ (λ e. All-one P (tell_false l) (sign_placed clamped count all variables (not l.positive) 0 (omega arith)))))
    (All-append P (sure_tells l ts limit m b) (out_tells l ts limit n b)
    (All-when P (is_sure l b) (flat_map (at_most_tell b limit m) ts) (λ e. All-flat_map P (at_most_tell b limit m) ts (pos 0, 0) (λ i h.
    let Q : Term → Type 0 = λ t. All P (at_most_tell b limit m t) in
    let a = get_or coeffs i (pos 0) in
    let x = get_or vars i 0 in
    let inside : suc i < length all = omega (arith, length-zip coeffs vars same) in
    subst Q (sym (get_or-zip coeffs vars i same)) (at_most_placed clamped count all variables (suc i) a (limit -ℤ (m -ℤ least_of b (a, x))) inside))))
    (All-when P (is_out l b) (flat_map (more_than_tell b limit n) ts) (λ e. All-flat_map P (more_than_tell b limit n) ts (pos 0, 0) (λ i h.
    let Q : Term → Type 0 = λ t. All P (more_than_tell b limit n t) in
    let a = get_or coeffs i (pos 0) in
    let x = get_or vars i 0 in
    let inside : suc i < length all = omega (arith, length-zip coeffs vars same) in
    subst Q (sym (get_or-zip coeffs vars i same)) (at_least_placed clamped count all variables (suc i) a (limit +ℤ pos 1 -ℤ (n -ℤ greatest_of b (a, x))) inside)))))

pub le_local : (l : Lit) (coeffs : List ℤ) (vars : List ℕ) (limit : ℤ) (b c : Bounds) → AgreeIn (l.var ∷ vars) b c → at_most_tells l coeffs vars limit b ≡ at_most_tells l coeffs vars limit c
le_local l coeffs vars limit b c agree =
    let ts = zip coeffs vars in
    let lows = at_zip (λ x. low_of b x ≡ low_of c x) coeffs vars (λ i h. agree.lows (suc i) (omega arith)) in
    let highs = at_zip (λ x. high_of b x ≡ high_of c x) coeffs vars (λ i h. agree.highs (suc i) (omega arith)) in
    let low = agree.lows 0 (omega arith) in
    let high = agree.highs 0 (omega arith) in
    let least = λ (i : ℕ) (h : i < length ts). same_least b c (get_or ts i (pos 0, 0)) (lows i h) (highs i h) in
    let greatest = λ (i : ℕ) (h : i < length ts). same_greatest b c (get_or ts i (pos 0, 0)) (lows i h) (highs i h) in
    let m = sum_same (least_of b) (least_of c) ts (pos 0, 0) least in
    let n = sum_same (greatest_of b) (greatest_of c) ts (pos 0, 0) greatest in
    let sures = flat_map_same (at_most_tell b limit (sum_over (least_of b) ts)) (at_most_tell c limit (sum_over (least_of c) ts)) ts (pos 0, 0) (λ i h. (λ k. product_at_most (get_or ts i (pos 0, 0)).1 (get_or ts i (pos 0, 0)).0 (limit -ℤ (m k -ℤ least i h k)))) in
    let outs = flat_map_same (more_than_tell b limit (sum_over (greatest_of b) ts)) (more_than_tell c limit (sum_over (greatest_of c) ts)) ts (pos 0, 0) (λ i h. (λ k. product_at_least (get_or ts i (pos 0, 0)).1 (get_or ts i (pos 0, 0)).0 (limit +ℤ pos 1 -ℤ (n k -ℤ greatest i h k)))) in
    (λ k. literal_tells l limit (m k) (n k) ++ (when (same_sure l b c low high k) (sures k) ++ when (same_out l b c low high k) (outs k)))

pub le_local_relation : (l : Lit) (coeffs : List ℤ) (vars : List ℕ) (limit : ℤ) (f g : List ℤ) → SameValuesIn (l.var ∷ vars) f g → IsAtMost l coeffs vars limit f → IsAtMost l coeffs vars limit g
le_local_relation l coeffs vars limit f g same holds =
    let ts = zip coeffs vars in
    let values = at_zip (λ x. value_of f x ≡ value_of g x) coeffs vars (λ i h. same (suc i) (omega arith)) in
    let own = same 0 (omega arith) in
    let sums = sum_same (term_value f) (term_value g) ts (pos 0, 0) (λ i h. ap (λ (z : ℤ). (get_or ts i (pos 0, 0)).0 *ℤ z) (values i h)) in
    let P : ℤ → ℤ → Type 0 = λ v s. IsTrue (literal_true l v) ↔ (s ≤ℤ limit) in
    subst (λ (v : ℤ). P v (sum_over (term_value g) ts)) own (subst (P (value_of f l.var)) sums holds)
