-- The parts and the lists of all views.
use Rattle.std.proofs.Common.{ℕ, zero, suc, ◌≡◌, ◌≢◌, ◌+◌, ◌<◌, ◌≤◌, List, [], ◌∷◌, ◌++◌, length, set, refl, sym, ap, arith}
use mathlib.Core.Option.{some, some-injective, some-ne-none}
use lib.ListN.{get_elem?}
use Rattle.std.specs.List.{sum_by}
use Rattle.steal_crew.specs.declared.deque.View.{View}
use Rattle.steal_crew.specs.Rule.{taken_weight, total_parts}

pub is_inside : {A : Type 0} (xs : List A) (i : ℕ) (x : A) → get_elem? xs i ≡ some x → i < length xs
is_inside [] i x e = absurd (some-ne-none x (sym e))
is_inside (y ∷ xs) zero x e = omega arith
is_inside (y ∷ xs) (suc i) x e = let r = is_inside xs i x e in omega arith

pub total-set : (views : List View) (id : ℕ) (v w : View) → get_elem? views id ≡ some v → total_parts (set views id w) + v.parts ≡ total_parts views + w.parts
total-set [] id v w e = absurd (some-ne-none v (sym e))
total-set (u ∷ views) zero v w e = let p = ap (λ (x : View). x.parts) (some-injective u v e) in omega arith
total-set (u ∷ views) (suc id) v w e = let r = total-set views id v w e in omega arith

pub total-snoc : (views : List View) (w : View) → total_parts (views ++ w ∷ []) ≡ total_parts views + w.parts
total-snoc [] w = omega arith
total-snoc (u ∷ views) w = let r = total-snoc views w in omega arith

pub part_of_total : (views : List View) (id : ℕ) (v : View) → get_elem? views id ≡ some v → v.parts ≤ total_parts views
part_of_total [] id v e = absurd (some-ne-none v (sym e))
part_of_total (u ∷ views) zero v e = let p = ap (λ (x : View). x.parts) (some-injective u v e) in omega arith
part_of_total (u ∷ views) (suc id) v e = let r = part_of_total views id v e in omega arith

-- where one view has all parts, each other has none
pub two_of_total : (views : List View) (i j : ℕ) (v w : View) → get_elem? views i ≡ some v → get_elem? views j ≡ some w → j ≢ i → v.parts + w.parts ≤ total_parts views
two_of_total [] i j v w a b ne = absurd (some-ne-none v (sym a))
two_of_total (u ∷ views) zero zero v w a b ne = absurd (ne refl)
two_of_total (u ∷ views) zero (suc j) v w a b ne = let p = ap (λ (x : View). x.parts) (some-injective u v a) in let r = part_of_total views j w b in omega arith
two_of_total (u ∷ views) (suc i) zero v w a b ne = let p = ap (λ (x : View). x.parts) (some-injective u w b) in let r = part_of_total views i v a in omega arith
two_of_total (u ∷ views) (suc i) (suc j) v w a b ne = let r = two_of_total views i j v w a b (λ e. ne (ap suc e)) in omega arith

pub taken-set : (w : ℕ → ℕ) (views : List View) (id : ℕ) (v u : View) → get_elem? views id ≡ some v → taken_weight w (set views id u) + sum_by w v.taken ≡ taken_weight w views + sum_by w u.taken
taken-set w [] id v u e = absurd (some-ne-none v (sym e))
taken-set w (x ∷ views) zero v u e = let p = ap (λ (y : View). sum_by w y.taken) (some-injective x v e) in omega arith
taken-set w (x ∷ views) (suc id) v u e = let r = taken-set w views id v u e in omega arith

pub taken-snoc : (w : ℕ → ℕ) (views : List View) (u : View) → taken_weight w (views ++ u ∷ []) ≡ taken_weight w views + sum_by w u.taken
taken-snoc w [] u = omega arith
taken-snoc w (x ∷ views) u = let r = taken-snoc w views u in omega arith

pub part_of_taken : (w : ℕ → ℕ) (views : List View) (id : ℕ) (v : View) → get_elem? views id ≡ some v → sum_by w v.taken ≤ taken_weight w views
part_of_taken w [] id v e = absurd (some-ne-none v (sym e))
part_of_taken w (x ∷ views) zero v e = let p = ap (λ (y : View). sum_by w y.taken) (some-injective x v e) in omega arith
part_of_taken w (x ∷ views) (suc id) v e = let r = part_of_taken w views id v e in omega arith

-- where one view has all parts, and spent views have no list, its list is that of all
abbrev pub AreSpentEmpty : List View → Type 0
AreSpentEmpty views = (j : ℕ) (v : View) → get_elem? views j ≡ some v → v.parts ≡ 0 → v.taken ≡ []

none_taken : (w : ℕ → ℕ) (views : List View) → AreSpentEmpty views → total_parts views ≡ 0 → taken_weight w views ≡ 0
none_taken w [] s e = refl
none_taken w (u ∷ views) s e =
    let h : sum_by w u.taken ≡ sum_by w [] = ap (sum_by w) (s 0 u refl (omega arith)) in
    let r = none_taken w views (λ j v a. s (suc j) v a) (omega arith) in omega arith

pub all_in_one : (w : ℕ → ℕ) (views : List View) (id : ℕ) (v : View) → AreSpentEmpty views → get_elem? views id ≡ some v → total_parts views ≡ v.parts → taken_weight w views ≡ sum_by w v.taken
all_in_one w [] id v s e t = absurd (some-ne-none v (sym e))
all_in_one w (u ∷ views) zero v s e t =
    let p = ap (λ (x : View). x.parts) (some-injective u v e) in
    let q = ap (λ (x : View). sum_by w x.taken) (some-injective u v e) in
    let r = none_taken w views (λ j x a. s (suc j) x a) (omega arith) in omega arith
all_in_one w (u ∷ views) (suc id) v s e t =
    let b = part_of_total views id v e in
    let h : sum_by w u.taken ≡ sum_by w [] = ap (sum_by w) (s 0 u refl (omega arith)) in
    let r = all_in_one w views id v (λ j x a. s (suc j) x a) e (omega arith) in omega arith
