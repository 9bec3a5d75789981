-- The parts and the lists of all seats.
use Rattle.std.proofs.Common.{ℕ, zero, suc, ◌≡◌, ◌+◌, ◌<◌, ◌≤◌, List, [], ◌∷◌, ◌++◌, length, set, refl, sym, ap, arith}
use mathlib.Core.Option.{some, some-injective, some-ne-none}
use lib.ListN.{get_elem?}
use Rattle.tickets.specs.declared.table.View.{View}
use Rattle.tickets.specs.Counting.{times}
use Rattle.tickets.specs.Rule.{times_all, total_parts}

pub is_inside : {A : Type 0} (xs : List A) (i : ℕ) (x : A) → get_elem? xs i ≡ some x → i < length xs
is_inside [] i x e = absurd (some-ne-none x (sym e))
is_inside (y ∷ xs) zero x e = omega arith
is_inside (y ∷ xs) (suc i) x e = let r = is_inside xs i x e in omega arith

pub total-set : (views : List View) (id : ℕ) (v w : View) → get_elem? views id ≡ some v → total_parts (set views id w) + v.parts ≡ total_parts views + w.parts
total-set [] id v w e = absurd (some-ne-none v (sym e))
total-set (u ∷ views) zero v w e = let p = ap (λ (x : View). x.parts) (some-injective u v e) in omega arith
total-set (u ∷ views) (suc id) v w e = let r = total-set views id v w e in omega arith

pub total-snoc : (views : List View) (w : View) → total_parts (views ++ w ∷ []) ≡ total_parts views + w.parts
total-snoc [] w = omega arith
total-snoc (u ∷ views) w = let r = total-snoc views w in omega arith

pub part_of_total : (views : List View) (id : ℕ) (v : View) → get_elem? views id ≡ some v → v.parts ≤ total_parts views
part_of_total [] id v e = absurd (some-ne-none v (sym e))
part_of_total (u ∷ views) zero v e = let p = ap (λ (x : View). x.parts) (some-injective u v e) in omega arith
part_of_total (u ∷ views) (suc id) v e = let r = part_of_total views id v e in omega arith

pub times_all-set : (k : ℕ) (views : List View) (id : ℕ) (v w : View) → get_elem? views id ≡ some v → times_all k (set views id w) + times k v.drawn ≡ times_all k views + times k w.drawn
times_all-set k [] id v w e = absurd (some-ne-none v (sym e))
times_all-set k (u ∷ views) zero v w e = let p = ap (λ (x : View). times k x.drawn) (some-injective u v e) in omega arith
times_all-set k (u ∷ views) (suc id) v w e = let r = times_all-set k views id v w e in omega arith

pub times_all-snoc : (k : ℕ) (views : List View) (w : View) → times_all k (views ++ w ∷ []) ≡ times_all k views + times k w.drawn
times_all-snoc k [] w = omega arith
times_all-snoc k (u ∷ views) w = let r = times_all-snoc k views w in omega arith

pub part_of_times : (k : ℕ) (views : List View) (id : ℕ) (v : View) → get_elem? views id ≡ some v → times k v.drawn ≤ times_all k views
part_of_times k [] id v e = absurd (some-ne-none v (sym e))
part_of_times k (u ∷ views) zero v e = let p = ap (λ (x : View). times k x.drawn) (some-injective u v e) in omega arith
part_of_times k (u ∷ views) (suc id) v e = let r = part_of_times k views id v e in omega arith

-- seats without parts have no lists
unfoldable pub AreSpentEmpty : List View → Type 0
AreSpentEmpty views = (j : ℕ) (u : View) → get_elem? views j ≡ some u → u.parts ≡ 0 → u.drawn ≡ []

none_drawn : (k : ℕ) (views : List View) → AreSpentEmpty views → total_parts views ≡ 0 → times_all k views ≡ 0
unfolding AreSpentEmpty
none_drawn k [] spent e = refl
none_drawn k (u ∷ views) spent e =
    let here : times k u.drawn ≡ 0 = ap (times k) (spent zero u refl (omega arith)) in
    let r = none_drawn k views (λ j w at. spent (suc j) w at) (omega arith) in omega arith

-- where one seat has all parts, what is drawn is in its list
pub all_in_one : (k : ℕ) (views : List View) (id : ℕ) (v : View) → AreSpentEmpty views → get_elem? views id ≡ some v → total_parts views ≡ v.parts → times_all k views ≡ times k v.drawn
unfolding AreSpentEmpty
all_in_one k [] id v spent e all = absurd (some-ne-none v (sym e))
all_in_one k (u ∷ views) zero v spent e all =
    let p = ap (λ (x : View). x.parts) (some-injective u v e) in
    let q = ap (λ (x : View). times k x.drawn) (some-injective u v e) in
    let r = none_drawn k views (λ j w at. spent (suc j) w at) (omega arith) in omega arith
all_in_one k (u ∷ views) (suc id) v spent e all =
    let p = part_of_total views id v e in
    let here : times k u.drawn ≡ 0 = ap (times k) (spent zero u refl (omega arith)) in
    let r = all_in_one k views id v (λ j w at. spent (suc j) w at) e (omega arith) in omega arith
