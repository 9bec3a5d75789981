-- Each kind of step keeps the rule of a deque.
use Rattle.std.proofs.Common.{◌≡◌, ◌≢◌, ℕ, zero, suc, ◌+◌, ◌≤◌, ◌<◌, List, [], ◌∷◌, ◌++◌, length, set, sym, refl, ap, ◌∙◌, subst, ⊎_elim, arith}
use mathlib.Core.Option.{some, some-injective, some-ne-none}
use lib.ListN.{get_elem?}
use Rattle.crossbeam_deque.specs.Tasks.{Pushes, Takes, Learns, Forks, Merges}
use Rattle.crossbeam_deque.proofs.Lists.{at_set, at_snoc}
use Rattle.steal_crew.specs.declared.deque.View.{View}
use Rattle.std.specs.List.{sum_by}
use Rattle.std.proofs.lemmas.List.Sums.{sum_by-append}
use Rattle.steal_crew.specs.Numbers.{IsPart}
use Rattle.steal_crew.specs.Rule.{taken_weight, total_parts, Knows, Lawful, first_view, spent_view, view_of, pushed, took, IsAllTaken, looked, one_less, one_part, joined}
use Rattle.steal_crew.proofs.NumberLaws.{weight-ones}
use Rattle.steal_crew.proofs.ViewLaws.{total-set, total-snoc, two_of_total, taken-set, taken-snoc, part_of_taken, all_in_one, AreSpentEmpty}

at_here : (views : List View) (id : ℕ) (v u : View) → get_elem? views id ≡ some v → get_elem? (set views id u) id ≡ some u
at_here [] id v u e = absurd (some-ne-none v (sym e))
at_here (x ∷ views) zero v u e = refl
at_here (x ∷ views) (suc id) v u e = at_here views id v u e

pub begins : Lawful [] (first_view ∷ [])
begins = record { each = only; total = refl }
  where
    only : (j : ℕ) (v : View) → get_elem? (first_view ∷ []) j ≡ some v → Knows [] (first_view ∷ []) v
    only zero v e = subst (Knows [] (first_view ∷ [])) (some-injective first_view v e) (record { live = λ h k. refl; spent = λ h. refl })
    only (suc j) v e = absurd (some-ne-none v (sym e))

abbrev more_dealt : View → List ℕ → View
more_dealt v xs = view_of v.parts (v.dealt ++ xs) v.taken

abbrev more_taken : View → List ℕ → View
more_taken v xs = view_of v.parts v.dealt (v.taken ++ xs)

abbrev after_fork : List View → ℕ → View → List View
after_fork views port v = set views port (one_less v) ++ one_part v ∷ []

abbrev after_merge : List View → ℕ → View → ℕ → View → List View
after_merge views port v other w = set (set views port (joined v w)) other spent_view

pub pushes : (port : ℕ) (v : View) (xs : List ℕ) → v.parts ≡ 1024 → Pushes Lawful port v xs (pushed v xs)
pushes port v xs all items views law at = (more_dealt v xs, record { each = each; total = total }, refl)
  where
    was : Knows items views v
    was = law.each port v at

    total : total_parts (set views port (more_dealt v xs)) ≡ 1024
    total = let a = total-set views port v (more_dealt v xs) at in let t = law.total in omega arith

    mine : Knows (items ++ xs) (set views port (more_dealt v xs)) (more_dealt v xs)
    mine = record {
      live = λ h k. let a = taken-set k views port v (more_dealt v xs) at in let b = was.live h k in let c = sum_by-append k items xs in let d = sum_by-append k v.dealt xs in omega arith;
      spent = was.spent;
    }

    each : (j : ℕ) (u : View) → get_elem? (set views port (more_dealt v xs)) j ≡ some u → Knows (items ++ xs) (set views port (more_dealt v xs)) u
    each j u e = ⊎_elim
        (λ (t : (j ≡ port) × (more_dealt v xs ≡ u)). subst (Knows (items ++ xs) (set views port (more_dealt v xs))) t.1 mine)
        (λ (t : (j ≢ port) × (get_elem? views j ≡ some u)).
        let two = two_of_total views port j v u at t.1 t.0 in let l = law.total in
        record { live = λ h k. absurd (omega arith); spent = (law.each j u t.1).spent })
        (at_set views port j (more_dealt v xs) u e)

pub takes : (port : ℕ) (v : View) → 1 ≤ v.parts → Takes Lawful port v 1 (took v)
takes port v live xs items views nonempty short law at = (more_taken v xs, record { each = each; total = total }, record { view = refl; within = within })
  where
    total : total_parts (set views port (more_taken v xs)) ≡ 1024
    total = let a = total-set views port v (more_taken v xs) at in let t = law.total in omega arith

    counted : (k : ℕ → ℕ) → sum_by k items + taken_weight k (set views port (more_taken v xs)) ≡ sum_by k (xs ++ items) + taken_weight k views
    counted k = let a = taken-set k views port v (more_taken v xs) at in let b = sum_by-append k xs items in let c = sum_by-append k v.taken xs in omega arith

    each : (j : ℕ) (u : View) → get_elem? (set views port (more_taken v xs)) j ≡ some u → Knows items (set views port (more_taken v xs)) u
    each j u e = ⊎_elim
        (λ (t : (j ≡ port) × (more_taken v xs ≡ u)). subst (Knows items (set views port (more_taken v xs))) t.1
        (record { live = λ h k. counted k ∙ (law.each port v at).live live k; spent = λ none. absurd (omega arith) }))
        (λ (t : (j ≢ port) × (get_elem? views j ≡ some u)).
        record { live = λ h k. counted k ∙ (law.each j u t.1).live h k; spent = (law.each j u t.1).spent })
        (at_set views port j (more_taken v xs) u e)

    within : IsPart (v.taken ++ xs) v.dealt
    within = record {
      weight = λ k. let a = part_of_taken k (set views port (more_taken v xs)) port (more_taken v xs) (at_here views port v (more_taken v xs) at) in
          let b = counted k in let c = (law.each port v at).live live k in omega arith;
    }

pub all_taken : (port : ℕ) (v : View) → 1 ≤ v.parts → (items : List ℕ) (views : List View) → Lawful items views → get_elem? views port ≡ some v → items ≡ [] → IsAllTaken v
all_taken port v live items views law at none all = record {
  weight = λ k.
      let spent : AreSpentEmpty views = λ j u there gone. (law.each j u there).spent gone in
      let a = all_in_one k views port v spent at (law.total ∙ sym all) in
      let b = (law.each port v at).live live k in
      let c : sum_by k items ≡ sum_by k [] = ap (sum_by k) none in omega arith;
}

not_none : (items : List ℕ) → items ≢ [] → 1 ≤ length items
not_none [] ne = absurd (ne refl)
not_none (x ∷ items) ne = omega arith

pub learns : (port : ℕ) (v : View) → 1 ≤ v.parts → Learns Lawful port v (looked v)
learns port v live items views law at = record {
  within = record { weight = λ k. let a = part_of_taken k views port v at in let b = (law.each port v at).live live k in omega arith };
  all = λ none. all_taken port v live items views law at none;
  some = λ more.
      let a = part_of_taken (λ (x : ℕ). 1) views port v at in
      let b = (law.each port v at).live live (λ (x : ℕ). 1) in
      let c = weight-ones items in let d = weight-ones v.taken in let e = weight-ones v.dealt in
      let f = not_none items more in omega arith;
}

pub forks : (port : ℕ) (v : View) → 1 < v.parts → Forks Lawful port v (one_less v) (one_part v)
forks port v more items views law at = record { each = each; total = total }
  where
    counted : (k : ℕ → ℕ) → taken_weight k (after_fork views port v) ≡ taken_weight k views
    counted k = let a = taken-snoc k (set views port (one_less v)) (one_part v) in let b = taken-set k views port v (one_less v) at in omega arith

    total : total_parts (after_fork views port v) ≡ 1024
    total = let a = total-snoc (set views port (one_less v)) (one_part v) in let b = total-set views port v (one_less v) at in let c = law.total in omega arith

    now : (k : ℕ → ℕ) → sum_by k items + taken_weight k (after_fork views port v) ≡ sum_by k v.dealt
    now k = let a = counted k in let b = (law.each port v at).live (omega arith) k in omega arith

    each : (j : ℕ) (u : View) → get_elem? (after_fork views port v) j ≡ some u → Knows items (after_fork views port v) u
    each j u e = ⊎_elim
        (λ (was : get_elem? (set views port (one_less v)) j ≡ some u). ⊎_elim
        (λ (t : (j ≡ port) × (one_less v ≡ u)). subst (Knows items (after_fork views port v)) t.1 (record { live = λ _. now; spent = λ none. absurd (omega arith) }))
        (λ (t : (j ≢ port) × (get_elem? views j ≡ some u)). let old = law.each j u t.1 in
        record { live = λ h k. (let a = counted k in let b = old.live h k in omega arith); spent = old.spent })
        (at_set views port j (one_less v) u was))
        (λ (is : one_part v ≡ u). subst (Knows items (after_fork views port v)) is (record { live = λ _. now; spent = λ _. refl }))
        (at_snoc (set views port (one_less v)) (one_part v) u j e)

pub merges : (port : ℕ) (v : View) (other : ℕ) (w : View) → 1 ≤ v.parts → 1 ≤ w.parts → Merges Lawful port v other w (joined v w) spent_view
merges port v other w live other_live items views law at apart there = record { each = each; total = total }
  where
    counted : (k : ℕ → ℕ) → taken_weight k (after_merge views port v other w) ≡ taken_weight k views
    counted k = let a = taken-set k views port v (joined v w) at in let b = taken-set k (set views port (joined v w)) other w spent_view there in let t = sum_by-append k v.taken w.taken in omega arith

    total : total_parts (after_merge views port v other w) ≡ 1024
    total = let a = total-set views port v (joined v w) at in let b = total-set (set views port (joined v w)) other w spent_view there in let c = law.total in omega arith

    now : (k : ℕ → ℕ) → sum_by k items + taken_weight k (after_merge views port v other w) ≡ sum_by k v.dealt
    now k = let a = counted k in let b = (law.each port v at).live live k in omega arith

    each : (j : ℕ) (u : View) → get_elem? (after_merge views port v other w) j ≡ some u → Knows items (after_merge views port v other w) u
    each j u e = ⊎_elim
        (λ (t : (j ≡ other) × (spent_view ≡ u)). subst (Knows items (after_merge views port v other w)) t.1 (record { live = λ h. absurd (omega arith); spent = λ _. refl }))
        (λ (t : (j ≢ other) × (get_elem? (set views port (joined v w)) j ≡ some u)). ⊎_elim
        (λ (q : (j ≡ port) × (joined v w ≡ u)). subst (Knows items (after_merge views port v other w)) q.1 (record { live = λ _. now; spent = λ none. absurd (omega arith) }))
        (λ (q : (j ≢ port) × (get_elem? views j ≡ some u)). let old = law.each j u q.1 in
        record { live = λ h k. (let a = counted k in let b = old.live h k in omega arith); spent = old.spent })
        (at_set views port j (joined v w) u t.1))
        (at_set (set views port (joined v w)) other j spent_view u e)
