-- Which lists of ends have an open part.
use Rattle.std.proofs.Common.{◌≡◌, inl, inr, ℕ, zero, suc, ◌+◌, ◌<◌, ◌≤◌, Bool, true, false, List, [], ◌∷◌, length, take, get_or, All, None, Some, refl, sym, ap, subst, ◌∙◌, arith}
use Rattle.std.proofs.lemmas.Bool.{cases_lt}
use Rattle.std.proofs.lemmas.List.{get_or-take, length-take}
use Rattle.std.specs.Bool.{OnTrue, OnFalse}
use Rattle.std.proofs.lemmas.Option.{slice_get_within, get_or_from_slice_get, slice_get-get_or}
use Rattle.search.specs.declared.ends.Why.{Why}
use Rattle.search.specs.declared.ends.FirstEnd.{FirstEnd}
use Rattle.answer.specs.Lists.{Assignment}
use Rattle.answer.specs.Places.{StandsAt}
use Rattle.answer.specs.Results.{first_collected, IsFirstSpent, IsIdle, IsOpenAt, IsOpen}
use Rattle.answer.proofs.AlongLaws.{one_entry}

-- ---- front by front

pub open_here : (nodes : ℕ) (why : Why) (ends : List FirstEnd) → IsOpen (FirstEnd.Spent nodes why ∷ ends)
open_here nodes why ends = (0, record { nodes = nodes; why = why; stopped = refl; none_before = λ j a below h. absurd (omega arith) })

module _ (end : FirstEnd) (ends : List FirstEnd) where
  no_solution : first_collected end ≡ [] → (a : Assignment) → StandsAt (end ∷ ends) 0 (FirstEnd.Done (Some a)) → ⊥
  no_solution empty a h =
      let same : end ≡ FirstEnd.Done (Some a) = cc in
      let bad : a ∷ [] ≡ [] = subst (λ (e : FirstEnd). first_collected e ≡ []) same empty in
      absurd cc

  none_at : (number : ℕ) → first_collected end ≡ [] → IsOpenAt ends number → (lesser : ℕ) (a : Assignment) → lesser < suc number → StandsAt (end ∷ ends) lesser (FirstEnd.Done (Some a)) → ⊥
  none_at number empty h zero a below there = no_solution empty a there
  none_at number empty h (suc j) a below there = h.none_before j a (omega arith) there

  pub open_later : first_collected end ≡ [] → IsOpen ends → IsOpen (end ∷ ends)
  open_later empty h = (suc h.0, record { nodes = h.1.nodes; why = h.1.why; stopped = h.1.stopped; none_before = none_at h.0 empty h.1 })

  open_rest : (number : ℕ) → IsOpenAt (end ∷ ends) (suc number) → IsOpenAt ends number
  open_rest number h = record { nodes = h.nodes; why = h.why; stopped = h.stopped; none_before = λ j a below there. h.none_before (suc j) a (omega arith) there }

-- where the first end is the same, and what is behind it is open where the other is, so is the whole
pub open_with : (end : FirstEnd) (ends others : List FirstEnd) → (first_collected end ≡ [] → IsOpen ends → IsOpen others) → IsOpen (end ∷ ends) → IsOpen (end ∷ others)
open_with (FirstEnd.Done (Some a)) ends others rest (zero, h) = absurd (let bad = h.stopped in cc)
open_with (FirstEnd.Done (Some a)) ends others rest (suc k, h) = absurd (h.none_before 0 a (omega arith) refl)
open_with (FirstEnd.Done None) ends others rest (zero, h) = absurd (let bad = h.stopped in cc)
open_with (FirstEnd.Done None) ends others rest (suc k, h) = open_later (FirstEnd.Done None) others refl (rest refl (k, open_rest (FirstEnd.Done None) ends k h))
open_with (FirstEnd.Spent nodes why) ends others rest h = open_here nodes why others
open_with (FirstEnd.Cut lesser) ends others rest (zero, h) = absurd (let bad = h.stopped in cc)
open_with (FirstEnd.Cut lesser) ends others rest (suc k, h) = open_later (FirstEnd.Cut lesser) others refl (rest refl (k, open_rest (FirstEnd.Cut lesser) ends k h))

-- ---- end by end

module _ (ends : List FirstEnd) (count : ℕ) (idle : All IsIdle (take count ends)) where
  idle_at : (place : ℕ) (end : FirstEnd) → place < count → StandsAt ends place end → IsIdle end
  idle_at place end below there =
      let within = slice_get_within ends place end there in
      let same = get_or-take count ends place end below in
      subst IsIdle (same ∙ get_or_from_slice_get ends place end end there) (idle place end (let n = length-take count ends in omega (arith, n, within, below)))

  pub stopped_open : (nodes : ℕ) (why : Why) → StandsAt ends count (FirstEnd.Spent nodes why) → IsOpen ends
  stopped_open nodes why there = (count, record { nodes = nodes; why = why; stopped = there; none_before = λ j a below h. idle_at j (FirstEnd.Done (Some a)) below h })

  pub solved_closed : (a : Assignment) → StandsAt ends count (FirstEnd.Done (Some a)) → IsOpen ends → ⊥
  solved_closed a there (number, h) = elim (cases_lt number count) [
    | inl below ↦ idle_at number (FirstEnd.Spent h.nodes h.why) below h.stopped
    | inr above ↦ elim (cases_lt count number) [
      | inl behind ↦ h.none_before count a behind there
      | inr up_to ↦
          let same : number ≡ count = omega arith in
          let e = one_entry ends count (FirstEnd.Done (Some a)) (FirstEnd.Spent h.nodes h.why) there (subst (λ (n : ℕ). StandsAt ends n (FirstEnd.Spent h.nodes h.why)) same h.stopped) in
          let bad : FirstEnd.Done (Some a) ≡ FirstEnd.Spent h.nodes h.why = e in cc
    ]
  ]

  pub idle_closed : length ends ≤ count → IsOpen ends → ⊥
  idle_closed all (number, h) =
      idle_at number (FirstEnd.Spent h.nodes h.why) (let l = slice_get_within ends number (FirstEnd.Spent h.nodes h.why) h.stopped in omega (arith, l, all)) h.stopped

  -- where the next end isn't idle, it decides
  pub open_by : (end : FirstEnd) → StandsAt ends count end → (stopped : Bool) → OnTrue stopped (IsFirstSpent end) → OnTrue stopped (IsOpen ends)
  open_by end there false h = tt
  open_by (FirstEnd.Done answer) there true h = absurd h
  open_by (FirstEnd.Spent nodes why) there true h = stopped_open nodes why there
  open_by (FirstEnd.Cut lesser) there true h = absurd h

  pub closed_by : (end : FirstEnd) → StandsAt ends count end → (IsIdle end → ⊥) → (stopped : Bool) → OnFalse stopped (IsFirstSpent end → ⊥) → OnFalse stopped (IsOpen ends → ⊥)
  closed_by end there busy true h = tt
  closed_by (FirstEnd.Done None) there busy false h = absurd (busy tt)
  closed_by (FirstEnd.Done (Some a)) there busy false h = solved_closed a there
  closed_by (FirstEnd.Spent nodes why) there busy false h = absurd (h tt)
  closed_by (FirstEnd.Cut lesser) there busy false h = absurd (busy tt)

-- what stands at a place of a slice
pub item_stands : (ends : List FirstEnd) (place : ℕ) (end : FirstEnd) → place < length ends → end ≡ get_or ends place end → StandsAt ends place end
item_stands ends place end below e = slice_get-get_or ends place end below ∙ ap (λ (x : FirstEnd). Some x) (sym e)

-- an idle end more
pub idle_more : (ends : List FirstEnd) (count : ℕ) (end : FirstEnd) → All IsIdle (take count ends) → StandsAt ends count end → IsIdle end → All IsIdle (take (count + 1) ends)
idle_more ends count end idle there own = λ k d l. each k d l
  where
    each : (k : ℕ) (d : FirstEnd) → k < length (take (count + 1) ends) → IsIdle (get_or (take (count + 1) ends) k d)
    each k d l =
        let n = length-take (count + 1) ends in
        let below : k < count + 1 = omega (arith, n, l) in
        let within : k < length ends = omega (arith, n, l) in
        let stands = slice_get-get_or ends k d within in
        subst IsIdle (sym (get_or-take (count + 1) ends k d below)) (elim (cases_lt k count) [
          | inl less ↦ idle_at ends count idle k (get_or ends k d) less stands
          | inr up_to ↦
              let same : k ≡ count = omega arith in
              subst IsIdle (one_entry ends count end (get_or ends k d) there (subst (λ (i : ℕ). StandsAt ends i (get_or ends k d)) same stands)) own
        ])
