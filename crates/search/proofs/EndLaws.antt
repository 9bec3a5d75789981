-- With no cost posted a search stops in one state.
use Rattle.std.proofs.Common.{◌≡◌, ◌≢◌, ℕ, ℤ, ◌+◌, ◌<◌, ◌⊎◌, inl, inr, List, [], ◌∷◌, ◌++◌, length, Option, refl, sym, ap, subst, ◌∙◌, arith, length-append}
use Rattle.std.specs.List.{Contains}
use Rattle.std.proofs.lemmas.Bool.{cases_lt, cases_eq}
use Rattle.interval.specs.Boxes.{Bounds}
use Rattle.fixpoint_laws.specs.Fixpoints.{IsGreatest, OneFixpoint}
use Rattle.constraint_model.specs.Searches.{IsSearchOf}
use Rattle.branching.specs.Parts.{IsBranch}
use Rattle.branching.specs.Tree.{AreFixed, values_of, BranchLaws}
use Rattle.moved_fixpoint.specs.Sweeps.{SpendsSweeps}
use Rattle.search.specs.Machine.{Search, State, Node, is_dropped, is_solved, is_parted, MayFall, cut_by, best_after, Step, GoesOn, Reached, begun, stepped, IsDone, IsOutOfNodes, IsOutOfRounds}
use Rattle.search.specs.Laws.{AreRoundsPinned, IsStopped, EndLaws}
use Rattle.search.proofs.StackLaws.{some_left}

parts_of : {X : Type 0} (x y : X) (xs ys : List X) → x ∷ xs ≡ y ∷ ys → (x ≡ y) × (xs ≡ ys)
parts_of x y xs ys e = (cc, cc)

last_same : {X : Type 0} (xs ys : List X) (x y : X) → xs ++ x ∷ [] ≡ ys ++ y ∷ [] → (xs ≡ ys) × (x ≡ y)
last_same [] [] x y e = (refl, (parts_of x y [] [] e).0)
last_same [] (z ∷ ys) x y e = absurd (omega (arith, ap length e, length-append ys (y ∷ [])))
last_same (z ∷ xs) [] x y e = absurd (omega (arith, ap length e, length-append xs (x ∷ [])))
last_same {X = X} (z ∷ xs) (w ∷ ys) x y e =
    let p = parts_of z w (xs ++ x ∷ []) (ys ++ y ∷ []) e in
    let q = last_same xs ys x y p.1 in
    (ap (λ (us : List X). z ∷ us) q.0 ∙ ap (λ (u : X). u ∷ ys) p.0, q.1)

same_state : (s t : State) → s.stack ≡ t.stack → s.best ≡ t.best → s.count ≡ t.count → s.found ≡ t.found → s ≡ t
same_state s t e b f g = λ i. record { stack = e i; best = b i; count = f i; found = g i }

none_falls : (posted : List ℤ) (best after : Option ℤ) → posted ≡ [] → MayFall posted best after → after ≡ best
none_falls posted best after e (inl h) = h
none_falls posted best after e (inr f) = absurd (nothing_in f.0 (subst (λ (xs : List ℤ). Contains xs f.0) e f.1.0))
  where
    nothing_in : (x : ℤ) → Contains [] x → ⊥
    nothing_in x (i, l, k) = omega arith

module _ (one : OneFixpoint) (branches : BranchLaws) (s : Search) (rule : IsSearchOf s.model) where
  greatest_same : (top other g h : Bounds) → top ≡ other → IsGreatest g top s.kernels → IsGreatest h other s.kernels → g ≡ h
  greatest_same top other g h e gr hr = one.unique other s.kernels g h (subst (λ (b : Bounds). IsGreatest g b s.kernels) e gr) hr

  one_node : (top other : Bounds) (back again : List Bounds) (recorded others : List (List ℤ)) → top ≡ other → Node s.model s.kernels s.round_limit top back recorded →
      Node s.model s.kernels s.round_limit other again others → (back ≡ again) × (recorded ≡ others)
  one_node top other back again recorded others e (is_dropped _ _ _ _ _ _ fails none nothing) (is_dropped _ _ _ _ _ _ _ no_box no_list) = (none ∙ sym no_box, nothing ∙ sym no_list)
  one_node top other back again recorded others e (is_dropped _ _ _ _ _ _ fails _ _) (is_solved _ _ _ _ _ _ h hr _ _ _ _) =
      absurd (one.not_both top s.kernels h (subst (λ (b : Bounds). IsGreatest h b s.kernels) (sym e) hr) fails)
  one_node top other back again recorded others e (is_dropped _ _ _ _ _ _ fails _ _) (is_parted _ _ _ _ _ _ h _ _ hr _ _ _ _) =
      absurd (one.not_both top s.kernels h (subst (λ (b : Bounds). IsGreatest h b s.kernels) (sym e) hr) fails)
  one_node top other back again recorded others e (is_solved _ _ _ _ _ _ g gr _ _ _ _) (is_dropped _ _ _ _ _ _ fails _ _) =
      absurd (one.not_both other s.kernels g (subst (λ (b : Bounds). IsGreatest g b s.kernels) e gr) fails)
  one_node top other back again recorded others e (is_solved _ _ _ _ _ _ g gr _ _ none alone) (is_solved _ _ _ _ _ _ h hr _ _ no_box single) =
      (none ∙ sym no_box, alone ∙ ap (λ (b : Bounds). values_of s.model b ∷ []) (greatest_same top other g h e gr hr) ∙ sym single)
  one_node top other back again recorded others e (is_solved _ _ _ _ _ _ g gr _ all _ _) (is_parted _ _ _ _ _ _ h left right hr _ br _ _) =
      absurd (branches.not_both s.model h left right rule br (subst (AreFixed s.model) (greatest_same top other g h e gr hr) all))
  one_node top other back again recorded others e (is_parted _ _ _ _ _ _ g _ _ gr _ _ _ _) (is_dropped _ _ _ _ _ _ fails _ _) =
      absurd (one.not_both other s.kernels g (subst (λ (b : Bounds). IsGreatest g b s.kernels) e gr) fails)
  one_node top other back again recorded others e (is_parted _ _ _ _ _ _ g left right gr _ br _ _) (is_solved _ _ _ _ _ _ h hr _ all _ _) =
      absurd (branches.not_both s.model g left right rule br (subst (AreFixed s.model) (sym (greatest_same top other g h e gr hr)) all))
  one_node top other back again recorded others e (is_parted _ _ _ _ _ _ g left right gr _ br two nothing) (is_parted _ _ _ _ _ _ h first second hr _ cr both no_list) =
      let sides = branches.one s.model h left right first second (subst (λ (b : Bounds). IsBranch s.model b left right) (greatest_same top other g h e gr hr) br) cr in
      (two ∙ ap (λ (b : Bounds). b ∷ left ∷ []) sides.1 ∙ ap (λ (b : Bounds). second ∷ b ∷ []) sides.0 ∙ sym both, nothing ∙ sym no_list)

  module _ (none : s.posted ≡ []) where
    one_step : (u t after next : State) → u ≡ t → Step s u after → Step s t next → after ≡ next
    one_step u t after next e h k =
        let p = last_same h.rest k.rest h.top k.top (sym h.takes.taken ∙ ap (λ (v : State). v.stack) e ∙ k.takes.taken) in
        let b : h.best ≡ k.best = none_falls s.posted u.best h.best none h.takes.falls ∙ ap (λ (v : State). v.best) e ∙ sym (none_falls s.posted t.best k.best none k.takes.falls) in
        let seen : cut_by s.kind s.model.goal h.best h.top ≡ cut_by s.kind s.model.goal k.best k.top =
        ap (λ (o : Option ℤ). cut_by s.kind s.model.goal o h.top) b ∙ ap (λ (x : Bounds). cut_by s.kind s.model.goal k.best x) p.1 in
        let n = one_node (cut_by s.kind s.model.goal h.best h.top) (cut_by s.kind s.model.goal k.best k.top) h.back k.back h.recorded k.recorded seen h.node k.node in
        same_state after next
        (h.stack ∙ ap (λ (bs : List Bounds). bs ++ h.back) p.0 ∙ ap (λ (bs : List Bounds). k.rest ++ bs) n.0 ∙ sym k.stack)
        (h.falls ∙ ap (λ (o : Option ℤ). best_after s.kind s.model.goal o h.recorded) b ∙ ap (λ (xs : List (List ℤ)). best_after s.kind s.model.goal k.best xs) n.1 ∙ sym k.falls)
        (h.count ∙ ap (λ (v : State). v.count + 1) e ∙ sym k.count)
        (h.found ∙ ap (λ (v : State). v.found ++ h.recorded) e ∙ ap (λ (xs : List (List ℤ)). t.found ++ xs) n.1 ∙ sym k.found)

    -- after as many nodes there is one state
    same_at : (u t : State) → u.count ≡ t.count → Reached s u → Reached s t → u ≡ t
    same_at u t e (begun _ _ stack falls count found) (begun _ _ boxes low _ lists) =
        same_state u t (stack ∙ sym boxes) (falls ∙ sym low) e (found ∙ sym lists)
    same_at u t e (begun _ _ _ _ count _) (stepped _ before _ r on st) = absurd (omega (arith, e, count, st.count))
    same_at u t e (stepped _ before _ r on st) (begun _ _ _ _ count _) = absurd (omega (arith, e, count, st.count))
    same_at u t e (stepped _ before _ r _ h) (stepped _ former _ q _ k) =
        one_step before former u t (same_at before former (omega (arith, e, h.count, k.count)) r q) h k

    abbrev Ends : State → Type 0
    Ends t = IsDone s t ⊎ IsOutOfNodes s t

    -- before a state there is one that goes on, by a node, for each lesser count
    record Earlier (n : ℕ) : Type 0 where
      state : State
      after : State
      reached : Reached s state
      count : state.count ≡ n
      goes_on : GoesOn s state
      step : Step s state after

    earlier : (t : State) → Reached s t → (n : ℕ) → n < t.count → Earlier n
    earlier t (begun _ _ _ _ count _) n l = absurd (omega (arith, count, l))
    earlier t (stepped _ before _ r on st) n l = elim (cases_eq n before.count) [
      | inl e ↦ record { state = before; after = t; reached = r; count = sym e; goes_on = on; step = st }
      | inr d ↦ earlier before r n (omega (arith, l, st.count, d))
    ]

    goes_on : (r : State) → GoesOn s r → r.stack ≢ [] → Ends r → ⊥
    goes_on r on k (inl (inl e)) = k e
    goes_on r on k (inl (inr (f, some))) = some (on.sought f)
    goes_on r on k (inr out) = elim on.below [ inl e ↦ out.limited e | inr l ↦ absurd (omega (arith, l, out.full)) ]

    no_later : (u t : State) → Reached s u → Reached s t → Ends u → u.count < t.count → ⊥
    no_later u t r q h l =
        let e = earlier t q u.count l in
        goes_on e.state e.goes_on (some_left e.state.stack e.step.rest e.step.top e.step.takes.taken) (subst Ends (same_at u e.state (sym e.count) r e.reached) h)

    one_ended : (u t : State) → Reached s u → Reached s t → Ends u → Ends t → u ≡ t
    one_ended u t r q h k = elim (cases_eq u.count t.count) [
      | inl e ↦ same_at u t e r q
      | inr d ↦ elim (cases_lt u.count t.count) [
        | inl l ↦ absurd (no_later u t r q h l)
        | inr l ↦ absurd (no_later t u q r k (omega (arith, l, d)))
      ]
    ]

    -- ---- the limit on rounds

    pinned_by_one : AreRoundsPinned s → (t : State) → IsOutOfRounds s t → s.lanes ≡ 1
    pinned_by_one (inl one) t out = one
    pinned_by_one (inr free) t out = absurd (out.given_up.limited free)

    -- where one lane gives a node up it never has that node
    no_step : s.lanes ≡ 1 → (u after t : State) → Step s u after → (out : IsOutOfRounds s t) → u ≡ out.before → ⊥
    no_step one u after t h out e =
        let p = last_same h.rest out.rest h.top out.top (sym h.takes.taken ∙ ap (λ (v : State). v.stack) e ∙ out.takes.taken) in
        let b : h.best ≡ t.best = none_falls s.posted u.best h.best none h.takes.falls ∙ ap (λ (v : State). v.best) e ∙ sym (none_falls s.posted out.before.best t.best none out.takes.falls) in
        let seen : cut_by s.kind s.model.goal h.best h.top ≡ cut_by s.kind s.model.goal t.best out.top =
        ap (λ (o : Option ℤ). cut_by s.kind s.model.goal o h.top) b ∙ ap (λ (x : Bounds). cut_by s.kind s.model.goal t.best x) p.1 in
        h.unspent one (subst (SpendsSweeps s.kernels s.round_limit) (sym seen) (out.spent one))

    -- nor does a search come to it that ends otherwise, or is given up later
    given_up_earlier : s.lanes ≡ 1 → (u t : State) → Reached s u → (out : IsOutOfRounds s t) → out.before.count < u.count → ⊥
    given_up_earlier one u t r out l =
        let e = earlier u r out.before.count l in
        no_step one e.state e.after t e.step out (same_at e.state out.before e.count e.reached out.reached)

    not_ended : s.lanes ≡ 1 → (u t : State) → Reached s u → Ends u → IsOutOfRounds s t → ⊥
    not_ended one u t r h out = elim (cases_eq u.count out.before.count) [
      | inl e ↦ goes_on out.before out.goes_on (some_left out.before.stack out.rest out.top out.takes.taken) (subst Ends (same_at u out.before e r out.reached) h)
      | inr d ↦ elim (cases_lt u.count out.before.count) [
        | inl l ↦ no_later u out.before r out.reached h l
        | inr l ↦ given_up_earlier one u t r out (omega (arith, l, d))
      ]
    ]

    given_up_once : s.lanes ≡ 1 → (u t : State) (h : IsOutOfRounds s u) (k : IsOutOfRounds s t) → h.before ≡ k.before → u ≡ t
    given_up_once one u t h k e = same_state u t
        (h.stack ∙ ap (λ (v : State). v.stack) e ∙ sym k.stack)
        (none_falls s.posted h.before.best u.best none h.takes.falls ∙ ap (λ (v : State). v.best) e ∙ sym (none_falls s.posted k.before.best t.best none k.takes.falls))
        (h.count ∙ ap (λ (v : State). v.count + 1) e ∙ sym k.count)
        (h.found ∙ ap (λ (v : State). v.found) e ∙ sym k.found)

    one_given_up : s.lanes ≡ 1 → (u t : State) → IsOutOfRounds s u → IsOutOfRounds s t → u ≡ t
    one_given_up one u t h k = elim (cases_eq h.before.count k.before.count) [
      | inl e ↦ given_up_once one u t h k (same_at h.before k.before e h.reached k.reached)
      | inr d ↦ elim (cases_lt h.before.count k.before.count) [
        | inl l ↦ absurd (given_up_earlier one k.before u k.reached h l)
        | inr l ↦ absurd (given_up_earlier one h.before t h.reached k (omega (arith, l, d)))
      ]
    ]

    pub one_end : (u t : State) → IsStopped s u → IsStopped s t → u ≡ t
    one_end u t (inl (r, h)) (inl (q, k)) = one_ended u t r q h k
    one_end u t (inl (r, h)) (inr (pinned, out)) = absurd (not_ended (pinned_by_one pinned t out) u t r h out)
    one_end u t (inr (pinned, out)) (inl (q, k)) = absurd (not_ended (pinned_by_one pinned u out) t u q k out)
    one_end u t (inr (pinned, h)) (inr (_, k)) = one_given_up (pinned_by_one pinned u h) u t h k

    pub not_given_up : AreRoundsPinned s → (u t : State) → Reached s u → Ends u → IsOutOfRounds s t → ⊥
    not_given_up pinned u t r h out = not_ended (pinned_by_one pinned t out) u t r h out

not_both : (s : Search) (t : State) → IsDone s t → IsOutOfNodes s t → ⊥
not_both s t (inl e) h = h.left e
not_both s t (inr (f, k)) h = k (h.sought f)

pub end_laws : OneFixpoint → BranchLaws → EndLaws
end_laws one branches = record {
  one_end = λ s u t rule none h k. one_end one branches s rule none u t h k;
  not_both = not_both;
  not_given_up = λ s u t rule none pinned r h out. not_given_up one branches s rule none pinned u t r h out;
}
