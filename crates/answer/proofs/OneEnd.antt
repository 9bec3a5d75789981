-- A search in which no cost is posted has one end, also by the limit on rounds, where one lane propagates or there is none.
use Rattle.std.proofs.Common.{◌≡◌, ℕ, List, [], refl, sym, ap, subst, ◌∙◌, inl, inr}
use Rattle.constraint_model.specs.Searches.{IsSearchOf}
use Rattle.search.specs.declared.ends.Why.{Why}
use Rattle.search.specs.declared.ends.LeastEnd.{LeastEnd}
use Rattle.search.specs.Machine.{Search, State, IsDone}
use Rattle.search.specs.Ends.{told_count, EndsDone, EndsSpent}
use Rattle.search.specs.Laws.{AreRoundsPinned, EndLaws}
use Rattle.search.specs.LeastEnds.{last_of, EndsLeast}
use Rattle.answer.specs.Lists.{Assignment}
use Rattle.answer.specs.Results.{LeastResult}

module _ (ends : EndLaws) (s : Search) (rule : IsSearchOf s.model) (posted : s.posted ≡ []) (pinned : AreRoundsPinned s) where
  pub one_done : (found others : List Assignment) → EndsDone s found → EndsDone s others → found ≡ others
  one_done found others h k =
      h.is_found ∙ ap (λ (state : State). state.found) (ends.one_end s h.state k.state rule posted (inl (h.reached, inl h.done)) (inl (k.reached, inl k.done))) ∙ sym k.is_found

  pub not_spent : (found others : List Assignment) (why : Why) (nodes : ℕ) → EndsDone s found → EndsSpent s why nodes others → ⊥
  not_spent found others Why.Nodes nodes h k =
      ends.not_both s k.state (subst (IsDone s) (ends.one_end s h.state k.state rule posted (inl (h.reached, inl h.done)) (inl (k.reached, inr k.out))) h.done) k.out
  not_spent found others Why.Rounds nodes h k = ends.not_given_up s h.state k.state rule posted pinned h.reached (inl h.done) k.out

  pub one_spent : (why other : Why) (nodes count : ℕ) (found others : List Assignment) → EndsSpent s why nodes found → EndsSpent s other count others → (why ≡ other) × (nodes ≡ count) × (found ≡ others)
  one_spent Why.Nodes Why.Nodes nodes count found others h k =
      let same = ends.one_end s h.state k.state rule posted (inl (h.reached, inr h.out)) (inl (k.reached, inr k.out)) in
      (refl, h.is_count ∙ ap (λ (state : State). told_count state.count) same ∙ sym k.is_count, h.is_found ∙ ap (λ (state : State). state.found) same ∙ sym k.is_found)
  one_spent Why.Rounds Why.Rounds nodes count found others h k =
      let same = ends.one_end s h.state k.state rule posted (inr (pinned, h.out)) (inr (pinned, k.out)) in
      (refl, h.is_count ∙ ap (λ (state : State). told_count state.count) same ∙ sym k.is_count, h.is_found ∙ ap (λ (state : State). state.found) same ∙ sym k.is_found)
  one_spent Why.Nodes Why.Rounds nodes count found others h k = absurd (ends.not_given_up s h.state k.state rule posted pinned h.reached (inr h.out) k.out)
  one_spent Why.Rounds Why.Nodes nodes count found others h k = absurd (ends.not_given_up s k.state h.state rule posted pinned k.reached (inr k.out) h.out)

  -- so has one for the least cost, with what it recorded
  pub one_least : (found others : List Assignment) (end other : LeastEnd) → EndsLeast s found end → EndsLeast s others other → ◌≡◌ {A = LeastResult} (found, end) (others, other)
  one_least found others (LeastEnd.Done answer) (LeastEnd.Done given) h k =
      let same = one_done found others h.0 k.0 in
      let answers = h.1 ∙ ap last_of same ∙ sym k.1 in
      λ i. (same i, LeastEnd.Done (answers i))
  one_least found others (LeastEnd.Done answer) (LeastEnd.Spent nodes why so_far) h k = absurd (not_spent found others why nodes h.0 k.0)
  one_least found others (LeastEnd.Spent nodes why so_far) (LeastEnd.Done answer) h k = absurd (not_spent others found why nodes k.0 h.0)
  one_least found others (LeastEnd.Spent nodes why so_far) (LeastEnd.Spent count other given) h k =
      let same = one_spent why other nodes count found others h.0 k.0 in
      let answers = h.1 ∙ ap last_of same.2 ∙ sym k.1 in
      λ i. (same.2 i, LeastEnd.Spent (same.1 i) (same.0 i) (answers i))
