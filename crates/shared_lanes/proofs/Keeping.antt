-- Lists of lanes in which one lane after another changes.
use Rattle.std.proofs.Common.{◌≡◌, ℕ, ◌+◌, ◌<◌, ◌≤◌, List, length, get_or, set, refl, sym, ap, subst, ◌∙◌, arith, inl, inr}
use Rattle.std.specs.List.{All}
use Rattle.std.proofs.Math.ListN.{length-set}
use Rattle.std.proofs.lemmas.List.{get_or-set_other, get_or_default}
use Rattle.std.proofs.lemmas.Grind.{get_or-set_at}
use Rattle.std.proofs.lemmas.Bool.{cases_eq}
use borrow.Author.Count.{below_more}
use Rattle.shared_lanes.specs.declared.lane.Lane.{Lane}
use Rattle.shared_lanes.specs.Lanes.{HasSeat, SameCaches}

module _ {S C : Type 0} where
  pub same_caches : (a : List (Lane S C)) → SameCaches a a
  same_caches a = record { length_is = refl; caches = λ i d h. refl }

  -- a lane is replaced by one that has the same of its own
  pub same_caches_set : (a b : List (Lane S C)) (i : ℕ) (r x : Lane S C) → SameCaches a b → i < length b → r ≡ get_or b i r → x.cache ≡ r.cache → SameCaches a (set b i x)
  same_caches_set a b i r x s h e c = record {
    length_is = length-set b i x ∙ s.length_is;
    caches = λ j d k. elim (cases_eq j i) [
      | inl q ↦ ap (λ (l : Lane S C). l.cache) (get_or-set_at b i j x d q h) ∙ c ∙ ap (λ (l : Lane S C). l.cache) (e ∙ get_or_default b i r d h ∙ ap (λ n. get_or b n d) (sym q)) ∙ s.caches j d k
      | inr ne ↦ ap (λ (l : Lane S C). l.cache) (get_or-set_other b i j x d ne) ∙ s.caches j d k
    ];
  }

  -- lanes that keep what they have of their own fit as before
  pub fit_kept : (fits : C → Type 0) (a b : List (Lane S C)) → SameCaches a b → All (λ l. fits l.cache) a → All (λ l. fits l.cache) b
  fit_kept fits a b s all i d h = let k : i < length a = omega (arith, s.length_is) in subst fits (sym (s.caches i d k)) (all i d k)

  -- one more lane has its seat
  pub seated_more : (fact : S → Type 0) (lanes : List (Lane S C)) (i : ℕ) (x : Lane S C) → i < length lanes →
      ((j : ℕ) (d : Lane S C) → j < i → HasSeat (get_or lanes j d).seat fact) → HasSeat x.seat fact →
      (j : ℕ) (d : Lane S C) → j < i + 1 → HasSeat (get_or (set lanes i x) j d).seat fact
  seated_more fact lanes i x h before here j d k =
      below_more (λ n. (e : Lane S C) → HasSeat (get_or (set lanes i x) n e).seat fact) i
      (λ n l e. subst (λ (z : Lane S C). HasSeat z.seat fact) (sym (get_or-set_other lanes i n x e (λ q. omega arith))) (before n e l))
      (λ e. subst (λ (z : Lane S C). HasSeat z.seat fact) (sym (get_or-set_at lanes i i x e refl h)) here)
      j k d

  -- the lanes after the changed one are as before
  pub rest_more : (lanes first : List (Lane S C)) (i : ℕ) (x : Lane S C) → ((j : ℕ) (d : Lane S C) → i ≤ j → get_or lanes j d ≡ get_or first j d) →
      (j : ℕ) (d : Lane S C) → i + 1 ≤ j → get_or (set lanes i x) j d ≡ get_or first j d
  rest_more lanes first i x before j d h = get_or-set_other lanes i j x d (λ q. omega arith) ∙ before j d (omega arith)
