-- What is picked as one more variable is looked at, and where every phase was passed over.
use Rattle.std.proofs.Common.{◌≡◌, ℕ, ℤ, ◌+◌, ◌<◌, ◌≤ℤ◌, ◌<ℤ◌, List, [], ◌∷◌, ◌++◌, length, get_or, take, drop, refl, sym, ap, subst, ◌∙◌, Option, Some, None, IfSome, arith}
use Rattle.std.specs.List.{All, range_with_len}
use Rattle.std.proofs.lemmas.Int.{ints}
use Rattle.std.proofs.lemmas.List.{take-append-drop, drop_more}
use Rattle.std.proofs.lemmas.List.Elements.{All-nil, All-head, All-tail, All-push, All-append, All-same, All-weaker, All-cons, All-get_or}
use Rattle.std.proofs.lemmas.List.FromFn.{length-range_with_len, get_or-range_with_len}
use Rattle.interval.specs.Boxes.{Bounds}
use Rattle.constraint_model.specs.declared.model.VarSel.{VarSel}
use Rattle.constraint_model.specs.declared.model.Phase.{Phase}
use Rattle.constraint_model.specs.declared.model.FznModel.{FznModel}
use Rattle.constraint_model.specs.Searches.{last_phase}
use Rattle.branching.specs.Selection.{IsFixed, IsUnfixed, rank_in, IsChosen, IsChoice, HasUnfixed}
use Rattle.constraint_model.specs.Searches.{IsSearchOf}
use Rattle.branching.specs.Picks.{IsPick, IsChoiceBy}

pub never_both : (b : Bounds) (v : ℕ) → IsFixed b v → IsUnfixed b v → ⊥
never_both b v f u = omega (arith, ints)

-- ---- lists

push_behind : {X : Type 0} (before after : List X) (x y : X) → (before ++ x ∷ after) ++ y ∷ [] ≡ before ++ x ∷ (after ++ y ∷ [])
push_behind [] after x y = refl
push_behind (z ∷ before) after x y = ap (λ zs. z ∷ zs) (push_behind before after x y)

pub all_mid : {X : Type 0} (P : X → Type 0) (before after : List X) (x : X) → All P (before ++ x ∷ after) → P x
all_mid P [] after x h = All-head P x after h
all_mid P (z ∷ before) after x h = all_mid P before after x (All-tail P z (before ++ x ∷ after) h)

pub split_at : {X : Type 0} (xs : List X) (i : ℕ) (d : X) → i < length xs → xs ≡ take i xs ++ get_or xs i d ∷ drop (i + 1) xs
split_at xs i d h = sym (take-append-drop i xs) ∙ ap (λ ys. take i xs ++ ys) (drop_more xs i d h)

-- ---- one more variable

module _ (s : VarSel) (b : Bounds) where
  pub pick_fixed : (vars : List ℕ) (best : Option ℕ) (v : ℕ) → IsFixed b v → IsPick s b vars best → IsPick s b (vars ++ v ∷ []) best
  pick_fixed vars None v f h = All-push (IsFixed b) vars v h f
  pick_fixed vars (Some w) v f h = record {
    before = h.before;
    after = h.after ++ v ∷ [];
    stands = ap (λ xs. xs ++ v ∷ []) h.stands ∙ push_behind h.before h.after w v;
    unfixed = h.unfixed;
    earlier = h.earlier;
    later = All-push (λ x. IsUnfixed b x → rank_in s b w ≤ℤ rank_in s b x) h.after v h.later (λ u. absurd (never_both b v f u));
  }

  pub pick_kept : (vars : List ℕ) (w v : ℕ) → rank_in s b w ≤ℤ rank_in s b v → IsChosen s b vars w → IsChosen s b (vars ++ v ∷ []) w
  pick_kept vars w v l h = record {
    before = h.before;
    after = h.after ++ v ∷ [];
    stands = ap (λ xs. xs ++ v ∷ []) h.stands ∙ push_behind h.before h.after w v;
    unfixed = h.unfixed;
    earlier = h.earlier;
    later = All-push (λ x. IsUnfixed b x → rank_in s b w ≤ℤ rank_in s b x) h.after v h.later (λ u. l);
  }

  pub pick_first : (vars : List ℕ) (v : ℕ) → IsUnfixed b v → All (IsFixed b) vars → IsChosen s b (vars ++ v ∷ []) v
  pick_first vars v u h = record {
    before = vars;
    after = [];
    stands = refl;
    unfixed = u;
    earlier = All-weaker (IsFixed b) (λ x. IsUnfixed b x → rank_in s b v <ℤ rank_in s b x) (λ x f g. absurd (never_both b x f g)) vars h;
    later = All-nil (λ x. IsUnfixed b x → rank_in s b v ≤ℤ rank_in s b x);
  }

  under : (p q r : ℤ) → p <ℤ q → q ≤ℤ r → p <ℤ r
  under p q r h k = omega (arith, ints)

  through : (p q r : ℤ) → p <ℤ q → q <ℤ r → p <ℤ r
  through p q r h k = omega (arith, ints)

  pub pick_better : (vars : List ℕ) (w v : ℕ) → IsUnfixed b v → rank_in s b v <ℤ rank_in s b w → IsChosen s b vars w → IsChosen s b (vars ++ v ∷ []) v
  pick_better vars w v u l h =
      let P : ℕ → Type 0 = λ x. IsUnfixed b x → rank_in s b v <ℤ rank_in s b x in
      record {
        before = vars;
        after = [];
        stands = refl;
        unfixed = u;
        earlier = All-same P vars (h.before ++ w ∷ h.after) h.stands (All-append P h.before (w ∷ h.after)
            (All-weaker (λ x. IsUnfixed b x → rank_in s b w <ℤ rank_in s b x) P (λ x k g. through (rank_in s b v) (rank_in s b w) (rank_in s b x) l (k g)) h.before h.earlier)
            (All-cons P w h.after (λ g. l)
            (All-weaker (λ x. IsUnfixed b x → rank_in s b w ≤ℤ rank_in s b x) P (λ x k g. under (rank_in s b v) (rank_in s b w) (rank_in s b x) l (k g)) h.after h.later)));
        later = All-nil (λ x. IsUnfixed b x → rank_in s b v ≤ℤ rank_in s b x);
      }

  -- the chosen variable is one of them
  pub chosen_is : (P : ℕ → Type 0) (vars : List ℕ) (v : ℕ) → IsChosen s b vars v → All P vars → P v
  chosen_is P vars v h all = all_mid P h.before h.after v (All-same P (h.before ++ v ∷ h.after) vars (sym h.stands) all)

  pub pick_is : (P : ℕ → Type 0) (vars : List ℕ) (best : Option ℕ) → IsPick s b vars best → All P vars → IfSome best P
  pick_is P vars None h all = tt
  pick_is P vars (Some v) h all = chosen_is P vars v h all

-- ---- the phases

abbrev pub Passed : Bounds → List Phase → Type 0
Passed b phases = All (λ p. All (IsFixed b) p.vars) phases

module _ (model : FznModel) (b : Bounds) where
  pub choice_at : (i : ℕ) (phase : Phase) (v : ℕ) → IsSearchOf model → i < length model.search → phase ≡ get_or model.search i phase →
      Passed b (take i model.search) → IsChosen phase.var_sel b phase.vars v → IsChoiceBy model b phase.val_sel v
  choice_at i phase v rule h e passed chosen = record {
    phase = phase;
    choice = record {
      before = take i model.search;
      after = drop (i + 1) model.search;
      stands = split_at model.search i phase h ∙ ap (λ p. take i model.search ++ p ∷ drop (i + 1) model.search) (sym e);
      passed = passed;
      chosen = chosen;
    };
    same = refl;
    declared = chosen_is phase.var_sel b (λ w. w < length model.vars) phase.vars v chosen
        (subst (λ p. All (λ w. w < length model.vars) p.vars) (sym e) (rule.declared i phase h));
  }

  -- the chosen variable is declared
  pub declared_choice : IsSearchOf model → (phase : Phase) (v : ℕ) → IsChoice model b phase v → v < length model.vars
  declared_choice rule phase v c =
      let P : Phase → Type 0 = λ p. All (λ w. w < length model.vars) p.vars in
      chosen_is phase.var_sel b (λ w. w < length model.vars) phase.vars v c.chosen
      (all_mid P c.before c.after phase (All-same P (c.before ++ phase ∷ c.after) model.search (sym c.stands) rule.declared))

  -- where every phase is passed over, each declared variable is fixed
  pub fixed_where_passed : IsSearchOf model → Passed b model.search → (v : ℕ) → v < length model.vars → IsFixed b v
  fixed_where_passed rule passed v h =
      let P : Phase → Type 0 = λ p. All (IsFixed b) p.vars in
      let n = length model.vars in
      let zero_more : 0 + v ≡ v = omega arith in
      let last = all_mid P rule.front [] (last_phase n) (All-same P (rule.front ++ last_phase n ∷ []) model.search (sym rule.last) passed) in
      let is = All-get_or (IsFixed b) (range_with_len 0 n) v 0 (let e = length-range_with_len 0 n in omega arith) last in
      subst (IsFixed b) (get_or-range_with_len 0 n v 0 h ∙ zero_more) is

  -- not every phase is passed over
  pub not_all_passed : IsSearchOf model → HasUnfixed model b → Passed b model.search → ⊥
  not_all_passed rule some passed = never_both b some.var (fixed_where_passed rule passed some.var some.declared) some.unfixed
