-- How a front comes forward, and that it stays one.
use Rattle.std.proofs.Common.{◌≡◌, ℕ, suc, ℤ, pos, ◌+◌, ◌<◌, ◌≤◌, ◌≤ℤ◌, ◌<ℤ◌, List, [], ◌∷◌, length, get_or, take, drop, sym, ap, subst, ◌∙◌, inl, inr, arith}
use Rattle.std.specs.List.{All}
use Rattle.std.proofs.lemmas.Bool.{cases_lt}
use Rattle.std.proofs.lemmas.Int.{ints}
use Rattle.std.proofs.lemmas.List.{take_all, get_or_past, get_or_default}
use Rattle.std.proofs.lemmas.List.Elements.{All-nil, All-cons, All-weaker, All-more}
use Rattle.interval.specs.Boxes.{Bounds, low_of, high_of, IsInside, IsProper}
use Rattle.constraint_model.specs.declared.model.VarSel.{VarSel}
use Rattle.constraint_model.specs.declared.model.Phase.{Phase}
use Rattle.constraint_model.specs.declared.model.FznModel.{FznModel}
use Rattle.constraint_model.specs.Searches.{IsSearchOf}
use Rattle.branching.specs.declared.fronts.Front.{Front}
use Rattle.branching.specs.Selection.{IsFixed, IsUnfixed, rank_in, IsChosen}
use Rattle.branching.specs.Picks.{IsChoiceBy}
use Rattle.branching.specs.Tree.{AreFixed}
use Rattle.branching.specs.Fronts.{IsPhaseAt, IsFrontOf, IsFirstUnfixed, IsFarthestFront, FrontsStay}
use Rattle.branching.proofs.PickLaws.{Passed, split_at, never_both, choice_at, fixed_where_passed}

abbrev pub at : ℕ → ℕ → Front
at phases vars = record { phases = phases; vars = vars }

-- ---- boxes inside

squeezed : (l h x y : ℤ) → l ≤ℤ x → y ≤ℤ h → x ≤ℤ y → l ≡ h → x ≡ y
squeezed l h x y a b c e = omega (arith, ints)

pub fixed_inside : (b c : Bounds) → IsInside c b → IsProper c → (v : ℕ) → IsFixed b v → IsFixed c v
fixed_inside b c i proper v f = elim (cases_lt (suc v) (length b)) [
  | inl h ↦ squeezed (low_of b (suc v)) (high_of b (suc v)) (low_of c (suc v)) (high_of c (suc v)) (i.lows (suc v) h) (i.highs (suc v) h)
      (proper (suc v) (let n = i.same_length in omega arith)) f
  | inr h ↦ (let n = i.same_length in
      let past : get_or c (suc v) (pos 0, pos 0) ≡ (pos 0, pos 0) = get_or_past c (suc v) (pos 0, pos 0) (omega arith) in
      ap (λ (p : ℤ × ℤ). p.0) past ∙ sym (ap (λ (p : ℤ × ℤ). p.1) past))
]

pub fronts_stay : FrontsStay
fronts_stay model b c front h i proper = record {
  behind = All-weaker (λ p. All (IsFixed b) p.vars) (λ p. All (IsFixed c) p.vars)
      (λ p k. All-weaker (IsFixed b) (IsFixed c) (fixed_inside b c i proper) p.vars k) (take front.phases model.search) h.behind;
  begun = λ phase is. All-weaker (IsFixed b) (IsFixed c) (fixed_inside b c i proper) (take front.vars phase.vars) (h.begun phase is);
}

pub nothing_behind : (model : FznModel) (b : Bounds) → IsFrontOf model b (at 0 0)
nothing_behind model b = record {
  behind = All-nil (λ (p : Phase). All (IsFixed b) p.vars);
  begun = λ phase is. All-nil (IsFixed b);
}

-- ---- the variables of a phase

module _ (b : Bounds) (vars : List ℕ) (place : ℕ) (h : place < length vars) (v : ℕ) (e : v ≡ get_or vars place 0) where
  pub one_more_fixed : All (IsFixed b) (take place vars) → IsFixed b v → All (IsFixed b) (take (place + 1) vars)
  one_more_fixed all f = All-more (IsFixed b) vars place 0 h all (subst (IsFixed b) e f)

  pub first_is : All (IsFixed b) (take place vars) → IsUnfixed b v → IsFirstUnfixed b vars place
  first_is all u = record { one_of_them = h; fixed = all; unfixed = subst (IsUnfixed b) e u }

-- the first unfixed one is chosen where the order alone counts
pub first_chosen : (b : Bounds) (vars : List ℕ) (place : ℕ) → IsFirstUnfixed b vars place → IsChosen VarSel.InputOrder b vars (get_or vars place 0)
first_chosen b vars place first = record {
  before = take place vars;
  after = drop (place + 1) vars;
  stands = split_at vars place 0 first.one_of_them;
  unfixed = first.unfixed;
  earlier = All-weaker (IsFixed b) (λ w. IsUnfixed b w → rank_in VarSel.InputOrder b v <ℤ rank_in VarSel.InputOrder b w)
      (λ w f u. absurd (never_both b w f u)) (take place vars) first.fixed;
  later = All-always (λ w. IsUnfixed b w → rank_in VarSel.InputOrder b v ≤ℤ rank_in VarSel.InputOrder b w) (λ w u. omega (arith, ints)) (drop (place + 1) vars);
}
  where
    v : ℕ
    v = get_or vars place 0

    All-always : (P : ℕ → Type 0) → ((x : ℕ) → P x) → (xs : List ℕ) → All P xs
    All-always P h [] = All-nil P
    All-always P h (x ∷ xs) = All-cons P x xs (h x) (All-always P h xs)

-- ---- the phases

module _ (model : FznModel) (b : Bounds) (number from : ℕ) (front : IsFrontOf model b (at number from)) where
  module _ (phases : List Phase) (same : phases ≡ model.search) (h : number < length phases) (phase : Phase) (e : phase ≡ get_or phases number phase) where
    in_search : number < length model.search
    in_search = subst (λ (xs : List Phase). number < length xs) same h

    is_read : phase ≡ get_or model.search number phase
    is_read = e ∙ ap (λ (xs : List Phase). get_or xs number phase) same

    pub is_phase : IsPhaseAt model number phase
    is_phase = (in_search, sym is_read)

    pub begun_here : All (IsFixed b) (take from phase.vars)
    begun_here = front.begun phase is_phase

    pub declared_here : (count : ℕ) → IsSearchOf model → length model.vars < count → All (λ v. v + 1 < count) phase.vars
    declared_here count rule long =
        All-weaker (λ v. v < length model.vars) (λ v. v + 1 < count) (λ v l. omega arith) phase.vars
        (subst (λ (p : Phase). All (λ w. w < length model.vars) p.vars) (sym is_read) (rule.declared number phase in_search))

    pub passed_on : All (IsFixed b) phase.vars → IsFrontOf model b (at (number + 1) 0)
    passed_on all = record {
      behind = All-more (λ (p : Phase). All (IsFixed b) p.vars) model.search number phase in_search front.behind
          (subst (λ (p : Phase). All (IsFixed b) p.vars) is_read all);
      begun = λ p is. All-nil (IsFixed b);
    }

    pub farthest : (place : ℕ) → IsFirstUnfixed b phase.vars place → IsFarthestFront model b (at number place)
    farthest place first = record { behind = front.behind; phase = phase; is_next = is_phase; first = first }

    pub chosen_here : IsSearchOf model → (v : ℕ) → IsChosen phase.var_sel b phase.vars v → IsChoiceBy model b phase.val_sel v
    chosen_here rule v chosen = choice_at model b number phase v rule in_search is_read front.behind chosen

  pub all_behind : IsSearchOf model → length model.search ≤ number → AreFixed model b
  all_behind rule l = fixed_where_passed model b rule (subst (Passed b) (take_all number model.search l) front.behind)

-- the farthest front is a front
pub farthest_is_front : (model : FznModel) (b : Bounds) (front : Front) → IsFarthestFront model b front → IsFrontOf model b front
farthest_is_front model b front h = record {
  behind = h.behind;
  begun = λ p is. subst (λ (q : Phase). All (IsFixed b) (take front.vars q.vars)) (same p is) h.first.fixed;
}
  where
    same : (p : Phase) → IsPhaseAt model front.phases p → h.phase ≡ p
    same p is = sym h.is_next.1 ∙ get_or_default model.search front.phases h.phase p is.0 ∙ is.1
