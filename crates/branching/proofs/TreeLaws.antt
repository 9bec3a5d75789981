-- Lists of solutions in the order of the search tree: a box has one and no more.
use Rattle.std.proofs.Common.{◌≡◌, ℕ, zero, suc, ℤ, ◌+◌, ◌<◌, ◌≤◌, ◌≤ℤ◌, ◌<ℤ◌, List, [], ◌∷◌, ◌++◌, length, get_or, take, refl, sym, ap, subst, ◌∙◌, ◌⊎◌, inl, inr, Option, Some, None, append-nil, arith}
use Rattle.std.specs.List.{All}
use Rattle.std.proofs.lemmas.Int.{ints, by_lt_z}
use Rattle.std.proofs.lemmas.List.{take_more, take_all}
use Rattle.std.proofs.lemmas.List.Elements.{All-nil, All-head, All-tail, All-push, All-weaker}
use Rattle.interval.specs.Boxes.{Bounds, low_of, high_of, IsInRange, IsProper, InsideOrder, width_sum_of}
use Rattle.interval.specs.Quotients.{QuotientOrder}
use Rattle.guarded_tell.specs.declared.kernel.Kernel.{Kernel}
use Rattle.guarded_tell.specs.Kernels.{IsKernel}
use Rattle.fixpoint_laws.specs.Changes.{TightensOne}
use Rattle.fixpoint_laws.specs.Fixpoints.{IsGreatest, OneFixpoint}
use Rattle.constraint_model.specs.declared.model.VarSel.{VarSel}
use Rattle.constraint_model.specs.declared.model.Phase.{Phase}
use Rattle.constraint_model.specs.declared.model.FznModel.{FznModel}
use Rattle.branching.specs.Selection.{IsFixed, IsUnfixed, rank_in, IsChosen, IsChoice}
use Rattle.constraint_model.specs.Searches.{IsSearchOf}
use Rattle.branching.specs.Parts.{left_of, right_of, IsBranch, AreParts}
use Rattle.branching.specs.Picks.{IsPick}
use Rattle.branching.specs.Tree.{AreFixed, values_of, SolutionsIn, failed, fixed, parted, EveryList, BranchLaws}
use Rattle.branching.proofs.PickLaws.{never_both, all_mid, chosen_is, pick_fixed, pick_kept, pick_first, pick_better, Passed, fixed_where_passed, declared_choice}
use Rattle.branching.proofs.PartLaws.{branch_parts}

-- ---- one branch

parts_of : {X : Type 0} (x y : X) (xs ys : List X) → x ∷ xs ≡ y ∷ ys → (x ≡ y) × (xs ≡ ys)
parts_of x y xs ys e = (cc, cc)

module _ (s : VarSel) (b : Bounds) where
  abbrev Earlier : ℕ → List ℕ → Type 0
  Earlier v xs = All (λ w. IsUnfixed b w → rank_in s b v <ℤ rank_in s b w) xs

  abbrev Later : ℕ → List ℕ → Type 0
  Later v xs = All (λ w. IsUnfixed b w → rank_in s b v ≤ℤ rank_in s b w) xs

  -- a variable can't stand before another that goes before it
  clash : (v w : ℕ) (xs ys : List ℕ) → IsUnfixed b v → IsUnfixed b w → Later v (xs ++ w ∷ ys) → Earlier w (v ∷ xs) → ⊥
  clash v w xs ys uv uw l e =
      let p = all_mid (λ x. IsUnfixed b x → rank_in s b v ≤ℤ rank_in s b x) xs ys w l uw in
      let q = All-head (λ x. IsUnfixed b x → rank_in s b w <ℤ rank_in s b x) v xs e uv in
      no_less (rank_in s b v) (rank_in s b w) p q
    where
      no_less : (m n : ℤ) → m ≤ℤ n → n <ℤ m → ⊥
      no_less m n p q = omega (arith, ints)

  same_variable : (xs ys zs ws : List ℕ) (v w : ℕ) → xs ++ v ∷ ys ≡ zs ++ w ∷ ws → IsUnfixed b v → IsUnfixed b w →
      Earlier v xs → Later v ys → Earlier w zs → Later w ws → v ≡ w
  same_variable [] ys [] ws v w e uv uw ev lv ew lw = (parts_of v w ys ws e).0
  same_variable [] ys (z ∷ zs) ws v w e uv uw ev lv ew lw =
      let q = parts_of v z ys (zs ++ w ∷ ws) e in
      absurd (clash v w zs ws uv uw (subst (Later v) q.1 lv) (subst (λ (x : ℕ). Earlier w (x ∷ zs)) (sym q.0) ew))
  same_variable (x ∷ xs) ys [] ws v w e uv uw ev lv ew lw =
      let q = parts_of x w (xs ++ v ∷ ys) ws e in
      absurd (clash w v xs ys uw uv (subst (Later w) (sym q.1) lw) (subst (λ (z : ℕ). Earlier v (z ∷ xs)) q.0 ev))
  same_variable (x ∷ xs) ys (z ∷ zs) ws v w e uv uw ev lv ew lw =
      same_variable xs ys zs ws v w (parts_of x z (xs ++ v ∷ ys) (zs ++ w ∷ ws) e).1 uv uw
      (All-tail (λ y. IsUnfixed b y → rank_in s b v <ℤ rank_in s b y) x xs ev) lv
      (All-tail (λ y. IsUnfixed b y → rank_in s b w <ℤ rank_in s b y) z zs ew) lw

  one_chosen : (vars : List ℕ) (v w : ℕ) → IsChosen s b vars v → IsChosen s b vars w → v ≡ w
  one_chosen vars v w h k =
      same_variable h.before h.after k.before k.after v w (sym h.stands ∙ k.stands) h.unfixed k.unfixed h.earlier h.later k.earlier k.later

  some_open : (vars : List ℕ) (v : ℕ) → IsChosen s b vars v → All (IsFixed b) vars → ⊥
  some_open vars v h all = never_both b v (chosen_is s b (IsFixed b) vars v h all) h.unfixed

module _ (b : Bounds) where
  abbrev IsOpen : Phase → Type 0
  IsOpen p = All (IsFixed b) p.vars → ⊥

  first_open : (p : Phase) (ps : List Phase) (q : Phase) → q ≡ p → IsOpen q → Passed b (p ∷ ps) → ⊥
  first_open p ps q e o passed = o (subst (λ (x : Phase). All (IsFixed b) x.vars) (sym e) (All-head (λ (x : Phase). All (IsFixed b) x.vars) p ps passed))

  same_phase : (xs ys zs ws : List Phase) (p q : Phase) → xs ++ p ∷ ys ≡ zs ++ q ∷ ws → Passed b xs → Passed b zs → IsOpen p → IsOpen q → p ≡ q
  same_phase [] ys [] ws p q e f g op oq = (parts_of p q ys ws e).0
  same_phase [] ys (z ∷ zs) ws p q e f g op oq = absurd (first_open z zs p (parts_of p z ys (zs ++ q ∷ ws) e).0 op g)
  same_phase (x ∷ xs) ys [] ws p q e f g op oq = absurd (first_open x xs q (sym (parts_of x q (xs ++ p ∷ ys) ws e).0) oq f)
  same_phase (x ∷ xs) ys (z ∷ zs) ws p q e f g op oq =
      same_phase xs ys zs ws p q (parts_of x z (xs ++ p ∷ ys) (zs ++ q ∷ ws) e).1
      (All-tail (λ (y : Phase). All (IsFixed b) y.vars) x xs f) (All-tail (λ (y : Phase). All (IsFixed b) y.vars) z zs g) op oq

module _ (model : FznModel) (b left right other another : Bounds) (h : IsBranch model b left right) (k : IsBranch model b other another) where
  one_phase : h.phase ≡ k.phase
  one_phase = same_phase b h.choice.before h.choice.after k.choice.before k.choice.after h.phase k.phase (sym h.choice.stands ∙ k.choice.stands)
      h.choice.passed k.choice.passed
      (some_open h.phase.var_sel b h.phase.vars h.var h.choice.chosen) (some_open k.phase.var_sel b k.phase.vars k.var k.choice.chosen)

  one_variable : h.var ≡ k.var
  one_variable = one_chosen h.phase.var_sel b h.phase.vars h.var k.var h.choice.chosen
      (subst (λ (p : Phase). IsChosen p.var_sel b p.vars k.var) (sym one_phase) k.choice.chosen)

  one_branch : (left ≡ other) × (right ≡ another)
  one_branch = (
    h.left_is ∙ ap (λ (p : Phase). left_of p.val_sel b (suc h.var)) one_phase ∙ ap (λ (v : ℕ). left_of k.phase.val_sel b (suc v)) one_variable ∙ sym k.left_is,
    h.right_is ∙ ap (λ (p : Phase). right_of p.val_sel b (suc h.var)) one_phase ∙ ap (λ (v : ℕ). right_of k.phase.val_sel b (suc v)) one_variable ∙ sym k.right_is,
  )

-- ---- one list

not_fixed : (model : FznModel) (g left right : Bounds) → IsSearchOf model → IsBranch model g left right → AreFixed model g → ⊥
not_fixed model g left right rule br all = never_both g br.var (all br.var (declared_choice model g rule br.phase br.var br.choice)) br.choice.chosen.unfixed

module _ (one : OneFixpoint) (model : FznModel) (kernels : List Kernel) (rule : IsSearchOf model) where
  pub one_list : (b c : Bounds) (found others : List (List ℤ)) → b ≡ c → SolutionsIn model kernels b found → SolutionsIn model kernels c others → found ≡ others
  one_list b c found others same (failed _ _ _ _ fails none) (failed _ _ _ _ _ nothing) = none ∙ sym nothing
  one_list b c found others same (failed _ _ _ _ fails none) (fixed _ _ _ g _ gr _ _) = absurd (one.not_both b kernels g (subst (λ (x : Bounds). IsGreatest g x kernels) (sym same) gr) fails)
  one_list b c found others same (failed _ _ _ _ fails none) (parted _ _ _ g _ _ _ _ _ gr _ _ _ _) = absurd (one.not_both b kernels g (subst (λ (x : Bounds). IsGreatest g x kernels) (sym same) gr) fails)
  one_list b c found others same (fixed _ _ _ g _ gr _ _) (failed _ _ _ _ fails none) = absurd (one.not_both c kernels g (subst (λ (x : Bounds). IsGreatest g x kernels) same gr) fails)
  one_list b c found others same (fixed _ _ _ g _ gr _ e) (fixed _ _ _ h _ hr _ f) =
      e ∙ ap (λ (x : Bounds). values_of model x ∷ []) (one.unique c kernels g h (subst (λ (x : Bounds). IsGreatest g x kernels) same gr) hr) ∙ sym f
  one_list b c found others same (fixed _ _ _ g _ gr all _) (parted _ _ _ h l r _ _ _ hr br _ _ _) =
      absurd (not_fixed model h l r rule br (subst (AreFixed model) (one.unique c kernels g h (subst (λ (x : Bounds). IsGreatest g x kernels) same gr) hr) all))
  one_list b c found others same (parted _ _ _ g _ _ _ _ _ gr _ _ _ _) (failed _ _ _ _ fails none) = absurd (one.not_both c kernels g (subst (λ (x : Bounds). IsGreatest g x kernels) same gr) fails)
  one_list b c found others same (parted _ _ _ g l r _ _ _ gr br _ _ _) (fixed _ _ _ h _ hr all _) =
      absurd (not_fixed model g l r rule br (subst (AreFixed model) (sym (one.unique c kernels g h (subst (λ (x : Bounds). IsGreatest g x kernels) same gr) hr)) all))
  one_list b c found others same (parted _ _ _ g l r first second _ gr br lefts rights e) (parted _ _ _ h m s third fourth _ hr cr others_left others_right f) =
      let g_is = one.unique c kernels g h (subst (λ (x : Bounds). IsGreatest g x kernels) same gr) hr in
      let sides = one_branch model h l r m s (subst (λ (x : Bounds). IsBranch model x l r) g_is br) cr in
      e ∙ ap (λ (xs : List (List ℤ)). xs ++ second) (one_list l m first third sides.0 lefts others_left)
      ∙ ap (λ (xs : List (List ℤ)). third ++ xs) (one_list r s second fourth sides.1 rights others_right) ∙ sym f

-- ---- every box has its branch, or fixes the declared variables

module _ (b : Bounds) (proper : IsProper b) where
  step : (s : VarSel) (vars : List ℕ) (best : Option ℕ) (v : ℕ) → suc v < length b → IsPick s b vars best → (o : Option ℕ) × IsPick s b (vars ++ v ∷ []) o
  step s vars best v h k = by_lt_z (low_of b (suc v)) (high_of b (suc v)) (λ u. taken best u k) (λ l. (best, pick_fixed s b vars best v (let p = proper (suc v) h in omega (arith, ints)) k))
    where
      taken : (o : Option ℕ) → IsUnfixed b v → IsPick s b vars o → (p : Option ℕ) × IsPick s b (vars ++ v ∷ []) p
      taken None u q = (Some v, pick_first s b vars v u q)
      taken (Some w) u q = by_lt_z (rank_in s b v) (rank_in s b w) (λ l. (Some v, pick_better s b vars w v u l q)) (λ l. (Some w, pick_kept s b vars w v l q))

  picks : (s : VarSel) (vars : List ℕ) → All (λ v. suc v < length b) vars → (n : ℕ) → n ≤ length vars → (o : Option ℕ) × IsPick s b (take n vars) o
  picks s vars h zero l = (None, All-nil (IsFixed b))
  picks s vars h (suc n) l =
      let before = picks s vars h n (omega arith) in
      let next = step s (take n vars) before.0 (get_or vars n 0) (h n 0 (omega arith)) before.1 in
      (next.0, subst (λ (xs : List ℕ). IsPick s b xs next.0) (sym (more vars n (omega arith))) next.1)
    where
      more : (xs : List ℕ) (i : ℕ) → i < length xs → take (suc i) xs ≡ take i xs ++ get_or xs i 0 ∷ []
      more xs i k = let e : suc i ≡ i + 1 = omega arith in ap (λ (m : ℕ). take m xs) e ∙ take_more xs i 0 k

  pick_of : (s : VarSel) (vars : List ℕ) → All (λ v. suc v < length b) vars → (o : Option ℕ) × IsPick s b vars o
  pick_of s vars h =
      let all = picks s vars h (length vars) (omega arith) in
      (all.0, subst (λ (xs : List ℕ). IsPick s b xs all.0) (take_all (length vars) vars (omega arith)) all.1)

  module _ (model : FznModel) (rule : IsSearchOf model) (long : length model.vars < length b) where
    HasChoice : Type 0
    HasChoice = (phase : Phase) × ((v : ℕ) × IsChoice model b phase v)

    vars_fit : (p : Phase) → All (λ v. v < length model.vars) p.vars → All (λ v. suc v < length b) p.vars
    vars_fit p h = All-weaker (λ v. v < length model.vars) (λ v. suc v < length b) (λ v l. omega arith) p.vars h

    walk : (before rest : List Phase) → model.search ≡ before ++ rest → Passed b before → HasChoice ⊎ Passed b model.search
    unfolding HasChoice
    walk before [] e passed = inr (subst (Passed b) (sym (e ∙ append-nil before)) passed)
    walk before (p ∷ rest) e passed = elim (cases (pick_of p.var_sel p.vars (vars_fit p fit))) [
      | inl some ↦ inl (p, (some.0, record { before = before; after = rest; stands = e; passed = passed; chosen = some.1 }))
      | inr none ↦ walk (before ++ p ∷ []) rest (e ∙ shift before rest p) (All-push (λ (q : Phase). All (IsFixed b) q.vars) before p passed none)
    ]
      where
        fit : All (λ v. v < length model.vars) p.vars
        fit = all_mid (λ (q : Phase). All (λ v. v < length model.vars) q.vars) before rest p
            (subst (λ (ps : List Phase). All (λ (q : Phase). All (λ v. v < length model.vars) q.vars) ps) e rule.declared)

        cases : ((o : Option ℕ) × IsPick p.var_sel b p.vars o) → ((v : ℕ) × IsChosen p.var_sel b p.vars v) ⊎ All (IsFixed b) p.vars
        cases (None, h) = inr h
        cases (Some v, h) = inl (v, h)

        shift : (xs ys : List Phase) (y : Phase) → xs ++ y ∷ ys ≡ (xs ++ y ∷ []) ++ ys
        shift [] ys y = refl
        shift (x ∷ xs) ys y = ap (λ (zs : List Phase). x ∷ zs) (shift xs ys y)

    pub branch_or_fixed : ((left : Bounds) × ((right : Bounds) × IsBranch model b left right)) ⊎ AreFixed model b
    unfolding HasChoice
    branch_or_fixed = elim (walk [] model.search refl (All-nil (λ (q : Phase). All (IsFixed b) q.vars))) [
      | inl c ↦ inl (left_of c.0.val_sel b (suc c.1.0), (right_of c.0.val_sel b (suc c.1.0), record { phase = c.0; var = c.1.0; choice = c.1.1; left_is = refl; right_is = refl }))
      | inr passed ↦ inr (fixed_where_passed model b rule passed)
    ]

-- ---- every list

module _ (order : InsideOrder) (tight : TightensOne) (quotient : QuotientOrder) (model : FznModel) (rule : IsSearchOf model) where
  -- the two boxes of a branch are parts of a box that is long enough
  pub parts_fit : (g left right : Bounds) → length model.vars < length g → IsInRange g → IsProper g → IsBranch model g left right → AreParts g left right
  parts_fit g left right long range proper br =
      branch_parts order tight quotient model g left right range proper br (let d = declared_choice model g rule br.phase br.var br.choice in omega arith)

  module _ (one : OneFixpoint) (kernels : List Kernel) where
    both : (b g left right : Bounds) → IsGreatest g b kernels → IsBranch model g left right → ((xs : List (List ℤ)) × SolutionsIn model kernels left xs) →
        ((ys : List (List ℤ)) × SolutionsIn model kernels right ys) → (found : List (List ℤ)) × SolutionsIn model kernels b found
    both b g left right gr br (xs, l) (ys, r) = (xs ++ ys, parted model kernels b g left right xs ys (xs ++ ys) gr br l r refl)

    find : (n : ℕ) (b : Bounds) → width_sum_of b < n → length model.vars < length b → IsInRange b → All (IsKernel (length b)) kernels →
        (found : List (List ℤ)) × SolutionsIn model kernels b found
    find zero b w long range fit = absurd (omega arith)
    find (suc n) b w long range fit = elim (one.exists b kernels range fit) [
      | inr fails ↦ ([], failed model kernels b [] fails refl)
      | inl some ↦
          let g = some.0 in
          let gr = some.1 in
          let proper = gr.closed.proper in
          let long_g : length model.vars < length g = let e = gr.inside.same_length in omega arith in
          let range_g = order.in_range g b proper range gr.inside in
          let wide : width_sum_of g ≤ width_sum_of b = order.not_wider g b proper gr.inside in
          elim (branch_or_fixed g proper model rule long_g) [
            | inr all ↦ (values_of model g ∷ [], fixed model kernels b g (values_of model g ∷ []) gr all (refl {a = values_of model g ∷ []}))
            | inl c ↦
                let parts = parts_fit g c.0 c.1.0 long_g range_g proper c.1.1 in
                let one_length : length c.0 ≡ length b = parts.first_part.inside.same_length ∙ gr.inside.same_length in
                let two_length : length c.1.0 ≡ length b = parts.second_part.inside.same_length ∙ gr.inside.same_length in
                let first = find n c.0 (let l = parts.first_part.narrower in omega arith) (omega arith) parts.first_part.in_range (subst (λ (k : ℕ). All (IsKernel k) kernels) (sym one_length) fit) in
                let second = find n c.1.0 (let l = parts.second_part.narrower in omega arith) (omega arith) parts.second_part.in_range (subst (λ (k : ℕ). All (IsKernel k) kernels) (sym two_length) fit) in
                both b g c.0 c.1.0 gr c.1.1 first second
          ]
    ]

pub every_list : InsideOrder → TightensOne → QuotientOrder → OneFixpoint → EveryList
every_list order tight quotient one model kernels b rule long range fit =
    find order tight quotient model rule one kernels (suc (width_sum_of b)) b (omega arith) long range fit

pub branch_laws : InsideOrder → TightensOne → QuotientOrder → BranchLaws
branch_laws order tight quotient = record {
  some = λ model b rule long proper. branch_or_fixed b proper model rule long;
  not_both = not_fixed;
  one = one_branch;
  parts = λ model b left right rule long range proper br. parts_fit order tight quotient model rule b left right long range proper br;
}
