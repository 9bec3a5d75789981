-- What a search has found so far and what its stack still holds are together the solutions of its box.
use Rattle.std.proofs.Common.{◌≡◌, ◌≢◌, ℕ, ℤ, ◌+◌, ◌<◌, ◌⊎◌, inl, inr, Bool, true, false, List, [], ◌∷◌, ◌++◌, length, Option, Some, None, refl, sym, ap, subst, ◌∙◌, arith, append-nil, length-append}
use Rattle.std.specs.List.{All}
use Rattle.std.specs.Bool.{OnTrue, OnFalse}
use Rattle.std.specs.Prelude.{MatchOption, option_to_list, ◌-◌, take}
use Rattle.std.proofs.lemmas.List.{append_assoc}
use Rattle.std.proofs.lemmas.List.Elements.{All-head, All-tail}
use Rattle.interval.specs.Boxes.{Bounds, IsInRange, InsideOrder}
use Rattle.guarded_tell.specs.declared.kernel.Kernel.{Kernel}
use Rattle.guarded_tell.specs.Kernels.{IsKernel}
use Rattle.constraint_model.specs.declared.model.Goal.{Goal}
use Rattle.constraint_model.specs.declared.model.FznModel.{FznModel}
use Rattle.constraint_model.specs.Searches.{IsSearchOf}
use Rattle.branching.specs.Tree.{values_of, SolutionsIn, failed, fixed, parted, BranchLaws, EveryList}
use Rattle.search.specs.declared.kind.Kind.{Kind}
use Rattle.search.specs.Machine.{Search, State, Node, is_dropped, is_solved, is_parted, cut_by, Reached, begun, stepped, IsDone}
use Rattle.search.specs.declared.ends.Why.{Why}
use Rattle.search.specs.declared.closing.Closing.{Closing}
use Rattle.search.specs.Closings.{IsClosing}
use Rattle.search.specs.Ends.{head_of, EndsDone, EndsSpent, IsFirstDone, IsAllDone}
use Rattle.search.specs.Laws.{SolutionsOn, PrefixLaws}
use Rattle.search.proofs.StackLaws.{Lies, reached_lies}

pub of_true : (b : Bool) (P : Type 0) → b ≡ true → OnTrue b P → P
of_true b P e h = subst (λ (t : Bool). OnTrue t P) e h

pub of_false : (b : Bool) (P : Type 0) → b ≡ false → OnFalse b P → P
of_false b P e h = subst (λ (t : Bool). OnFalse t P) e h

module _ (model : FznModel) (kernels : List Kernel) where
  abbrev pub Lists : List Bounds → List (List ℤ) → Type 0
  Lists bs found = SolutionsOn model kernels bs found

  none_left : (bs : List Bounds) (xs : List (List ℤ)) → bs ≡ [] → Lists bs xs → xs ≡ []
  none_left bs xs e h = subst (λ (cs : List Bounds). Lists cs xs) e h

  -- those of two stacks, one upon the other
  joined : (rest back : List Bounds) (xs ys : List (List ℤ)) → Lists back xs → Lists rest ys → Lists (rest ++ back) (xs ++ ys)
  joined [] back xs ys h k = subst (Lists back) (sym (ap (λ (zs : List (List ℤ)). xs ++ zs) k ∙ append-nil xs)) h
  joined (b ∷ rest) back xs ys h (us, (vs, (k, (s, e)))) =
      (xs ++ us, (vs, (joined rest back xs us h k, (s, ap (λ (zs : List (List ℤ)). xs ++ zs) e ∙ sym (append_assoc xs us vs)))))

  abbrev Split : List Bounds → List Bounds → List (List ℤ) → Type 0
  Split rest back zs = (xs : List (List ℤ)) × ((ys : List (List ℤ)) × (Lists back xs × (Lists rest ys × (zs ≡ xs ++ ys))))

  split : (rest back : List Bounds) (zs : List (List ℤ)) → Lists (rest ++ back) zs → Split rest back zs
  split [] back zs h = (zs, ([], (h, (refl, sym (append-nil zs)))))
  split (b ∷ rest) back zs (us, (vs, (k, (s, e)))) = behind (split rest back us k)
    where
      behind : Split rest back us → Split (b ∷ rest) back zs
      behind (xs, (ys, (h, (l, f)))) =
          (xs, (ys ++ vs, (h, ((ys, (vs, (l, (s, refl)))), e ∙ ap (λ (ws : List (List ℤ)). ws ++ vs) f ∙ append_assoc xs ys vs))))

  -- what a node records, and the solutions in what it puts back, are those of its box
  of_node : (round_limit : ℕ) (top : Bounds) (back : List Bounds) (recorded xs : List (List ℤ)) → Node model kernels round_limit top back recorded → Lists back xs → SolutionsIn model kernels top (recorded ++ xs)
  of_node round_limit top back recorded xs (is_dropped _ _ _ _ _ _ fails none nothing) h =
      failed model kernels top (recorded ++ xs) fails (ap (λ (ys : List (List ℤ)). ys ++ xs) nothing ∙ none_left back xs none h)
  of_node round_limit top back recorded xs (is_solved _ _ _ _ _ _ g gr _ all none one) h =
      fixed model kernels top g (recorded ++ xs) gr all
      (ap (λ (ys : List (List ℤ)). recorded ++ ys) (none_left back xs none h) ∙ append-nil recorded ∙ one)
  of_node round_limit top back recorded xs (is_parted _ _ _ _ _ _ g left right gr _ br two nothing) h = both (subst (λ (cs : List Bounds). Lists cs xs) two h)
    where
      both : Lists (right ∷ left ∷ []) xs → SolutionsIn model kernels top (recorded ++ xs)
      both (us, (rs, ((ns, (ls, (n, (l, f)))), (r, e)))) =
          parted model kernels top g left right ls rs (recorded ++ xs) gr br l r
          (ap (λ (ys : List (List ℤ)). ys ++ xs) nothing ∙ e ∙ ap (λ (ys : List (List ℤ)). ys ++ rs) (f ∙ ap (λ (ys : List (List ℤ)). ys ++ ls) n))

-- no other search than that for the least cost cuts a box
pub no_cut : (k : Kind) (goal : Goal) (best : Option ℤ) (b : Bounds) → k ≢ Kind.Least → cut_by k goal best b ≡ b
no_cut Kind.First goal best b h = refl
no_cut Kind.All goal best b h = refl
no_cut Kind.Least goal best b h = absurd (h refl)

module _ (s : Search) where
  abbrev Sols : List (List ℤ) → Type 0
  Sols xs = SolutionsIn s.model s.kernels s.sub xs

  abbrev On : List Bounds → List (List ℤ) → Type 0
  On bs xs = SolutionsOn s.model s.kernels bs xs

  pub of_reached : s.kind ≢ Kind.Least → (state : State) → Reached s state → (zs : List (List ℤ)) → On state.stack zs → Sols (state.found ++ zs)
  of_reached other state (begun _ _ e _ _ nothing) zs h = alone (subst (λ (cs : List Bounds). On cs zs) e h)
    where
      alone : On (s.sub ∷ []) zs → Sols (state.found ++ zs)
      alone (xs, (ys, (n, (l, f)))) =
          subst Sols (sym (ap (λ (us : List (List ℤ)). us ++ zs) nothing ∙ f ∙ ap (λ (us : List (List ℤ)). us ++ ys) n)) l
  of_reached other state (stepped _ before _ r on st) zs h =
      back (of_reached other before r) (split s.model s.kernels st.rest st.back zs (subst (λ (cs : List Bounds). On cs zs) st.stack h))
    where
      node : Node s.model s.kernels s.round_limit st.top st.back st.recorded
      node = subst (λ (b : Bounds). Node s.model s.kernels s.round_limit b st.back st.recorded) (no_cut s.kind s.model.goal st.best st.top other) st.node

      back : ((us : List (List ℤ)) → On before.stack us → Sols (before.found ++ us)) → Split s.model s.kernels st.rest st.back zs → Sols (state.found ++ zs)
      back known (xs, (ys, (k, (l, f)))) =
          let one : On (st.top ∷ []) (st.recorded ++ xs) = ([], (st.recorded ++ xs, (refl, (of_node s.model s.kernels s.round_limit st.top st.back st.recorded xs node k, refl)))) in
          let all = joined s.model s.kernels st.rest (st.top ∷ []) (st.recorded ++ xs) ys one l in
          let whole = known ((st.recorded ++ xs) ++ ys) (subst (λ (cs : List Bounds). On cs ((st.recorded ++ xs) ++ ys)) (sym st.takes.taken) all) in
          subst Sols (sym (ap (λ (us : List (List ℤ)). us ++ zs) st.found ∙ ap (λ (us : List (List ℤ)). (before.found ++ st.recorded) ++ us) f
          ∙ append_assoc before.found st.recorded (xs ++ ys) ∙ ap (λ (us : List (List ℤ)). before.found ++ us) (sym (append_assoc st.recorded xs ys)))) whole

  -- the boxes of a stack have their lists
  module _ (order : InsideOrder) (branches : BranchLaws) (every : EveryList) (rule : IsSearchOf s.model) (long : length s.model.vars < length s.sub) (range : IsInRange s.sub)
      (can_run : All (IsKernel (length s.sub)) s.kernels) where
    abbrev Here : Bounds → Type 0
    Here b = Lies order branches s rule long range b

    lists_of : (bs : List Bounds) → All Here bs → (zs : List (List ℤ)) × On bs zs
    lists_of [] h = ([], refl)
    lists_of (b ∷ bs) h =
        let f = All-head Here b bs h in
        let own = every s.model s.kernels b rule (let e = f.inside.same_length in omega arith) f.in_range (subst (λ (m : ℕ). All (IsKernel m) s.kernels) (sym f.inside.same_length) can_run) in
        let others = lists_of bs (All-tail Here b bs h) in
        (others.0 ++ own.0, (others.0, (own.0, (others.1, (own.1, refl)))))

    pub rest_of : (state : State) → Reached s state → (zs : List (List ℤ)) × On state.stack zs
    rest_of state r = lists_of state.stack (reached_lies order branches s rule long range state r)

  -- a search for all solutions has all where it ends
  pub all_done : s.kind ≡ Kind.All → (found : List (List ℤ)) → EndsDone s found → IsAllDone s found
  all_done all found h = record {
    ends = h;
    listed = subst Sols (append-nil h.state.found ∙ sym h.is_found)
        (of_reached (λ e. let f : Kind.All ≡ Kind.Least = sym all ∙ e in cc) h.state h.reached [] (subst (λ (cs : List Bounds). On cs []) (sym (empty h.done)) refl));
  }
    where
      empty : IsDone s h.state → h.state.stack ≡ []
      empty (inl e) = e
      empty (inr (e, k)) = absurd (let f : Kind.All ≡ Kind.First = sym all ∙ e in cc)

  -- a search for the first solution has one at most
  one_at_most : s.kind ≡ Kind.First → (state : State) → Reached s state → (state.found ≡ []) ⊎ ((x : List ℤ) × (state.found ≡ x ∷ []))
  one_at_most first state (begun _ _ _ _ _ nothing) = inl nothing
  one_at_most first state (stepped _ before _ r on st) =
      recorded st.back (cut_by s.kind s.model.goal st.best st.top) st.recorded st.node (st.found ∙ ap (λ (us : List (List ℤ)). us ++ st.recorded) (on.sought first))
    where
      recorded : (back : List Bounds) (b : Bounds) (xs : List (List ℤ)) → Node s.model s.kernels s.round_limit b back xs → state.found ≡ xs → (state.found ≡ []) ⊎ ((x : List ℤ) × (state.found ≡ x ∷ []))
      recorded back b xs (is_dropped _ _ _ _ _ _ fails none nothing) e = inl (e ∙ nothing)
      recorded back b xs (is_solved _ _ _ _ _ _ g gr _ all none one) e = inr (values_of s.model g, e ∙ one)
      recorded back b xs (is_parted _ _ _ _ _ _ g left right gr _ br two nothing) e = inl (e ∙ nothing)

head_is : (found zs : List (List ℤ)) → found ≢ [] → head_of found ≡ head_of (found ++ zs)
head_is [] zs k = absurd (k refl)
head_is (x ∷ found) zs k = refl

-- what is taken from the end of a list of one at most is its head
last_is_head : (found rest : List (List ℤ)) (x : List ℤ) → (found ≡ []) ⊎ ((y : List ℤ) × (found ≡ y ∷ [])) → found ≡ rest ++ x ∷ [] → Some x ≡ head_of found
last_is_head found [] x h e = sym (ap head_of e)
last_is_head found (y ∷ rest) x (inl none) e = absurd (omega (arith, ap length none, ap length e))
last_is_head found (y ∷ rest) x (inr (z, one)) e = absurd (omega (arith, ap length one, ap length e, length-append rest (x ∷ [])))

-- what a list of one at most gives up is its head
pub popped_is_head : (found rest items : List (List ℤ)) (o : Option (List ℤ)) (m j : ℕ) → (found ≡ []) ⊎ ((y : List ℤ) × (found ≡ y ∷ [])) → items ≡ found →
    items ≡ rest ++ option_to_list o → rest ≡ take (m - 1) items → MatchOption o ((m ≡ 0) × (j ≡ 0)) (λ _. j + 1 ≡ m) → o ≡ head_of found
popped_is_head found rest items (Some x) m j h i e t k = last_is_head found rest x h (sym i ∙ e)
popped_is_head found rest items None m j h i e t k = sym (ap head_of (sym i ∙ e ∙ append-nil rest ∙ t ∙ ap (λ (l : ℕ). take (l - 1) items) k.0))

-- a search for the first solution has the head of all where it ends
module _ (order : InsideOrder) (branches : BranchLaws) (every : EveryList) (s : Search) (first : s.kind ≡ Kind.First) (rule : IsSearchOf s.model)
    (long : length s.model.vars < length s.sub) (range : IsInRange s.sub) (can_run : All (IsKernel (length s.sub)) s.kernels) (found : List (List ℤ)) (h : EndsDone s found) where
  left : (zs : List (List ℤ)) × SolutionsOn s.model s.kernels h.state.stack zs
  left = rest_of s order branches every rule long range can_run h.state h.reached

  same_head : (zs : List (List ℤ)) → SolutionsOn s.model s.kernels h.state.stack zs → IsDone s h.state → head_of h.state.found ≡ head_of (h.state.found ++ zs)
  same_head zs l (inl e) =
      sym (ap (λ (xs : List (List ℤ)). head_of (h.state.found ++ xs)) (none_left s.model s.kernels h.state.stack zs e l) ∙ ap head_of (append-nil h.state.found))
  same_head zs l (inr (e, k)) = head_is h.state.found zs k

  pub at_most : (found ≡ []) ⊎ ((x : List ℤ) × (found ≡ x ∷ []))
  at_most = elim (one_at_most s first h.state h.reached) [
    | inl e ↦ inl (h.is_found ∙ e)
    | inr p ↦ inr (p.0, h.is_found ∙ p.1)
  ]

  pub first_done : (answer : Option (List ℤ)) → answer ≡ head_of found → IsFirstDone s answer
  first_done answer e = record {
    found = found;
    ends = h;
    recorded = e;
    solutions = h.state.found ++ left.0;
    listed = of_reached s (λ l. let f : Kind.First ≡ Kind.Least = sym first ∙ l in cc) h.state h.reached left.0 left.1;
    is_head = e ∙ ap head_of h.is_found ∙ same_head left.0 left.1 h.done;
  }

-- ---- how a search closes

module _ (s : Search) (closing : Closing) where
  abbrev Closes : Option Why → Type 0
  Closes stopped = MatchOption stopped (EndsDone s closing.found) (λ why. EndsSpent s why closing.nodes closing.found)

  pub done_of : closing.stopped ≡ None → IsClosing s closing → EndsDone s closing.found
  done_of e h = subst Closes e h

  pub spent_of : (why : Why) → closing.stopped ≡ Some why → IsClosing s closing → EndsSpent s why closing.nodes closing.found
  spent_of why e h = subst Closes e h

-- a search for the first solution that a limit has stopped has none
pub first_spent : (s : Search) → s.kind ≡ Kind.First → (why : Why) (nodes : ℕ) (found : List (List ℤ)) → EndsSpent s why nodes found → EndsSpent s why nodes []
first_spent s first Why.Nodes nodes found h =
    record { state = h.state; reached = h.reached; out = h.out; is_count = h.is_count; is_found = sym (h.out.sought first) }
first_spent s first Why.Rounds nodes found h =
    record { state = h.state; out = h.out; is_count = h.is_count; is_found = sym (h.out.found ∙ h.out.goes_on.sought first) }

pub prefix_laws : InsideOrder → BranchLaws → EveryList → PrefixLaws
prefix_laws order branches every = record {
  all = λ s state rest other r h. of_reached s other state r rest h;
  some = λ s state rule long range can_run r. rest_of s order branches every rule long range can_run state r;
}
