-- What a search records are solutions; and what a search for the least cost keeps of them.
use Rattle.std.proofs.Common.{◌≡◌, zero, suc, ℤ, pos, ◌-ℤ◌, ◌<◌, ◌≤ℤ◌, ◌<ℤ◌, List, [], ◌∷◌, ◌++◌, length, get_or, refl, sym, ap, subst, ◌∙◌, ◌⊎◌, inl, inr, Option, Some, None, arith, neg_ℤ}
use Rattle.std.specs.List.{All, AllPairs, Any, Contains}
use Rattle.std.proofs.lemmas.Int.{ints, by_lt_z}
use Rattle.std.proofs.lemmas.List.Elements.{All-nil, All-cons, All-append, All-weaker, All-contains, Contains-append_cases, Contains-get_or}
use Rattle.std.proofs.lemmas.List.Kept.{AllPairs-cons}
use Rattle.interval.specs.Boxes.{Bounds, low_of, high_of, IsInside, IsPoint, IsProper, InsideOrder}
use Rattle.guarded_tell.specs.declared.kernel.Kernel.{Kernel}
use Rattle.fixpoint_laws.specs.Fixpoints.{IsGreatest}
use Rattle.constraint_model.specs.declared.model.Goal.{Goal}
use Rattle.constraint_model.specs.declared.model.VarDecl.{VarDecl}
use Rattle.constraint_model.specs.Relations.{cost_of, value, IsWithin}
use Rattle.branching.specs.Tree.{AreFixed, values_of, IsSolutionIn, BranchLaws}
use Rattle.solution_lists.specs.Solutions.{LiesIn, SolvesInside, FixedIsPoint, PointSolves}
use Rattle.solution_lists.specs.Static.{IsStaticSearch, Precedes, BoxPrecedes, LeftPrecedes, StrictOrder}
use Rattle.search.specs.declared.kind.Kind.{Kind}
use Rattle.search.specs.Costs.{IsBelow, IsAtMost}
use Rattle.search.specs.Machine.{Search, State, Step, Node, is_dropped, is_solved, is_parted, MayFall, cut_by, best_after, Reached, begun, stepped}
use Rattle.search.specs.Laws.{IsInsideStart, RecordsSolutions, IsLeastSoFar, FindsLeast, RecordsBelow, CostsFall}
use Rattle.search.specs.Static.{FindsFirst}
use Rattle.search.proofs.CutLaws.{stays, costs_at_most}
use Rattle.search.proofs.StackLaws.{Lies, cut_inside, greatest_lies, parts_of, top_lies, all_last, all_front}
use Rattle.search.proofs.PremiseLaws.{long_sub}

-- ---- boxes of a list

any_head : {A : Type 0} (P : A → Type 0) (x : A) (xs : List A) → P x → Any P (x ∷ xs)
any_head P x xs h = (0, x, omega arith, refl, h)

any_tail : {A : Type 0} (P : A → Type 0) (x : A) (xs : List A) → Any P xs → Any P (x ∷ xs)
any_tail P x xs (k, y, l, e, h) = (suc k, y, omega arith, e, h)

any_cases : {A : Type 0} (P : A → Type 0) (x : A) (xs : List A) → Any P (x ∷ xs) → P x ⊎ Any P xs
any_cases P x xs (zero, y, l, e, h) = inl (subst P (sym e) h)
any_cases P x xs (suc k, y, l, e, h) = inr (k, y, omega arith, e, h)

any_none : {A : Type 0} (P : A → Type 0) → Any P [] → ⊥
any_none P (k, y, l, e, h) = omega arith

any_append : {A : Type 0} (P : A → Type 0) (xs ys : List A) → Any P (xs ++ ys) → Any P xs ⊎ Any P ys
any_append P [] ys h = inr h
any_append P (x ∷ xs) ys h = elim (any_cases P x (xs ++ ys) h) [
  | inl k ↦ inl (any_head P x xs k)
  | inr k ↦ elim (any_append P xs ys k) [ inl m ↦ inl (any_tail P x xs m) | inr m ↦ inr m ]
]

any_left : {A : Type 0} (P : A → Type 0) (xs ys : List A) → Any P xs → Any P (xs ++ ys)
any_left P [] ys h = absurd (any_none P h)
any_left P (x ∷ xs) ys h = elim (any_cases P x xs h) [ inl k ↦ any_head P x (xs ++ ys) k | inr k ↦ any_tail P x (xs ++ ys) (any_left P xs ys k) ]

any_right : {A : Type 0} (P : A → Type 0) (xs ys : List A) → Any P ys → Any P (xs ++ ys)
any_right P [] ys h = h
any_right P (x ∷ xs) ys h = any_tail P x (xs ++ ys) (any_right P xs ys h)

any_one : {A : Type 0} (P : A → Type 0) (x : A) → Any P (x ∷ []) → P x
any_one P x h = elim (any_cases P x [] h) [ inl k ↦ k | inr k ↦ absurd (any_none P k) ]

within_length : (a : List ℤ) (vars : List VarDecl) → IsWithin a vars → length a ≡ length vars
within_length [] [] h = refl
within_length [] (d ∷ ds) h = absurd h
within_length (z ∷ zs) [] h = absurd h
within_length (z ∷ zs) (d ∷ ds) h = ap suc (within_length zs ds h.2)

squeezed : (l h x y : ℤ) → l ≡ h → l ≤ℤ x → x ≤ℤ y → y ≤ℤ h → (x ≤ℤ l) × (h ≤ℤ y)
squeezed l h x y e a b c = (omega (arith, ints), omega (arith, ints))

-- a proper box inside a point is that point
same_point : InsideOrder → (p g : Bounds) → IsProper p → IsPoint g → IsInside p g → p ≡ g
same_point order p g proper point i = order.equal p g i (record {
  same_length = sym i.same_length;
  lows = λ v h. let m : v < length g = (let e = i.same_length in omega arith) in
      (squeezed (low_of g v) (high_of g v) (low_of p v) (high_of p v) (point v m) (i.lows v m) (proper v h) (i.highs v m)).0;
  highs = λ v h. let m : v < length g = (let e = i.same_length in omega arith) in
      (squeezed (low_of g v) (high_of g v) (low_of p v) (high_of p v) (point v m) (i.lows v m) (proper v h) (i.highs v m)).1;
})

-- ---- best costs

at_most_lower : (best : Option ℤ) (low cost : ℤ) → IsBelow low best → IsAtMost best cost → low ≤ℤ cost
at_most_lower None low cost h k = absurd k
at_most_lower (Some best) low cost h k = omega (arith, ints)

of_some : (best : Option ℤ) (c cost : ℤ) → best ≡ Some c → c ≤ℤ cost → IsAtMost best cost
of_some best c cost e h = subst (λ (b : Option ℤ). IsAtMost b cost) (sym e) h

pub after_fall : (posted : List ℤ) (best after : Option ℤ) (cost : ℤ) → MayFall posted best after → IsAtMost best cost → IsAtMost after cost
after_fall posted best after cost (inl e) h = subst (λ (b : Option ℤ). IsAtMost b cost) (sym e) h
after_fall posted best after cost (inr f) h = of_some after f.0 cost f.1.1.1 (at_most_lower best f.0 cost f.1.1.0 h)

-- a cost that isn't at least the best is below it
below_or_not : (best : Option ℤ) (cost : ℤ) → IsAtMost best cost ⊎ IsBelow cost best
below_or_not None cost = inr tt
below_or_not (Some best) cost = by_lt_z cost best (λ l. inr l) (λ l. inl l)

some_cost : (goal : Goal) (a b : List ℤ) (cost : ℤ) → cost_of goal a ≡ Some cost → (c : ℤ) × (cost_of goal b ≡ Some c)
some_cost Goal.Satisfy a b cost e = let f : None ≡ Some cost = e in absurd cc
some_cost (Goal.Minimize t) a b cost e = (value b t, refl)
some_cost (Goal.Maximize t) a b cost e = (neg_ℤ (value b t), refl)

module _ (order : InsideOrder) (branches : BranchLaws) (fixed : FixedIsPoint) (solve : PointSolves) (s : Search) (p : IsInsideStart s) where
  abbrev Here : Bounds → Type 0
  Here b = Lies order branches s p.phases (long_sub s p) p.in_range b

  abbrev Solves : Bounds → List ℤ → Type 0
  Solves b a = SolvesInside s.model b a

  abbrev Closed : Bounds → List ℤ → Type 0
  Closed b a = IsSolutionIn s.model s.kernels b a

  -- closed points are solutions, in a box inside the one that is searched
  solves : (b : Bounds) (a : List ℤ) → IsInside b s.sub → Closed b a → Solves b a
  solves b a i h =
      (solve s.model p.program b a p.means (order.through b s.sub p.program.start i p.inside)).0 (subst (λ (ks : List Kernel). IsSolutionIn s.model ks b a) p.kernels h)

  closed : (b : Bounds) (a : List ℤ) → IsInside b s.sub → Solves b a → Closed b a
  closed b a i h =
      subst (λ (ks : List Kernel). IsSolutionIn s.model ks b a) (sym p.kernels) ((solve s.model p.program b a p.means (order.through b s.sub p.program.start i p.inside)).1 h)

  wider : (b c : Bounds) (a : List ℤ) → IsInside b c → Solves b a → Solves c a
  wider b c a i h = record { solves = h.solves; inside = order.through _ b c h.inside i }

  fits : (b : Bounds) (a : List ℤ) → Solves b a → length a ≡ length s.model.vars
  fits b a h = within_length a s.model.vars h.solves.within

  long : (b : Bounds) → Here b → length s.model.vars < length b
  long b l = let e = l.inside.same_length in let k = long_sub s p in omega arith

  -- a greatest closed box that fixes the declared variables is a solution's point
  point_of_greatest : (top seen g : Bounds) → Here top → IsInside seen top → IsGreatest g seen s.kernels → AreFixed s.model g → IsPoint g
  point_of_greatest top seen g l i gr all =
      let k = greatest_lies order branches s p.phases (long_sub s p) p.in_range top seen g l i gr in
      fixed s.model p.program g p.means (order.through g s.sub p.program.start k.inside p.inside) gr.closed.proper all

  solved : (top seen g : Bounds) → Here top → IsInside seen top → IsGreatest g seen s.kernels → AreFixed s.model g → Solves seen (values_of s.model g)
  solved top seen g l i gr all =
      solves seen (values_of s.model g) (order.through seen top s.sub i l.inside)
      (record { point = g; is_point = point_of_greatest top seen g l i gr all; closed = gr.closed; inside = gr.inside; is_values = refl })

  recorded_solve : (top seen : Bounds) (back : List Bounds) (recorded : List (List ℤ)) → Here top → IsInside seen top → Node s.model s.kernels s.round_limit seen back recorded → All (Solves seen) recorded
  recorded_solve top seen back recorded l i (is_dropped _ _ _ _ _ _ fails none nothing) = subst (All (Solves seen)) (sym nothing) (All-nil (Solves seen))
  recorded_solve top seen back recorded l i (is_solved _ _ _ _ _ _ g gr _ all none one) =
      subst (All (Solves seen)) (sym one) (All-cons (Solves seen) (values_of s.model g) [] (solved top seen g l i gr all) (All-nil (Solves seen)))
  recorded_solve top seen back recorded l i (is_parted _ _ _ _ _ _ g left right gr _ br two nothing) = subst (All (Solves seen)) (sym nothing) (All-nil (Solves seen))

  pub records : (state : State) → Reached s state → All (Solves s.sub) state.found
  records state (begun _ _ _ _ _ nothing) = subst (All (Solves s.sub)) (sym nothing) (All-nil (Solves s.sub))
  records state (stepped _ before _ r on st) =
      let l = top_lies order branches s p.phases (long_sub s p) p.in_range before st.rest st.top r st.takes.taken in
      let i = cut_inside order branches s p.phases (long_sub s p) p.in_range s.kind st.best st.top in
      let seen = cut_by s.kind s.model.goal st.best st.top in
      subst (All (Solves s.sub)) (sym st.found) (All-append (Solves s.sub) before.found st.recorded (records before r)
      (All-weaker (Solves seen) (Solves s.sub) (λ a h. wider seen s.sub a (order.through seen st.top s.sub i l.inside) h) st.recorded
      (recorded_solve st.top seen st.back st.recorded l i st.node)))

  -- a solution in what a node looks at is recorded, or lies in what it puts back
  kept : (top seen : Bounds) (back : List Bounds) (recorded : List (List ℤ)) (a : List ℤ) → Here top → IsInside seen top → Node s.model s.kernels s.round_limit seen back recorded →
      Solves seen a → (recorded ≡ a ∷ []) ⊎ Any (LiesIn s.model a) back
  kept top seen back recorded a l i node h = case back recorded node (closed seen a inside h)
    where
      inside : IsInside seen s.sub
      inside = order.through seen top s.sub i l.inside

      case : (back : List Bounds) (recorded : List (List ℤ)) → Node s.model s.kernels s.round_limit seen back recorded → Closed seen a → (recorded ≡ a ∷ []) ⊎ Any (LiesIn s.model a) back
      case back recorded (is_dropped _ _ _ _ _ _ fails none nothing) c = absurd (fails c.point c.closed c.inside)
      case back recorded (is_solved _ _ _ _ _ _ g gr _ all none one) c =
          let same = same_point order c.point g c.closed.proper (point_of_greatest top seen g l i gr all) (gr.greatest c.point c.closed c.inside) in
          inl (one ∙ ap (λ (b : Bounds). values_of s.model b ∷ []) (sym same) ∙ ap (λ (xs : List ℤ). xs ∷ []) (sym c.is_values))
      case back recorded (is_parted _ _ _ _ _ _ g left right gr _ br two nothing) c =
          let k = greatest_lies order branches s p.phases (long_sub s p) p.in_range top seen g l i gr in
          let q = parts_of order branches s p.phases (long_sub s p) p.in_range g left right k gr.closed.proper br in
          inr (subst (Any (LiesIn s.model a)) (sym two) (elim (q.in_one c.point c.is_point (gr.greatest c.point c.closed c.inside)) [
            | inl j ↦ any_tail (LiesIn s.model a) right (left ∷ []) (any_head (LiesIn s.model a) left [] (solves left a (order.through left g s.sub q.first_part.inside k.inside)
                (record { point = c.point; is_point = c.is_point; closed = c.closed; inside = j; is_values = c.is_values })).inside)
            | inr j ↦ any_head (LiesIn s.model a) right (left ∷ []) ((solves right a (order.through right g s.sub q.second_part.inside k.inside)
                (record { point = c.point; is_point = c.is_point; closed = c.closed; inside = j; is_values = c.is_values })).inside)
          ]))

  -- ---- the least cost

  abbrev goal : Goal
  goal = s.model.goal

  -- what is recorded costs less than the best so far
  recorded_below : (top : Bounds) (best : Option ℤ) (a : List ℤ) (cost : ℤ) → Here top → Solves (cut_by Kind.Least goal best top) a → cost_of goal a ≡ Some cost → IsBelow cost best
  recorded_below top None a cost l h e = tt
  recorded_below top (Some best) a cost l h e =
      less cost best (costs_at_most s.model a (fits _ a h) goal (best -ℤ pos 1) cost top p.objective (long top l) h.inside e)
    where
      less : (x y : ℤ) → x ≤ℤ (y -ℤ pos 1) → x <ℤ y
      less x y h = omega (arith, ints)

  stays_below : (top : Bounds) (best : Option ℤ) (a : List ℤ) (cost : ℤ) → Here top → Solves top a → cost_of goal a ≡ Some cost → IsBelow cost best → Solves (cut_by Kind.Least goal best top) a
  stays_below top None a cost l h e b = h
  stays_below top (Some best) a cost l h e b = record {
    solves = h.solves;
    inside = stays s.model a (fits top a h) goal (best -ℤ pos 1) cost top p.objective (long top l) h.inside e (less cost best b);
  }
    where
      less : (x y : ℤ) → x <ℤ y → x ≤ℤ (y -ℤ pos 1)
      less x y h = omega (arith, ints)

  -- the best cost after a node is at or below that before it
  after_node : (top : Bounds) (best : Option ℤ) (recorded : List (List ℤ)) (a : List ℤ) (cost : ℤ) → Here top → All (Solves (cut_by Kind.Least goal best top)) recorded →
      cost_of goal a ≡ Some cost → IsAtMost best cost → IsAtMost (best_after Kind.Least goal best recorded) cost
  after_node top best [] a cost l h e k = k
  after_node top best (b ∷ others) a cost l h e k =
      let c = some_cost goal a b cost e in
      of_some (cost_of goal b) c.0 cost c.1 (at_most_lower best c.0 cost (recorded_below top best b c.0 l (h 0 b (omega arith)) c.1) k)

  recorded_at_most : (best : Option ℤ) (recorded : List (List ℤ)) (a : List ℤ) (cost : ℤ) → recorded ≡ a ∷ [] → cost_of goal a ≡ Some cost → IsAtMost (best_after Kind.Least goal best recorded) cost
  recorded_at_most best recorded a cost one e =
      subst (λ (xs : List (List ℤ)). IsAtMost (best_after Kind.Least goal best xs) cost) (sym one) (of_some (cost_of goal a) cost cost e (omega (arith, ints)))

  abbrev Covered : State → Type 0
  Covered state = (a : List ℤ) (cost : ℤ) → Solves s.sub a → cost_of goal a ≡ Some cost → IsAtMost state.best cost ⊎ Any (LiesIn s.model a) state.stack

  module _ (least : s.kind ≡ Kind.Least) where
    covers : (state : State) → Reached s state → Covered state
    covers state (begun _ _ e _ _ _) a cost h c = inr (subst (Any (LiesIn s.model a)) (sym e) (any_head (LiesIn s.model a) s.sub [] h.inside))
    covers state (stepped _ before _ r on st) a cost h c =
        let l = top_lies order branches s p.phases (long_sub s p) p.in_range before st.rest st.top r st.takes.taken in
        let seen = cut_by Kind.Least goal st.best st.top in
        let i = cut_inside order branches s p.phases (long_sub s p) p.in_range Kind.Least st.best st.top in
        let node : Node s.model s.kernels s.round_limit seen st.back st.recorded = subst (λ (k : Kind). Node s.model s.kernels s.round_limit (cut_by k goal st.best st.top) st.back st.recorded) least st.node in
        let falls : state.best ≡ best_after Kind.Least goal st.best st.recorded = st.falls ∙ ap (λ (k : Kind). best_after k goal st.best st.recorded) least in
        let all = recorded_solve st.top seen st.back st.recorded l i node in
        let low : IsAtMost st.best cost → IsAtMost state.best cost =
        λ k. subst (λ (b : Option ℤ). IsAtMost b cost) (sym falls) (after_node st.top st.best st.recorded a cost l all c k) in
        let stacked : Any (LiesIn s.model a) (st.rest ++ st.back) → IsAtMost state.best cost ⊎ Any (LiesIn s.model a) state.stack =
        λ k. inr (subst (Any (LiesIn s.model a)) (sym st.stack) k) in
        elim (covers before r a cost h c) [
          | inl k ↦ inl (low (after_fall s.posted before.best st.best cost st.takes.falls k))
          | inr k ↦ elim (any_append (LiesIn s.model a) st.rest (st.top ∷ []) (subst (Any (LiesIn s.model a)) st.takes.taken k)) [
            | inl u ↦ stacked (any_left (LiesIn s.model a) st.rest st.back u)
            | inr u ↦ elim (below_or_not st.best cost) [
              | inl b ↦ inl (low b)
              | inr b ↦ elim (kept st.top seen st.back st.recorded a l i node
                  (stays_below st.top st.best a cost l (record { solves = h.solves; inside = any_one (LiesIn s.model a) st.top u }) c b)) [
                    | inl one ↦ inl (subst (λ (x : Option ℤ). IsAtMost x cost) (sym falls) (recorded_at_most st.best st.recorded a cost one c))
                    | inr w ↦ stacked (any_right (LiesIn s.model a) st.rest st.back w)
                  ]
            ]
          ]
        ]

    -- ---- what was recorded

    abbrev Above : State → Type 0
    Above state = (a : List ℤ) (cost : ℤ) → Contains state.found a → cost_of goal a ≡ Some cost → IsAtMost state.best cost

    one_recorded : (seen : Bounds) (back : List Bounds) (recorded : List (List ℤ)) (a : List ℤ) → Node s.model s.kernels s.round_limit seen back recorded → Contains recorded a → recorded ≡ a ∷ []
    one_recorded seen back recorded a (is_dropped _ _ _ _ _ _ fails none nothing) k = absurd (nothing_in (subst (λ (xs : List (List ℤ)). Contains xs a) nothing k))
      where
        nothing_in : Contains [] a → ⊥
        nothing_in (i, l, e) = omega arith
    one_recorded seen back recorded a (is_solved _ _ _ _ _ _ g gr _ all none one) k = one ∙ ap (λ (x : List ℤ). x ∷ []) (the_one (subst (λ (xs : List (List ℤ)). Contains xs a) one k))
      where
        the_one : Contains (values_of s.model g ∷ []) a → values_of s.model g ≡ a
        the_one (zero, l, e) = e
        the_one (suc i, l, e) = absurd (omega arith)
    one_recorded seen back recorded a (is_parted _ _ _ _ _ _ g left right gr _ br two nothing) k = absurd (nothing_in (subst (λ (xs : List (List ℤ)). Contains xs a) nothing k))
      where
        nothing_in : Contains [] a → ⊥
        nothing_in (i, l, e) = omega arith

    above : (state : State) → Reached s state → Above state
    above state (begun _ _ _ _ _ nothing) a cost k c = absurd (nothing_in (subst (λ (xs : List (List ℤ)). Contains xs a) nothing k))
      where
        nothing_in : Contains [] a → ⊥
        nothing_in (i, l, e) = omega arith
    above state (stepped _ before _ r on st) a cost k c =
        let l = top_lies order branches s p.phases (long_sub s p) p.in_range before st.rest st.top r st.takes.taken in
        let seen = cut_by Kind.Least goal st.best st.top in
        let i = cut_inside order branches s p.phases (long_sub s p) p.in_range Kind.Least st.best st.top in
        let node : Node s.model s.kernels s.round_limit seen st.back st.recorded = subst (λ (k : Kind). Node s.model s.kernels s.round_limit (cut_by k goal st.best st.top) st.back st.recorded) least st.node in
        let falls : state.best ≡ best_after Kind.Least goal st.best st.recorded = st.falls ∙ ap (λ (k : Kind). best_after k goal st.best st.recorded) least in
        let all = recorded_solve st.top seen st.back st.recorded l i node in
        elim (Contains-append_cases before.found st.recorded a (subst (λ (xs : List (List ℤ)). Contains xs a) st.found k)) [
          | inl k ↦ subst (λ (b : Option ℤ). IsAtMost b cost) (sym falls)
              (after_node st.top st.best st.recorded a cost l all c (after_fall s.posted before.best st.best cost st.takes.falls (above before r a cost k c)))
          | inr k ↦ subst (λ (b : Option ℤ). IsAtMost b cost) (sym falls)
              (recorded_at_most st.best st.recorded a cost (one_recorded seen st.back st.recorded a node k) c)
        ]

    -- what a node records costs less than the best
    pub records_less : (before after : State) → Reached s before → (st : Step s before after) → (a : List ℤ) (cost : ℤ) → Contains st.recorded a →
        cost_of goal a ≡ Some cost → IsBelow cost st.best
    records_less before after r st a cost k c =
        let l = top_lies order branches s p.phases (long_sub s p) p.in_range before st.rest st.top r st.takes.taken in
        let seen = cut_by Kind.Least goal st.best st.top in
        let i = cut_inside order branches s p.phases (long_sub s p) p.in_range Kind.Least st.best st.top in
        let node : Node s.model s.kernels s.round_limit seen st.back st.recorded = subst (λ (k : Kind). Node s.model s.kernels s.round_limit (cut_by k goal st.best st.top) st.back st.recorded) least st.node in
        let all = recorded_solve st.top seen st.back st.recorded l i node in
        recorded_below st.top st.best a cost l (All-contains (Solves seen) st.recorded a all k) c

    -- ---- costs fall

    abbrev Falls : List ℤ → List ℤ → Type 0
    Falls a b = (c d : ℤ) → cost_of goal a ≡ Some c → cost_of goal b ≡ Some d → d <ℤ c

    pairs_append : (found recorded : List (List ℤ)) → AllPairs Falls found → AllPairs Falls recorded → ((a b : List ℤ) → Contains found a → Contains recorded b → Falls a b) → AllPairs Falls (found ++ recorded)
    pairs_append [] recorded h k both = k
    pairs_append (x ∷ found) recorded h k both = AllPairs-cons Falls x (found ++ recorded)
        (All-append (Falls x) found recorded (λ i d l. h 0 (suc i) d (omega arith) (omega arith)) (λ i d l. both x (get_or recorded i d) (0, omega arith, refl) (Contains-get_or recorded i d l)))
        (pairs_append found recorded (λ i j d l w. h (suc i) (suc j) d (omega arith) (omega arith)) k (λ a b p q. both a b (let m = p in (suc m.0, omega (arith, m.1), m.2)) q))

    one_falls : (seen : Bounds) (back : List Bounds) (recorded : List (List ℤ)) → Node s.model s.kernels s.round_limit seen back recorded → AllPairs Falls recorded
    one_falls seen back recorded (is_dropped _ _ _ _ _ _ fails none nothing) = subst (AllPairs Falls) (sym nothing) (λ i j d l w. absurd (omega arith))
    one_falls seen back recorded (is_solved _ _ _ _ _ _ g gr _ all none one) = subst (AllPairs Falls) (sym one) (λ i j d l w. absurd (omega arith))
    one_falls seen back recorded (is_parted _ _ _ _ _ _ g left right gr _ br two nothing) = subst (AllPairs Falls) (sym nothing) (λ i j d l w. absurd (omega arith))

    less_than : (best : Option ℤ) (c d : ℤ) → IsAtMost best c → IsBelow d best → d <ℤ c
    less_than None c d a b = absurd a
    less_than (Some best) c d a b = omega (arith, ints, a, b)

    pub falls : (state : State) → Reached s state → AllPairs Falls state.found
    falls state (begun _ _ _ _ _ nothing) = subst (AllPairs Falls) (sym nothing) (λ i j d l w. absurd (omega arith))
    falls state (stepped _ before _ r on st) =
        let l = top_lies order branches s p.phases (long_sub s p) p.in_range before st.rest st.top r st.takes.taken in
        let seen = cut_by Kind.Least goal st.best st.top in
        let i = cut_inside order branches s p.phases (long_sub s p) p.in_range Kind.Least st.best st.top in
        let node : Node s.model s.kernels s.round_limit seen st.back st.recorded = subst (λ (k : Kind). Node s.model s.kernels s.round_limit (cut_by k goal st.best st.top) st.back st.recorded) least st.node in
        let all = recorded_solve st.top seen st.back st.recorded l i node in
        subst (AllPairs Falls) (sym st.found)
        (pairs_append before.found st.recorded (falls before r) (one_falls seen st.back st.recorded node)
        (λ a b p q c d e f. less_than st.best c d (after_fall s.posted before.best st.best c st.takes.falls (above before r a c p e))
        (recorded_below st.top st.best b d l (All-contains (Solves seen) st.recorded b all q) f)))

    -- ---- where the best cost comes from

    abbrev Origin : Option ℤ → List (List ℤ) → Type 0
    Origin best found = (cost : ℤ) → best ≡ Some cost → (s.known ≡ Some cost) ⊎ (Contains s.posted cost ⊎ Any (λ a. cost_of goal a ≡ Some cost) found)

    fall_origin : (best after : Option ℤ) (found : List (List ℤ)) → MayFall s.posted best after → Origin best found → Origin after found
    fall_origin best after found (inl e) o cost k = o cost (sym e ∙ k)
    fall_origin best after found (inr f) o cost k =
        let same : f.0 ≡ cost = (let q : Some f.0 ≡ Some cost = sym f.1.1.1 ∙ k in cc) in inr (inl (subst (Contains s.posted) same f.1.0))

    node_origin : (best : Option ℤ) (found recorded : List (List ℤ)) → Origin best found → Origin (best_after Kind.Least goal best recorded) (found ++ recorded)
    node_origin best found [] o cost k = elim (o cost k) [
      | inl h ↦ inl h
      | inr h ↦ inr (elim h [ inl m ↦ inl m | inr m ↦ inr (any_left (λ a. cost_of goal a ≡ Some cost) found [] m) ])
    ]
    node_origin best found (a ∷ others) o cost k =
        inr (inr (any_right (λ b. cost_of goal b ≡ Some cost) found (a ∷ others) (any_head (λ b. cost_of goal b ≡ Some cost) a others k)))

    origin : (state : State) → Reached s state → Origin state.best state.found
    origin state (begun _ _ _ f _ _) cost k = inl (sym f ∙ k)
    origin state (stepped _ before _ r on st) cost k =
        let falls : state.best ≡ best_after Kind.Least goal st.best st.recorded = st.falls ∙ ap (λ (k : Kind). best_after k goal st.best st.recorded) least in
        subst (λ (xs : List (List ℤ)). (s.known ≡ Some cost) ⊎ (Contains s.posted cost ⊎ Any (λ a. cost_of goal a ≡ Some cost) xs)) (sym st.found)
        (node_origin st.best before.found st.recorded (fall_origin before.best st.best before.found st.takes.falls (origin before r)) cost (sym falls ∙ k))

    pub least_so_far : (state : State) → Reached s state → IsLeastSoFar s state
    least_so_far state r = record { covers = covers state r; recorded = above state r; origin = origin state r }

-- ---- a static order

module _ (order : InsideOrder) (branches : BranchLaws) (fixed : FixedIsPoint) (solve : PointSolves) (precedes : LeftPrecedes) (strict : StrictOrder)
    (s : Search) (p : IsInsideStart s) (static : IsStaticSearch s.model) (least : s.kind ≡ Kind.Least) where
  -- each box of the stack comes before all that stand before it
  abbrev Comes : Bounds → Bounds → Type 0
  Comes b c = BoxPrecedes s.model c b

  InTurn : List Bounds → Type 0
  InTurn [] = Unit {0}
  InTurn (b ∷ bs) = All (Comes b) bs × InTurn bs

  narrower : (b c inner : Bounds) → IsInside inner c → Comes b c → Comes b inner
  narrower b c inner i h x y lx ly ix iy = h x y lx ly (order.through _ inner c ix i) iy

  turn_front : (rest : List Bounds) (top : Bounds) → InTurn (rest ++ top ∷ []) → InTurn rest × All (λ b. Comes b top) rest
  unfolding InTurn
  turn_front [] top h = (tt, All-nil (λ b. Comes b top))
  turn_front (b ∷ rest) top h =
      let k = turn_front rest top h.1 in
      ((all_front (Comes b) rest (top ∷ []) h.0, k.0), All-cons (λ c. Comes c top) b rest (all_last (Comes b) rest top h.0) k.1)

  turn_append : (top : Bounds) (rest back : List Bounds) → InTurn rest → InTurn back → All (λ b. Comes b top) rest → All (λ c. IsInside c top) back → InTurn (rest ++ back)
  unfolding InTurn
  turn_append top [] back h k before inside = k
  turn_append top (b ∷ rest) back h k before inside = (
    All-append (Comes b) rest back h.0 (All-weaker (λ c. IsInside c top) (Comes b) (λ c i. narrower b top c i (before 0 b (omega arith))) back inside),
    turn_append top rest back h.1 k (λ i d l. before (suc i) d (omega arith)) inside,
  )

  record BackInTurn (top : Bounds) (back : List Bounds) : Type 0 where
    turn : InTurn back
    inside : All (λ c. IsInside c top) back

  back_none : (top : Bounds) → BackInTurn top []
  unfolding InTurn
  back_none top = record { turn = tt; inside = All-nil (λ c. IsInside c top) }

  back_in_turn : (top seen : Bounds) (back : List Bounds) (recorded : List (List ℤ)) → Here order branches fixed solve s p top → IsInside seen top → Node s.model s.kernels s.round_limit seen back recorded → BackInTurn top back
  unfolding InTurn
  back_in_turn top seen back recorded l i (is_dropped _ _ _ _ _ _ fails none nothing) = subst (BackInTurn top) (sym none) (back_none top)
  back_in_turn top seen back recorded l i (is_solved _ _ _ _ _ _ g gr _ all none one) = subst (BackInTurn top) (sym none) (back_none top)
  back_in_turn top seen back recorded l i (is_parted _ _ _ _ _ _ g left right gr _ br two nothing) =
      let k = greatest_lies order branches s p.phases (long_sub s p) p.in_range top seen g l i gr in
      let q = parts_of order branches s p.phases (long_sub s p) p.in_range g left right k gr.closed.proper br in
      let in_top = order.through g seen top gr.inside i in
      subst (BackInTurn top) (sym two) (record {
        turn = (
          All-cons (Comes right) left [] (precedes s.model g left right static p.phases (let e = k.inside.same_length in let m = long_sub s p in omega arith) gr.closed.proper br) (All-nil (Comes right)),
          (All-nil (Comes left), tt),
        );
        inside = All-cons (λ c. IsInside c top) right (left ∷ []) (order.through right g top q.second_part.inside in_top)
            (All-cons (λ c. IsInside c top) left [] (order.through left g top q.first_part.inside in_top) (All-nil (λ c. IsInside c top)));
      })

  in_turn : (state : State) → Reached s state → InTurn state.stack
  unfolding InTurn
  in_turn state (begun _ _ e _ _ _) = subst InTurn (sym e) (All-nil (Comes s.sub), tt)
  in_turn state (stepped _ before _ r on st) =
      let l = top_lies order branches s p.phases (long_sub s p) p.in_range before st.rest st.top r st.takes.taken in
      let i = cut_inside order branches s p.phases (long_sub s p) p.in_range s.kind st.best st.top in
      let front = turn_front st.rest st.top (subst InTurn st.takes.taken (in_turn before r)) in
      let back = back_in_turn st.top (cut_by s.kind s.model.goal st.best st.top) st.back st.recorded l i st.node in
      subst InTurn (sym st.stack) (turn_append st.top st.rest st.back front.0 back.turn front.1 back.inside)

  -- where something is recorded nothing is put back
  none_back : (seen : Bounds) (back : List Bounds) (recorded : List (List ℤ)) (a : List ℤ) → Node s.model s.kernels s.round_limit seen back recorded → recorded ≡ a ∷ [] → back ≡ []
  none_back seen back recorded a (is_dropped _ _ _ _ _ _ fails none nothing) e = none
  none_back seen back recorded a (is_solved _ _ _ _ _ _ g gr _ all none one) e = none
  none_back seen back recorded a (is_parted _ _ _ _ _ _ g left right gr _ br two nothing) e = let q : [] ≡ a ∷ [] = sym nothing ∙ e in absurd cc

  pub finds_first_in : (state : State) → Reached s state → (a other : List ℤ) (cost more : ℤ) → Contains state.found a → SolvesInside s.model s.sub other → Precedes s.model other a →
      cost_of s.model.goal a ≡ Some cost → cost_of s.model.goal other ≡ Some more → cost <ℤ more
  finds_first_in state (begun _ _ _ _ _ nothing) a other cost more k h first e f = absurd (nothing_in (subst (λ (xs : List (List ℤ)). Contains xs a) nothing k))
    where
      nothing_in : Contains [] a → ⊥
      nothing_in (i, l, e) = omega arith
  finds_first_in state (stepped _ before _ r on st) a other cost more k h first e f =
      let l = top_lies order branches s p.phases (long_sub s p) p.in_range before st.rest st.top r st.takes.taken in
      let seen = cut_by Kind.Least s.model.goal st.best st.top in
      let i = cut_inside order branches s p.phases (long_sub s p) p.in_range Kind.Least st.best st.top in
      let node : Node s.model s.kernels s.round_limit seen st.back st.recorded = subst (λ (k : Kind). Node s.model s.kernels s.round_limit (cut_by k s.model.goal st.best st.top) st.back st.recorded) least st.node in
      let all = recorded_solve order branches fixed solve s p st.top seen st.back st.recorded l i node in
      let front = turn_front st.rest st.top (subst InTurn st.takes.taken (in_turn before r)) in
      let len_other = fits order branches fixed solve s p s.sub other h in
      elim (Contains-append_cases before.found st.recorded a (subst (λ (xs : List (List ℤ)). Contains xs a) st.found k)) [
        | inl q ↦ finds_first_in before r a other cost more q h first e f
        | inr q ↦
            let one = one_recorded order branches fixed solve s p least seen st.back st.recorded a node q in
            let a_seen = All-contains (SolvesInside s.model seen) st.recorded a all q in
            let a_top = order.through _ seen st.top a_seen.inside i in
            let len_a = fits order branches fixed solve s p seen a a_seen in
            let below = recorded_below order branches fixed solve s p st.top st.best a cost l a_seen e in
            let by_best : IsAtMost st.best more → cost <ℤ more = λ m. less_than order branches fixed solve s p least st.best more cost m below in
            elim (covers order branches fixed solve s p least before r other more h f) [
              | inl m ↦ by_best (after_fall s.posted before.best st.best more st.takes.falls m)
              | inr m ↦ elim (any_append (LiesIn s.model other) st.rest (st.top ∷ []) (subst (Any (LiesIn s.model other)) st.takes.taken m)) [
                | inl u ↦ absurd (strict.not_both s.model other a first (behind len_a len_other st.rest st.top front.1 a_top u))
                | inr u ↦ elim (below_or_not st.best more) [
                  | inl m ↦ by_best m
                  | inr m ↦ absurd (elim (kept order branches fixed solve s p st.top seen st.back st.recorded other l i node
                      (stays_below order branches fixed solve s p st.top st.best other more l (record { solves = h.solves; inside = any_one (LiesIn s.model other) st.top u }) f m)) [
                        | inl both ↦ strict.never_itself s.model a (subst (λ (x : List ℤ). Precedes s.model x a) (same_one other a (sym both ∙ one)) first)
                        | inr w ↦ any_none (LiesIn s.model other) (subst (Any (LiesIn s.model other)) (none_back seen st.back st.recorded a node one) w)
                      ])
                ]
              ]
            ]
      ]
    where
      same_one : (x y : List ℤ) → x ∷ [] ≡ y ∷ [] → x ≡ y
      same_one x y e = cc

      behind : length a ≡ length s.model.vars → length other ≡ length s.model.vars → (rest : List Bounds) (top : Bounds) → All (λ b. Comes b top) rest → LiesIn s.model a top → Any (LiesIn s.model other) rest → Precedes s.model a other
      behind len_a len_other rest top each a_top (n, b, w, g, here) = subst (λ (c : Bounds). Comes c top) g (each n b w) a other len_a len_other a_top here

pub records_solutions : InsideOrder → BranchLaws → FixedIsPoint → PointSolves → RecordsSolutions
records_solutions order branches fixed solve s state p r = records order branches fixed solve s p state r

pub finds_least : InsideOrder → BranchLaws → FixedIsPoint → PointSolves → FindsLeast
finds_least order branches fixed solve s state least p r = least_so_far order branches fixed solve s p least state r

pub records_below : InsideOrder → BranchLaws → FixedIsPoint → PointSolves → RecordsBelow
records_below order branches fixed solve s before after least p r step a cost k c = records_less order branches fixed solve s p least before after r step a cost k c

pub costs_fall : InsideOrder → BranchLaws → FixedIsPoint → PointSolves → CostsFall
costs_fall order branches fixed solve s state least p r = falls order branches fixed solve s p least state r

pub finds_first : InsideOrder → BranchLaws → FixedIsPoint → PointSolves → LeftPrecedes → StrictOrder → FindsFirst
finds_first order branches fixed solve precedes strict s state least p static r = finds_first_in order branches fixed solve precedes strict s p static least state r
