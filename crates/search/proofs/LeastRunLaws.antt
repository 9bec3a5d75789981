-- The loop of the search for the least cost follows the machine.
use Rattle.std.proofs.Common.{◌≡◌, ◌≢◌, ℕ, zero, suc, ℤ, ◌+◌, ◌-◌, ◌<◌, ◌≤◌, ◌≤ℤ◌, neg_ℤ, ◌⊎◌, inl, inr, List, [], ◌∷◌, ◌++◌, length, get_or, take, map, reverse, Option, Some, None, Result, Ok, Err, OnErr, refl, sym, ap, subst, ◌∙◌, arith, append-nil, length-append}
use Rattle.std.specs.Prelude.{IfSome, MatchOption, option_to_list}
use Rattle.std.specs.List.{All, Any, Contains, sum_by}
use Rattle.std.proofs.lemmas.Int.{ints, by_lt_z}
use Rattle.std.proofs.lemmas.List.{append_assoc, map-append, length-map, length-reverse, reverse-append}
use Rattle.std.proofs.lemmas.List.Elements.{All-head, All-tail, Contains-get_or}
use Rattle.interval.specs.Limits.{IsNumber, largest_number}
use Rattle.interval.specs.Boxes.{Bounds, IsInRange, IsInside, InsideOrder}
use Rattle.guarded_tell.specs.declared.kernel.Kernel.{Kernel}
use Rattle.guarded_tell.specs.Kernels.{IsKernel}
use Rattle.constraint_model.specs.declared.model.Term.{Term}
use Rattle.constraint_model.specs.declared.model.Goal.{Goal}
use Rattle.constraint_model.specs.declared.model.VarDecl.{VarDecl}
use Rattle.constraint_model.specs.declared.model.FznModel.{FznModel}
use Rattle.constraint_model.specs.Numbers.{IsInProfile, largest}
use Rattle.constraint_model.specs.Relations.{value, cost_of, IsWithin, IsSolution}
use Rattle.constraint_model.specs.WellFormed.{IsDeclaration, IsGoalOf, IsWellFormed}
use Rattle.decompose.specs.declared.program.Program.{Program}
use Rattle.decompose.specs.Program.{IsProgramOf}
use Rattle.branching.specs.Tree.{BranchLaws}
use Rattle.solution_lists.specs.Solutions.{LiesIn, SolvesInside}
use Rattle.best_bound.specs.Lists.{Among, with_seen, IsLeastCost, IsCostBelow}
use Rattle.search.specs.declared.kind.Kind.{Kind}
use Rattle.search.specs.declared.ends.Why.{Why}
use Rattle.search.specs.Costs.{IsBelow, IsAtMost, IsTermIn, IsObjectiveIn}
use Rattle.moved_fixpoint.specs.Sweeps.{SpendsSweeps}
use Rattle.narrowing.specs.Narrowing.{MayGiveUp}
use Rattle.search.specs.Machine.{Search, State, Step, Node, is_dropped, is_solved, is_parted, MayFall, cut_by, best_after, Takes, GoesOn, Reached, begun, stepped}
use Rattle.search.specs.Nodes.{IsNode, IsGivenUp}
use Rattle.search.specs.Ends.{EndsDone, EndsOutOfNodes, EndsOutOfRounds, EndsSpent}
use Rattle.search.specs.declared.closing.Closing.{Closing}
use Rattle.search.specs.Closings.{IsClosing}
use Rattle.search.specs.Laws.{IsInsideStart, RecordsSolutions, FindsLeast, RecordsBelow, MorePosted}
use Rattle.search.specs.LeastEnds.{least_of, last_of, IsCost, PostsCosts, SeesCosts, IsBrokenOff, CostsLess, CostAtLeast}
use Rattle.search.specs.Weights.{weight}
use Rattle.search.proofs.StackLaws.{some_left, Lies, top_lies, cut_inside, step_less}
use Rattle.search.proofs.PremiseLaws.{long_sub, runs_sub}
use Rattle.search.proofs.SearchLaws.{IsCounted, below_limit, full_here}

-- ---- costs are numbers

profile_number : (z : ℤ) → IsInProfile z → IsNumber z
unfolding largest largest_number
profile_number z h = h

between : (low z high : ℤ) → IsNumber low → IsNumber high → low ≤ℤ z → z ≤ℤ high → IsNumber z
between low z high l h a b = omega (arith, ints)

value_number : (a : List ℤ) (vars : List VarDecl) → All IsDeclaration vars → IsWithin a vars → (v : ℕ) → v < length vars → IsNumber (value a (Term.Var v))
value_number [] [] d w v h = absurd (omega arith)
value_number [] (x ∷ xs) d w v h = absurd w
value_number (z ∷ zs) [] d w v h = absurd w
value_number (z ∷ zs) (x ∷ xs) d w zero h =
    let r = All-head IsDeclaration x xs d in
    between x.low z x.high (profile_number x.low r.low) (profile_number x.high r.high) w.0 w.1
value_number (z ∷ zs) (x ∷ xs) d w (suc v) h = value_number zs xs (All-tail IsDeclaration x xs d) w.2 v (omega arith)

negated_number : (z : ℤ) → IsNumber z → IsNumber (neg_ℤ z)
negated_number z h = omega (arith, ints, h)

same_cost : (x y : ℤ) → Some x ≡ Some y → x ≡ y
same_cost x y e = cc

term_number : (model : FznModel) → IsWellFormed model → (a : List ℤ) → IsSolution model a → (t : Term) → IsGoalOf model.vars (Goal.Minimize t) → IsNumber (value a t)
term_number model f a s (Term.Number n) g = profile_number n g.0
term_number model f a s (Term.Var v) g = value_number a model.vars f.vars s.within v g.inside

number_of_goal : (model : FznModel) → IsWellFormed model → (a : List ℤ) → IsSolution model a → (goal : Goal) → IsGoalOf model.vars goal → (cost : ℤ) → cost_of goal a ≡ Some cost → IsNumber cost
number_of_goal model f a s Goal.Satisfy g cost e = let q : None ≡ Some cost = e in absurd cc
number_of_goal model f a s (Goal.Minimize t) g cost e = subst IsNumber (same_cost (value a t) cost e) (term_number model f a s t g)
number_of_goal model f a s (Goal.Maximize t) g cost e = subst IsNumber (same_cost (neg_ℤ (value a t)) cost e) (negated_number (value a t) (term_number model f a s t g))

pub cost_number : (model : FznModel) → IsWellFormed model → (a : List ℤ) → IsSolution model a → (cost : ℤ) → cost_of model.goal a ≡ Some cost → IsNumber cost
cost_number model f a s cost e = number_of_goal model f a s model.goal f.objective cost e

-- ---- the objective is a term of so many variables

term_in : (vars : List VarDecl) (n : ℕ) (t : Term) → length vars ≤ n → IsGoalOf vars (Goal.Minimize t) → IsTermIn n t
term_in vars n (Term.Number z) l g = profile_number z g.0
term_in vars n (Term.Var v) l g = let h : v < length vars = g.inside in omega arith

pub objective_in : (vars : List VarDecl) (n : ℕ) (goal : Goal) → length vars ≤ n → IsGoalOf vars goal → goal ≢ Goal.Satisfy → IsObjectiveIn n goal
objective_in vars n Goal.Satisfy l g k = k refl
objective_in vars n (Goal.Minimize t) l g k = term_in vars n t l g
objective_in vars n (Goal.Maximize t) l g k = term_in vars n t l g

pub within_length : (a : List ℤ) (vars : List VarDecl) → IsWithin a vars → length a ≡ length vars
within_length [] [] h = refl
within_length [] (d ∷ ds) h = absurd h
within_length (z ∷ zs) [] h = absurd h
within_length (z ∷ zs) (d ∷ ds) h = ap suc (within_length zs ds h.2)

-- ---- costs that were seen

pub contains_of : (xs : List ℤ) (x : ℤ) → Among xs x → Contains xs x
contains_of [] x h = absurd h
contains_of (y ∷ ys) x (inl e) = (0, omega arith, e)
contains_of (y ∷ ys) x (inr h) = let k = contains_of ys x h in (suc k.0, omega (arith, k.1), k.2)

pub among_of : (xs : List ℤ) (x : ℤ) → Contains xs x → Among xs x
among_of [] x (k, l, e) = omega arith
among_of (y ∷ ys) x (zero, l, e) = inl e
among_of (y ∷ ys) x (suc k, l, e) = inr (among_of ys x (k, omega arith, e))

any_of : (P : ℤ → Type 0) (xs : List ℤ) (x : ℤ) → Among xs x → P x → Any P xs
any_of P [] x h p = absurd h
any_of P (y ∷ ys) x (inl e) p = (0, x, omega arith, e, p)
any_of P (y ∷ ys) x (inr h) p = let k = any_of P ys x h p in (suc k.0, k.1, omega (arith, k.2), k.3, k.4)

pub among_any : (P : ℤ → Type 0) (xs : List ℤ) → Any P xs → (x : ℤ) × (Among xs x × P x)
among_any P xs (k, x, l, e, p) = (x, (among_of xs x (k, l, e), p))

any_weaker : (P Q : ℤ → Type 0) (xs : List ℤ) → ((x : ℤ) → P x → Q x) → Any P xs → Any Q xs
any_weaker P Q xs f (k, x, l, e, p) = (k, x, l, e, f x p)

-- each best cost is at or above one that was seen
abbrev pub IsLow : Option ℤ → List ℤ → Type 0
IsLow best seen = (cost : ℤ) → best ≡ Some cost → Any (λ c. c ≤ℤ cost) seen

pub seen_kept : (o : Option ℤ) (xs : List ℤ) (x : ℤ) → Among xs x → Among (with_seen o xs) x
seen_kept None xs x h = h
seen_kept (Some y) xs x h = inr h

-- the best cost falls to the least that is seen
pub falls_to : (before after : List ℤ) (best lowest : Option ℤ) → ((x : ℤ) → Among before x → Among after x) → IsLow best before → IsLeastCost after lowest → MayFall after best lowest
falls_to before after None None kept low least = inl refl
falls_to before after None (Some c) kept low least = inr (c, (contains_of after c least.0, (tt, refl)))
falls_to before after (Some b) None kept low least =
    let d = among_any (λ c. c ≤ℤ b) before (low b refl) in
    absurd (subst (λ (xs : List ℤ). Among xs d.0) least (kept d.0 d.1.0))
falls_to before after (Some b) (Some c) kept low least =
    let d = among_any (λ c. c ≤ℤ b) before (low b refl) in
    let l = least.1 d.0 (kept d.0 d.1.0) in
    let m = d.1.1 in
    by_lt_z c b (λ h. inr (c, (contains_of after c least.0, (h, refl)))) (λ h. inl (ap (λ (z : ℤ). Some z) (omega (arith, ints))))

lowest_low : (seen : List ℤ) (lowest : Option ℤ) → IsLeastCost seen lowest → IsLow lowest seen
lowest_low seen None least cost e = absurd (let q : None ≡ Some cost = e in cc)
lowest_low seen (Some c) least cost e =
    let q : c ≡ cost = same_cost c cost e in any_of (λ d. d ≤ℤ cost) seen c least.0 (subst (λ (z : ℤ). c ≤ℤ z) q (omega (arith, ints)))

kept_any : (P : ℤ → Type 0) (before after : List ℤ) → ((x : ℤ) → Among before x → Among after x) → Any P before → Any P after
kept_any P before after kept h = let d = among_any P before h in any_of P after d.0 (kept d.0 d.1.0) d.1.1

-- so is the best cost after a node
pub node_low : (goal : Goal) (seen after : List ℤ) (lowest : Option ℤ) (recorded : List (List ℤ)) → IsLeastCost seen lowest → SeesCosts goal recorded seen after →
    IsLow (best_after Kind.Least goal lowest recorded) after
node_low goal seen after lowest [] least s cost e = kept_any (λ c. c ≤ℤ cost) seen after s.kept (lowest_low seen lowest least cost e)
node_low goal seen after lowest (a ∷ others) least s cost e = s.each a cost (0, omega arith, refl) e

-- ---- what was posted

abbrev some : ℤ → Option ℤ
some c = Some c

pub posts_more : (goal : Goal) (found recorded : List (List ℤ)) (before middle after : List ℤ) → PostsCosts goal found before middle → PostsCosts goal recorded middle after →
    PostsCosts goal (found ++ recorded) before after
posts_more goal found recorded before middle after p q = record {
  costs = q.costs ++ p.costs;
  each = map-append (cost_of goal) found recorded ∙ ap (λ (xs : List (Option ℤ)). xs ++ map (cost_of goal) recorded) p.each
      ∙ ap (λ (xs : List (Option ℤ)). map some (reverse p.costs) ++ xs) q.each ∙ sym (map-append some (reverse p.costs) (reverse q.costs))
      ∙ ap (map some) (sym (reverse-append q.costs p.costs));
  posted = q.posted ∙ ap (λ (xs : List ℤ). q.costs ++ xs) p.posted ∙ sym (append_assoc q.costs p.costs before);
}

pub posts_none : (goal : Goal) (before : List ℤ) → PostsCosts goal [] before before
posts_none goal before = record { costs = []; each = refl; posted = refl }

only_one : (items rest : List (List ℤ)) (a : List ℤ) → length items ≤ 1 → items ≡ rest ++ a ∷ [] → items ≡ a ∷ []
only_one items [] a l e = e
only_one items (x ∷ rest) a l e = absurd (omega (arith, l, ap length e, length-append rest (a ∷ [])))

pub one_posted : (goal : Goal) (items rest : List (List ℤ)) (a : List ℤ) (cost : ℤ) (before after : List ℤ) → length items ≤ 1 → items ≡ rest ++ a ∷ [] → cost_of goal a ≡ Some cost →
    after ≡ cost ∷ before → PostsCosts goal items before after
one_posted goal items rest a cost before after l e c k = record {
  costs = cost ∷ [];
  each = ap (map (cost_of goal)) (only_one items rest a l e) ∙ ap (λ (o : Option ℤ). o ∷ []) c;
  posted = k;
}

-- what costs less than the lowest cost that was seen costs less than all that were seen before
pub costs_less : (goal : Goal) (before after : List ℤ) (lowest : Option ℤ) (recorded : List (List ℤ)) → IsLeastCost after lowest → ((x : ℤ) → Among before x → Among after x) →
    ((a : List ℤ) (cost : ℤ) → Contains recorded a → cost_of goal a ≡ Some cost → IsBelow cost lowest) → All (CostsLess goal before) recorded
costs_less goal before after None recorded least kept below k d l cost c e h = absurd (subst (λ (xs : List ℤ). Among xs c) least (kept c h))
costs_less goal before after (Some b) recorded least kept below k d l cost c e h =
    let q = below (get_or recorded k d) cost (Contains-get_or recorded k d l) e in
    let m = least.1 c (kept c h) in
    omega (arith, ints, q, m)

-- what holds of all holds of the last, if there is one
pub last_holds : (P : List ℤ → Type 0) (found : List (List ℤ)) → All P found → IfSome (last_of found) P
last_holds P [] h = tt
last_holds P (x ∷ []) h = h 0 x (omega arith)
last_holds P (x ∷ y ∷ others) h = last_holds P (y ∷ others) (All-tail P x (y ∷ others) h)

-- what is taken from the end of a list is its last, or the list is empty
pub last_push : (rest : List (List ℤ)) (x : List ℤ) → last_of (rest ++ x ∷ []) ≡ Some x
last_push [] x = refl
last_push (y ∷ []) x = refl
last_push (y ∷ z ∷ rest) x = last_push (z ∷ rest) x

pub popped_last : (found rest items : List (List ℤ)) (o : Option (List ℤ)) (m j : ℕ) → items ≡ found → items ≡ rest ++ option_to_list o → rest ≡ take (m - 1) items →
    MatchOption o ((m ≡ 0) × (j ≡ 0)) (λ _. j + 1 ≡ m) → o ≡ last_of found
popped_last found rest items (Some x) m j i e t k = sym (last_push rest x) ∙ ap last_of (sym e ∙ i)
popped_last found rest items None m j i e t k = sym (ap last_of (sym i ∙ e ∙ append-nil rest ∙ t ∙ ap (λ (l : ℕ). take (l - 1) items) k.0))

-- ---- how the search closes

module _ (s : Search) (closing : Closing) where
  abbrev Closes : Option Why → Type 0
  Closes stopped = MatchOption stopped (EndsDone s closing.found) (λ why. EndsSpent s why closing.nodes closing.found)

  pub done_of : closing.stopped ≡ None → IsClosing s closing → EndsDone s closing.found
  done_of e h = subst Closes e h

  pub spent_of : (why : Why) → closing.stopped ≡ Some why → IsClosing s closing → EndsSpent s why closing.nodes closing.found
  spent_of why e h = subst Closes e h

-- a stack that gives up no box is empty
pub popped_none : (items rest : List Bounds) (m j : ℕ) → items ≡ rest ++ [] → rest ≡ take (m - 1) items → (m ≡ 0) × (j ≡ 0) → items ≡ []
popped_none items rest m j e t k = e ∙ append-nil rest ∙ t ∙ ap (λ (n : ℕ). take (n - 1) items) k.0

-- ---- the loop

module _ (order : InsideOrder) (branches : BranchLaws) (s : Search) (least : s.kind ≡ Kind.Least) (p : IsInsideStart s) (wf : IsWellFormed s.model)
    (stack : List Bounds) (best : Option ℤ) (count : ℕ) (found : List (List ℤ)) (reached : Reached s (record { stack = stack; best = best; count = count; found = found })) where
  abbrev state : State
  state = record { stack = stack; best = best; count = count; found = found }

  not_first : s.kind ≡ Kind.First → ⊥
  not_first e = let f : Kind.Least ≡ Kind.First = sym least ∙ e in cc

  pub done_least : stack ≡ [] → EndsDone s found
  done_least e = record { state = state; reached = reached; done = inl e; is_found = refl }

  -- where no box is left each solution costs at least one of the costs that were seen
  pub covered : FindsLeast → stack ≡ [] → IsLow best s.posted → CostAtLeast s.model s.sub s.posted
  covered law e low a cost h c = elim ((law s state least p reached).covers a cost h c) [
    | inl k ↦ from_best best refl k
    | inr k ↦ absurd (none_in (subst (λ (bs : List Bounds). Any (LiesIn s.model a) bs) e k))
  ]
    where
      from_best : (o : Option ℤ) → best ≡ o → IsAtMost o cost → Any (λ (x : ℤ). x ≤ℤ cost) s.posted
      from_best None f k = absurd k
      from_best (Some b) f k = any_weaker (λ (x : ℤ). x ≤ℤ b) (λ (x : ℤ). x ≤ℤ cost) s.posted (λ x l. omega (arith, ints, l, k)) (low b f)

      none_in : {P : Bounds → Type 0} → Any P [] → ⊥
      none_in (k, x, l, f, q) = omega arith

  module _ (rest : List Bounds) (top : Bounds) (taken : stack ≡ rest ++ top ∷ []) where
    pub lies_here : Lies order branches s p.phases (long_sub s p) p.in_range top
    lies_here = top_lies order branches s p.phases (long_sub s p) p.in_range state rest top reached taken

    pub top_length : length top ≡ length s.sub
    top_length = lies_here.inside.same_length

    pub long_top : length s.model.vars < length top
    long_top = let e = top_length in let l = long_sub s p in omega (arith, e, l)

    pub top_runs : All (IsKernel (length top)) s.kernels
    top_runs = subst (λ (n : ℕ). All (IsKernel n) s.kernels) (sym top_length) (runs_sub s p)

    module _ (nodes : ℕ) (fits : s.node_limit ≤ 18446744073709551615) (counted : IsCounted s.node_limit nodes count) where
      pub out_of_nodes : (s.node_limit ≢ 0) × (nodes ≡ s.node_limit) → EndsOutOfNodes s nodes found
      out_of_nodes h = record {
        state = state;
        reached = reached;
        out = record { limited = h.0; full = full_here s.node_limit nodes count fits counted h.0 h.1; left = some_left stack rest top taken; sought = λ e. absurd (not_first e) };
        is_count = counted.told;
        is_found = refl;
      }

      module _ (below : (s.node_limit ≡ 0) ⊎ (nodes ≢ s.node_limit)) (lowest : Option ℤ) (falls : MayFall s.posted best lowest) where
        abbrev on : GoesOn s state
        on = record { below = below_limit s.node_limit nodes count fits counted below; sought = λ e. absurd (not_first e) }

        abbrev takes : Takes s state lowest rest top
        takes = record { falls = falls; taken = taken }

        abbrev looked_at : Bounds
        looked_at = cut_by Kind.Least s.model.goal lowest top

        abbrev after_node : List Bounds → List (List ℤ) → State
        after_node after recorded = record { stack = after; best = best_after Kind.Least s.model.goal lowest recorded; count = count + 1; found = found ++ recorded }

        abbrev step : (after : List Bounds) (recorded : List (List ℤ)) → IsNode s.model s.kernels s.round_limit s.lanes looked_at rest after [] recorded → Step s state (after_node after recorded)
        step after recorded h =
            let same : recorded ≡ h.recorded = h.solutions in
            record {
              best = lowest;
              rest = rest;
              top = top;
              back = h.back;
              recorded = recorded;
              takes = takes;
              node = subst (λ (k : Kind). Node s.model s.kernels s.round_limit (cut_by k s.model.goal lowest top) h.back recorded) (sym least)
                  (subst (λ (xs : List (List ℤ)). Node s.model s.kernels s.round_limit looked_at h.back xs) (sym same) h.node);
              unspent = subst (λ (k : Kind). s.lanes ≡ 1 → SpendsSweeps s.kernels s.round_limit (cut_by k s.model.goal lowest top) → ⊥) (sym least) h.unspent;
              stack = h.stack;
              falls = ap (λ (k : Kind). best_after k s.model.goal lowest recorded) (sym least);
              count = refl;
              found = refl;
            }

        pub node_reached : (after : List Bounds) (recorded : List (List ℤ)) → IsNode s.model s.kernels s.round_limit s.lanes looked_at rest after [] recorded →
            Reached s (record { stack = after; best = best_after Kind.Least s.model.goal lowest recorded; count = count + 1; found = found ++ recorded })
        node_reached after recorded h = stepped s state (after_node after recorded) reached on (step after recorded h)

        -- what the node records costs less than the lowest cost
        pub node_below : RecordsBelow → (after : List Bounds) (recorded : List (List ℤ)) → IsNode s.model s.kernels s.round_limit s.lanes looked_at rest after [] recorded →
            (a : List ℤ) (cost : ℤ) → Contains recorded a → cost_of s.model.goal a ≡ Some cost → IsBelow cost lowest
        node_below law after recorded h = law s state (after_node after recorded) least p reached (step after recorded h)

        pub out_of_rounds : (told : ℕ) → IsCounted s.node_limit told (count + 1) → IsGivenUp s.kernels s.round_limit s.lanes looked_at → EndsOutOfRounds s told found
        out_of_rounds told h up = record {
          state = record { stack = stack; best = lowest; count = count + 1; found = found };
          out = record {
            before = state;
            reached = reached;
            goes_on = on;
            rest = rest;
            top = top;
            takes = takes;
            given_up = subst (λ (k : Kind). MayGiveUp s.kernels s.round_limit (cut_by k s.model.goal lowest top)) (sym least) up.given_up;
            spent = λ one. subst (λ (k : Kind). SpendsSweeps s.kernels s.round_limit (cut_by k s.model.goal lowest top)) (sym least) (up.spent one);
            stack = refl;
            count = refl;
            found = refl;
          };
          is_count = h.told;
          is_found = refl;
        }

        pub node_less : (after : List Bounds) (recorded : List (List ℤ)) → IsNode s.model s.kernels s.round_limit s.lanes looked_at rest after [] recorded → sum_by weight after < sum_by weight stack
        node_less after recorded h =
            step_less order branches s p.phases (long_sub s p) p.in_range stack after rest h.back top looked_at h.recorded taken h.stack lies_here
            (cut_inside order branches s p.phases (long_sub s p) p.in_range Kind.Least lowest top) h.node

        -- what is recorded can be posted
        pub recorded_solve : RecordsSolutions → (after : List Bounds) (recorded : List (List ℤ)) → IsNode s.model s.kernels s.round_limit s.lanes looked_at rest after [] recorded → All (SolvesInside s.model s.sub) recorded
        recorded_solve law after recorded h = last_all (SolvesInside s.model s.sub) found recorded (law s (record { stack = after; best = best_after Kind.Least s.model.goal lowest recorded; count = count + 1; found = found ++ recorded }) p (node_reached after recorded h))
          where
            last_all : (P : List ℤ → Type 0) (xs ys : List (List ℤ)) → All P (xs ++ ys) → All P ys
            last_all P [] ys q = q
            last_all P (x ∷ xs) ys q = last_all P xs ys (All-tail P x (xs ++ ys) q)

-- at most one solution is recorded by a node
pub at_most_one : (model : FznModel) (kernels : List Kernel) (round_limit lanes : ℕ) (b : Bounds) (before after : List Bounds) (recorded : List (List ℤ)) → IsNode model kernels round_limit lanes b before after [] recorded → length recorded ≤ 1
at_most_one model kernels round_limit lanes b before after recorded h = subst (λ (xs : List (List ℤ)). length xs ≤ 1) (sym same) (one h.back h.recorded h.node)
  where
    same : recorded ≡ h.recorded
    same = h.solutions

    one : (back : List Bounds) (xs : List (List ℤ)) → Node model kernels round_limit b back xs → length xs ≤ 1
    one back xs (is_dropped _ _ _ _ _ _ _ _ nothing) = subst (λ (ys : List (List ℤ)). length ys ≤ 1) (sym nothing) (omega arith)
    one back xs (is_solved _ _ _ _ _ _ g _ _ _ _ alone) = subst (λ (ys : List (List ℤ)). length ys ≤ 1) (sym alone) (omega arith)
    one back xs (is_parted _ _ _ _ _ _ _ _ _ _ _ _ _ nothing) = subst (λ (ys : List (List ℤ)). length ys ≤ 1) (sym nothing) (omega arith)

-- ---- the search of a seat with all parts

-- a look of a seat that sees nothing of others answers the least cost that was posted
pub least_posted : (seen posted : List ℤ) (o : Option ℤ) → IsLeastCost seen o → IsCostBelow posted o → ((c : ℤ) → Among seen c → Among posted c) → IsLeastCost posted o
least_posted seen posted None least below all = below
least_posted seen posted (Some c) least below all = (all c least.0, below)

-- a list has one least cost
one_least : (costs : List ℤ) (a b : Option ℤ) → IsLeastCost costs a → IsLeastCost costs b → a ≡ b
one_least costs None None h k = refl
one_least costs None (Some d) h k = absurd (subst (λ (xs : List ℤ). Among xs d) h k.0)
one_least costs (Some c) None h k = absurd (subst (λ (xs : List ℤ). Among xs c) k h.0)
one_least costs (Some c) (Some d) h k = let l = h.1 d k.0 in let m = k.1 c h.0 in ap (λ (z : ℤ). Some z) (omega (arith, ints, l, m))

none_posted : (costs : List ℤ) → [] ≡ map some (reverse costs) → costs ≡ []
none_posted [] e = refl
none_posted (c ∷ costs) e = absurd (omega (arith, ap length e, length-map {B = Option ℤ} (reverse (c ∷ costs)) some, length-reverse (c ∷ costs)))

one_cost : (o : Option ℤ) (costs : List ℤ) → o ∷ [] ≡ map some (reverse costs) → (c : ℤ) × ((costs ≡ c ∷ []) × (o ≡ Some c))
one_cost o [] e = absurd (omega (arith, ap length e))
one_cost o (c ∷ []) e = (c, (refl, let f : o ∷ [] ≡ Some c ∷ [] = e in cc))
one_cost o (c ∷ d ∷ costs) e =
    absurd (omega (arith, ap length e, length-map {B = Option ℤ} (reverse (c ∷ d ∷ costs)) some, length-reverse (c ∷ d ∷ costs)))

-- what costs less than the least of a list is the least once it is there
lower_least : (costs : List ℤ) (o : Option ℤ) (c : ℤ) → IsLeastCost costs o → IsBelow c o → IsLeastCost (c ∷ costs) (Some c)
lower_least costs o c h l = (inl refl, under o h l)
  where
    under : (o : Option ℤ) → IsLeastCost costs o → IsBelow c o → (d : ℤ) → Among (c ∷ costs) d → c ≤ℤ d
    under o h l d (inl e) = omega (arith, ints, e)
    under None h l d (inr k) = absurd (subst (λ (xs : List ℤ). Among xs d) h k)
    under (Some b) h l d (inr k) = let m = h.1 d k in omega (arith, ints, l, m)

-- the best cost after a node is the least that is posted then
pub least_after : (goal : Goal) (before after : List ℤ) (lowest : Option ℤ) (recorded : List (List ℤ)) → IsLeastCost before lowest → PostsCosts goal recorded before after →
    length recorded ≤ 1 → ((a : List ℤ) (cost : ℤ) → Contains recorded a → cost_of goal a ≡ Some cost → IsBelow cost lowest) →
    IsLeastCost after (best_after Kind.Least goal lowest recorded)
least_after goal before after lowest [] least p one under =
    subst (λ (xs : List ℤ). IsLeastCost xs lowest) (sym (p.posted ∙ ap (λ (xs : List ℤ). xs ++ before) (none_posted p.costs p.each))) least
least_after goal before after lowest (a ∷ b ∷ others) least p one under = absurd (omega (arith, one))
least_after goal before after lowest (a ∷ []) least p one under =
    let q = one_cost (cost_of goal a) p.costs p.each in
    subst (λ (xs : List ℤ). IsLeastCost xs (cost_of goal a)) (sym (p.posted ∙ ap (λ (xs : List ℤ). xs ++ before) q.1.0))
    (subst (IsLeastCost (q.0 ∷ before)) (sym q.1.1) (lower_least before lowest q.0 least (under a q.0 (0, omega arith, refl) q.1.1)))

-- the least cost that was posted is the best of a state that is reached
pub record IsReachedAlone (s : Search) (posted : List ℤ) (stack : List Bounds) (count : ℕ) (found : List (List ℤ)) : Type 0 where
  pub best : Option ℤ
  pub least : IsLeastCost posted best
  pub reached : Reached s (record { stack = stack; best = best; count = count; found = found })

-- a look posts nothing
pub looked_alone : (s : Search) (posted more : List ℤ) (stack : List Bounds) (count : ℕ) (found : List (List ℤ)) → more ≡ posted →
    IsReachedAlone s posted stack count found → IsReachedAlone s more stack count found
looked_alone s posted more stack count found e h = record {
  best = h.best;
  least = subst (λ (xs : List ℤ). IsLeastCost xs h.best) (sym e) h.least;
  reached = h.reached;
}

module _ (order : InsideOrder) (branches : BranchLaws) (s : Search) (least : s.kind ≡ Kind.Least) (p : IsInsideStart s) (wf : IsWellFormed s.model)
    (posted : List ℤ) (stack : List Bounds) (count : ℕ) (found : List (List ℤ)) (h : IsReachedAlone s posted stack count found) where
  pub done_alone : stack ≡ [] → EndsDone s found
  done_alone e = done_least order branches s least p wf stack h.best count found h.reached e

  module _ (rest : List Bounds) (top : Bounds) (taken : stack ≡ rest ++ top ∷ []) (nodes : ℕ) (fits : s.node_limit ≤ 18446744073709551615)
      (counted : IsCounted s.node_limit nodes count) where
    pub out_of_nodes_alone : (s.node_limit ≢ 0) × (nodes ≡ s.node_limit) → EndsOutOfNodes s nodes found
    out_of_nodes_alone full = out_of_nodes order branches s least p wf stack h.best count found h.reached rest top taken nodes fits counted full

    module _ (below : (s.node_limit ≡ 0) ⊎ (nodes ≢ s.node_limit)) (lowest : Option ℤ) (is : IsLeastCost posted lowest) where
      abbrev falls : MayFall s.posted h.best lowest
      falls = inl (one_least posted lowest h.best is h.least)

      pub out_of_rounds_alone : (told : ℕ) → IsCounted s.node_limit told (count + 1) → IsGivenUp s.kernels s.round_limit s.lanes (cut_by Kind.Least s.model.goal lowest top) → EndsOutOfRounds s told found
      out_of_rounds_alone told k up = out_of_rounds order branches s least p wf stack h.best count found h.reached rest top taken nodes fits counted below lowest falls told k up

      pub node_alone : RecordsBelow → (after : List Bounds) (recorded : List (List ℤ)) (more : List ℤ) →
          IsNode s.model s.kernels s.round_limit s.lanes (cut_by Kind.Least s.model.goal lowest top) rest after [] recorded → PostsCosts s.model.goal recorded posted more →
          IsReachedAlone s more after (count + 1) (found ++ recorded)
      node_alone law after recorded more k posts = record {
        best = best_after Kind.Least s.model.goal lowest recorded;
        least = least_after s.model.goal posted more lowest recorded is posts
            (at_most_one s.model s.kernels s.round_limit s.lanes (cut_by Kind.Least s.model.goal lowest top) rest after recorded k)
            (node_below order branches s least p wf stack h.best count found h.reached rest top taken nodes fits counted below lowest falls law after recorded k);
        reached = node_reached order branches s least p wf stack h.best count found h.reached rest top taken nodes fits counted below lowest falls after recorded k;
      }

-- what is recorded can be posted: its objective is a term of it, and its cost is a number and that of a solution
pub can_post : (model : FznModel) → IsWellFormed model → model.goal ≢ Goal.Satisfy → (sub : Bounds) (a : List ℤ) → SolvesInside model sub a → IsObjectiveIn (length a) model.goal
can_post model f k sub a h =
    let e = within_length a model.vars h.solves.within in objective_in model.vars (length a) model.goal (omega (arith, e)) f.objective k

pub cost_posted : (model : FznModel) → IsWellFormed model → (sub : Bounds) (a : List ℤ) → SolvesInside model sub a → (cost : ℤ) → cost_of model.goal a ≡ Some cost → IsNumber cost × IsCost model cost
cost_posted model f sub a h cost e = (cost_number model f a h.solves cost e, record { assignment = a; solves = h.solves; costs = e })

pub kept_by : (seen more : List ℤ) (o : Option ℤ) → more ≡ with_seen o seen → (x : ℤ) → Among seen x → Among more x
kept_by seen more o e x h = subst (λ (xs : List ℤ). Among xs x) (sym e) (seen_kept o seen x h)

-- ---- what the loop's function is given

module _ (model : FznModel) (program : Program) (node_limit round_limit lanes : ℕ) (sub : Bounds) (means : IsProgramOf model program) (wf : IsWellFormed model)
    (inside : IsInside sub program.start) (range : IsInRange sub) where
  abbrev pub with_costs : Option ℤ → List ℤ → Search
  with_costs known seen = least_of model program node_limit round_limit lanes known seen sub

  abbrev pub premises : (known : Option ℤ) (seen : List ℤ) → IsInsideStart (with_costs known seen)
  premises known seen = record { program = program; means = means; kernels = refl; inside = inside; in_range = range; phases = wf.search; objective = wf.objective }

  -- once the seat has looked, its search has reached the same state
  pub reached_after_look : MorePosted → (seen more : List ℤ) (o : Option ℤ) (state : State) → more ≡ with_seen o seen → Reached (with_costs None seen) state → Reached (with_costs None more) state
  reached_after_look law seen more o state e r =
      law (with_costs None seen) more state (λ x h. contains_of more x (kept_by seen more o e x (among_of seen x h))) r

-- the least cost that was seen is a number
pub lowest_number : (model : FznModel) → IsWellFormed model → (seen : List ℤ) (o : Option ℤ) → ((x : ℤ) → Among seen x → IsCost model x) → IsLeastCost seen o → IfSome o IsNumber
lowest_number model f seen None costs least = tt
lowest_number model f seen (Some c) costs least = let k = costs c least.0 in cost_number model f k.assignment k.solves c k.costs

-- a best cost is a number, and comes with what holds of the objective
pub with_objective : (o : Option ℤ) (P : Type 0) → IfSome o IsNumber → P → IfSome o (λ (cost : ℤ). IsNumber cost × P)
with_objective None P h q = tt
with_objective (Some c) P h q = (h, q)

-- a box has more variables than the model
pub few_vars : (n m k : ℕ) → n < m → k ≡ m → n ≤ k - 1
few_vars n m k h e = omega (arith, h, e)

-- ---- where memory is refused

-- what holds at any rate holds where a call is refused
pub on_any_err : {T E P : Type 0} (r : Result T E) → P → OnErr r P
on_any_err (Ok x) p = tt
on_any_err (Err e) p = p

-- nothing was taken from the stack
pub broken_at_start : (s : Search) (posted : List ℤ) → IsBrokenOff s posted posted
broken_at_start s posted = record {
  state = record { stack = s.sub ∷ []; best = s.known; count = 0; found = [] };
  reached = begun s (record { stack = s.sub ∷ []; best = s.known; count = 0; found = [] }) refl refl refl refl;
  posts = posts_none s.model.goal posted;
}

-- a node is broken off, and so the state is the one before it; the seat has looked, and posted nothing
pub broken_at_node : (s : Search) (state : State) (before middle after : List ℤ) → Reached s state → PostsCosts s.model.goal state.found before middle → after ≡ middle → IsBrokenOff s before after
broken_at_node s state before middle after r p e = record {
  state = state;
  reached = r;
  posts = subst (PostsCosts s.model.goal state.found before) (sym e) p;
}
