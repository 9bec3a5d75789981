-- What is known of the runs for the least cost stays as they grow, and as more costs are seen.
use Rattle.std.proofs.Common.{◌≡◌, ◌≢◌, ℕ, zero, suc, ℤ, ◌≤ℤ◌, ◌<ℤ◌, List, [], ◌∷◌, ◌++◌, map, get_or, append-nil, All, Any, Contains, AllPairs, Option, None, Some, refl, sym, ap, subst, ◌∙◌, ◌⊎◌, inl, inr, arith}
use Rattle.std.proofs.lemmas.Int.{ints}
use Rattle.std.proofs.lemmas.List.{map-append, get_or_default}
use Rattle.std.proofs.lemmas.Grind.{flat_map-append}
use Rattle.std.proofs.lemmas.List.Elements.{Contains-append_left, Contains-append_right, Contains-append_cases}
use Rattle.interval.specs.Boxes.{Bounds}
use Rattle.constraint_model.specs.declared.model.Goal.{Goal}
use Rattle.constraint_model.specs.declared.model.FznModel.{FznModel}
use Rattle.constraint_model.specs.Relations.{cost_of}
use Rattle.best_bound.specs.Lists.{Among, IsLeastCost}
use Rattle.search.specs.declared.ends.Why.{Why}
use Rattle.search.specs.declared.ends.LeastEnd.{LeastEnd}
use Rattle.search.specs.Machine.{Search, State, Takes, MayFall}
use Rattle.search.specs.Ends.{EndsDone, EndsSpent, EndsOutOfNodes, EndsOutOfRounds}
use Rattle.search.specs.Laws.{MorePosted}
use Rattle.search.specs.LeastEnds.{least_of, last_of, EndsLeast, CostAtLeast}
use Rattle.tree_cover.specs.declared.part.Part.{Part}
use Rattle.answer.specs.declared.options.Options.{Options}
use Rattle.answer.specs.Lists.{Assignment}
use Rattle.answer.specs.Places.{HasResult}
use Rattle.answer.specs.Results.{program_of, LeastResult, IsLeastResult, IsResultFrom, recorded_in, IsLeastOf, ComesInTurn, least_collected, CostsAtMost}
use Rattle.answer.specs.Runs.{IsCovered, IsLeastRun, run_of, IsRecordedBy, IsReachedBy, AreLeastRuns}
use Rattle.answer.proofs.ObjectiveLaws.{has_cost}
use Rattle.answer.proofs.RunLists.{AllAmong, among_left, among_right, among_cases, nothing_there, the_one, it_is_there, each_more, result_kept}

-- ---- entries of lists

pub contains_later : {A : Type 0} (x : A) (xs : List A) (y : A) → Contains xs y → Contains (x ∷ xs) y
contains_later x xs y (k, l, e) = (suc k, omega arith, e)

pub contains_among : {A : Type 0} (xs : List A) (x : A) → Contains xs x → Among xs x
contains_among [] x h = absurd (nothing_there x h)
contains_among (z ∷ xs) x (zero, l, e) = inl e
contains_among (z ∷ xs) x (suc k, l, e) = inr (contains_among xs x (k, omega arith, e))

pub among_contains : {A : Type 0} (xs : List A) (x : A) → Among xs x → Contains xs x
among_contains [] x h = absurd h
among_contains (z ∷ xs) x (inl e) = (0, omega arith, e)
among_contains (z ∷ xs) x (inr h) = contains_later z xs x (among_contains xs x h)

any_later : (P : ℤ → Type 0) (x : ℤ) (xs : List ℤ) → Any P xs → Any P (x ∷ xs)
any_later P x xs (k, y, l, e, p) = (suc k, y, omega arith, e, p)

-- some entry of the list, and where it stands in another
any_among : (P : ℤ → Type 0) (xs ys : List ℤ) → AllAmong xs ys → Any P xs → Any P ys
any_among P xs ys all (k, x, l, e, p) =
    let there = among_contains ys x (all x (contains_among xs x (k, l, e))) in (there.0, x, there.1, there.2, p)

first_has : (xs ys : List Assignment) (P : Assignment → Type 0) → Any P xs → Any P (xs ++ ys)
first_has xs ys P (k, a, l, e, h) = let there = Contains-append_left xs ys a (k, l, e) in (there.0, a, there.1, there.2, h)

others_have : (xs ys : List Assignment) (P : Assignment → Type 0) → Any P ys → Any P (xs ++ ys)
others_have xs ys P (k, a, l, e, h) = let there = Contains-append_right xs ys a (k, l, e) in (there.0, a, there.1, there.2, h)

-- ---- more costs are posted

module _ (law : MorePosted) (s : Search) (more : List ℤ) (all : (cost : ℤ) → Contains s.posted cost → Contains more cost) where
  abbrev with_more : Search
  with_more = record s { posted = more }

  more_fall : (best after : Option ℤ) → MayFall s.posted best after → MayFall more best after
  more_fall best after (inl e) = inl e
  more_fall best after (inr h) = inr (h.0, (all h.0 h.1.0, h.1.1))

  more_takes : (state : State) (best : Option ℤ) (rest : List Bounds) (top : Bounds) → Takes s state best rest top → Takes with_more state best rest top
  more_takes state best rest top h = record { falls = more_fall state.best best h.falls; taken = h.taken }

  more_done : (found : List Assignment) → EndsDone s found → EndsDone with_more found
  more_done found h = record { state = h.state; reached = law s more h.state all h.reached; done = h.done; is_found = h.is_found }

  more_nodes : (nodes : ℕ) (found : List Assignment) → EndsOutOfNodes s nodes found → EndsOutOfNodes with_more nodes found
  more_nodes nodes found h = record {
    state = h.state;
    reached = law s more h.state all h.reached;
    out = record { limited = h.out.limited; full = h.out.full; left = h.out.left; sought = h.out.sought };
    is_count = h.is_count;
    is_found = h.is_found;
  }

  more_rounds : (nodes : ℕ) (found : List Assignment) → EndsOutOfRounds s nodes found → EndsOutOfRounds with_more nodes found
  more_rounds nodes found h = record {
    state = h.state;
    out = record {
      before = h.out.before;
      reached = law s more h.out.before all h.out.reached;
      goes_on = record { below = h.out.goes_on.below; sought = h.out.goes_on.sought };
      rest = h.out.rest;
      top = h.out.top;
      takes = more_takes h.out.before h.state.best h.out.rest h.out.top h.out.takes;
      given_up = h.out.given_up;
      spent = h.out.spent;
      stack = h.out.stack;
      count = h.out.count;
      found = h.out.found;
    };
    is_count = h.is_count;
    is_found = h.is_found;
  }

  more_spent : (why : Why) (nodes : ℕ) (found : List Assignment) → EndsSpent s why nodes found → EndsSpent with_more why nodes found
  more_spent Why.Nodes nodes found h = more_nodes nodes found h
  more_spent Why.Rounds nodes found h = more_rounds nodes found h

  more_ends : (found : List Assignment) (end : LeastEnd) → EndsLeast s found end → EndsLeast with_more found end
  more_ends found (LeastEnd.Done answer) h = (more_done found h.0, h.1)
  more_ends found (LeastEnd.Spent nodes why so_far) h = (more_spent why nodes found h.0, h.1)

-- no run was made yet
pub no_least_runs : (model : FznModel) (options : Options) (parts : List Part) (b : Bounds) (seen posted : List ℤ) → posted ≡ [] → AreLeastRuns model options parts b seen posted []
no_least_runs model options parts b seen posted e = record {
  results = [];
  of_runs = refl;
  each = λ number result h. absurd (nothing_there (number, result) h);
  recorded = λ cost h. let none : Among [] cost = subst (λ (xs : List ℤ). Among xs cost) e h in absurd none;
  reached = λ cost h. let none : Among [] cost = subst (λ (xs : List ℤ). Among xs cost) e h in absurd none;
  posts = λ a cost h c. absurd (nothing_there a h);
  in_turn = λ one place run h. absurd cc;
}

-- ---- what was recorded

recorded_both : (runs more : List (ℕ × LeastResult)) → recorded_in (map (λ run. run.1) (runs ++ more)) ≡ recorded_in (map (λ run. run.1) runs) ++ recorded_in (map (λ run. run.1) more)
recorded_both runs more =
    ap recorded_in (map-append (λ (run : ℕ × LeastResult). run.1) runs more)
    ∙ flat_map-append (λ (result : LeastResult). result.0) (map (λ (run : ℕ × LeastResult). run.1) runs) (map (λ (run : ℕ × LeastResult). run.1) more)

recorded_there : (runs : List (ℕ × LeastResult)) (run : ℕ × LeastResult) → Contains runs run → (P : Assignment → Type 0) → Any P run.1.0 → Any P (recorded_in (map (λ r. r.1) runs))
recorded_there [] run there P h = absurd (nothing_there run there)
recorded_there (r ∷ runs) run (zero, l, e) P h = first_has r.1.0 (recorded_in (map (λ s. s.1) runs)) P (subst (λ (s : ℕ × LeastResult). Any P s.1.0) (sym e) h)
recorded_there (r ∷ runs) run (suc k, l, e) P h =
    others_have r.1.0 (recorded_in (map (λ s. s.1) runs)) P (recorded_there runs run (k, omega arith, e) P h)

nothing_in : (xs : List Assignment) → ((a : Assignment) → Contains xs a → ⊥) → xs ≡ []
nothing_in [] none = refl
nothing_in (x ∷ xs) none = absurd (none x (0, omega arith, refl))

module _ (law : MorePosted) (model : FznModel) (options : Options) (parts : List Part) (b : Bounds) where
  more_result : (seen more : List ℤ) → AllAmong seen more → (number : ℕ) (path : Option Bounds) (result : LeastResult) → IsLeastResult model options seen number path result →
      IsLeastResult model options more number path result
  more_result seen more all number None result h = h
  more_result seen more all number (Some sub) result h =
      more_ends law (least_of model (program_of model) options.node_limit options.round_limit options.lanes None seen sub) more
      (λ cost there. among_contains more cost (all cost (contains_among seen cost there))) result.0 result.1 h

  more_at_least : (seen more : List ℤ) → AllAmong seen more → (sub : Bounds) → CostAtLeast model sub seen → CostAtLeast model sub more
  more_at_least seen more all sub h a cost solves costs = any_among (λ c. c ≤ℤ cost) seen more all (h a cost solves costs)

  more_covered : (seen more : List ℤ) → AllAmong seen more → (path : Option Bounds) (end : LeastEnd) → IsCovered model seen path end → IsCovered model more path end
  more_covered seen more all None end h = tt
  more_covered seen more all (Some sub) (LeastEnd.Done answer) h = more_at_least seen more all sub h
  more_covered seen more all (Some sub) (LeastEnd.Spent nodes why so_far) h = tt

  least_result_kept : (seen more : List ℤ) → AllAmong seen more → (number : ℕ) (result : LeastResult) →
      HasResult model parts b (IsLeastRun model options seen) number result → HasResult model parts b (IsLeastRun model options more) number result
  least_result_kept seen more all =
      result_kept model parts b (IsLeastRun model options seen) (IsLeastRun model options more)
      (λ number path result h. (more_result seen more all number path result h.0, more_covered seen more all path result.1 h.1))

  -- what one of some runs recorded, or gives, one of more runs does
  recorded_kept : (results more : List (ℕ × LeastResult)) (cost : ℤ) → ((run : ℕ × LeastResult) → Contains results run → Contains more run) → IsRecordedBy model.goal results cost → IsRecordedBy model.goal more cost
  recorded_kept results more cost all h = record { number = h.number; result = h.result; there = all (h.number, h.result) h.there; recorded = h.recorded }

  reached_kept : (results more : List (ℕ × LeastResult)) (cost : ℤ) → ((run : ℕ × LeastResult) → Contains results run → Contains more run) → IsReachedBy model.goal results cost → IsReachedBy model.goal more cost
  reached_kept results more cost all h = record { number = h.number; result = h.result; there = all (h.number, h.result) h.there; reached = h.reached }

  abbrev with_run : List (ℕ × LeastResult) → ℕ → LeastResult → List (ℕ × LeastResult)
  with_run results number result = results ++ (number, result) ∷ []

  pub least_runs_joined : options.workers ≢ 1 → (seen seen2 posted posted2 : List ℤ) (runs runs2 : List (ℕ × LeastEnd)) → AreLeastRuns model options parts b seen posted runs → AreLeastRuns model options parts b seen2 posted2 runs2 →
      AreLeastRuns model options parts b (seen ++ seen2) (posted ++ posted2) (runs ++ runs2)
  least_runs_joined several seen seen2 posted posted2 runs runs2 h k = record {
    results = h.results ++ k.results;
    of_runs = map-append run_of h.results k.results ∙ ap (λ rs. rs ++ map run_of k.results) h.of_runs ∙ ap (λ rs. runs ++ rs) k.of_runs;
    each = λ number result there. elim (Contains-append_cases h.results k.results (number, result) there) [
      | inl l ↦ least_result_kept seen (seen ++ seen2) (among_left seen seen2) number result (h.each number result l)
      | inr r ↦ least_result_kept seen2 (seen ++ seen2) (among_right seen seen2) number result (k.each number result r)
    ];
    recorded = λ cost there. elim (among_cases posted posted2 cost there) [
      | inl l ↦ recorded_kept h.results (h.results ++ k.results) cost (λ run here. Contains-append_left h.results k.results run here) (h.recorded cost l)
      | inr r ↦ recorded_kept k.results (h.results ++ k.results) cost (λ run here. Contains-append_right h.results k.results run here) (k.recorded cost r)
    ];
    reached = λ cost there. elim (among_cases posted posted2 cost there) [
      | inl l ↦ reached_kept h.results (h.results ++ k.results) cost (λ run here. Contains-append_left h.results k.results run here) (h.reached cost l)
      | inr r ↦ reached_kept k.results (h.results ++ k.results) cost (λ run here. Contains-append_right h.results k.results run here) (k.reached cost r)
    ];
    posts = λ a cost there costs.
        elim (Contains-append_cases (recorded_in (map (λ run. run.1) h.results)) (recorded_in (map (λ run. run.1) k.results)) a
        (subst (λ (xs : List Assignment). Contains xs a) (recorded_both h.results k.results) there)) [
          | inl l ↦ among_left posted posted2 cost (h.posts a cost l costs)
          | inr r ↦ among_right posted posted2 cost (k.posts a cost r costs)
        ];
    in_turn = λ one. absurd (several one);
  }

  -- more was seen
  pub least_runs_seen : (seen more posted posts : List ℤ) (runs : List (ℕ × LeastEnd)) → AllAmong seen more → posts ≡ posted → AreLeastRuns model options parts b seen posted runs →
      AreLeastRuns model options parts b more posts runs
  least_runs_seen seen more posted posts runs all e h = record {
    results = h.results;
    of_runs = h.of_runs;
    each = λ number result there. least_result_kept seen more all number result (h.each number result there);
    recorded = λ cost there. h.recorded cost (subst (λ (xs : List ℤ). Among xs cost) e there);
    reached = λ cost there. h.reached cost (subst (λ (xs : List ℤ). Among xs cost) e there);
    posts = λ a cost there costs. subst (λ (xs : List ℤ). Among xs cost) (sym e) (h.posts a cost there costs);
    in_turn = h.in_turn;
  }

  -- the least cost that was posted is the least that was recorded
  known_least : model.goal ≢ Goal.Satisfy → (seen posted : List ℤ) (runs : List (ℕ × LeastEnd)) (h : AreLeastRuns model options parts b seen posted runs) (best : Option ℤ) → IsLeastCost posted best →
      IsLeastOf model.goal (recorded_in (map (λ run. run.1) h.results)) best
  known_least objective seen posted runs h None empty = nothing_in (recorded_in (map (λ run. run.1) h.results)) none
    where
      none : (a : Assignment) → Contains (recorded_in (map (λ run. run.1) h.results)) a → ⊥
      none a there =
          let cost = has_cost model.goal a objective in
          let posts : Among [] cost.0 = subst (λ (xs : List ℤ). Among xs cost.0) empty (h.posts a cost.0 there cost.1) in
          posts
  known_least objective seen posted runs h (Some cost) least = (some, each)
    where
      some : Any (λ a. cost_of model.goal a ≡ Some cost) (recorded_in (map (λ run. run.1) h.results))
      some =
          let by = h.recorded cost least.0 in
          recorded_there h.results (by.number, by.result) by.there (λ a. cost_of model.goal a ≡ Some cost) by.recorded

      each : All (λ a. (other : ℤ) → cost_of model.goal a ≡ Some other → cost ≤ℤ other) (recorded_in (map (λ run. run.1) h.results))
      each = λ k d l other costs.
          let list = recorded_in (map (λ run. run.1) h.results) in
          least.1 other (h.posts (get_or list k d) other (k, l, get_or_default list k (get_or list k d) d l) costs)

  -- of one worker, the run begins with the least cost that was posted
  abbrev pub BeginsWithLeast : List ℤ → ℕ → LeastResult → Type 0
  BeginsWithLeast posted number result = (known : Option ℤ) × IsLeastCost posted known × HasResult model parts b (IsResultFrom model options known) number result

  pub least_run_more : model.goal ≢ Goal.Satisfy → (seen after posted posts : List ℤ) (runs : List (ℕ × LeastEnd)) (number : ℕ) (result : LeastResult) → AreLeastRuns model options parts b seen posted runs →
      AllAmong seen after → AllAmong posted posts → HasResult model parts b (IsLeastRun model options after) number result →
      ((cost : ℤ) → Among posts cost → Among posted cost ⊎ (Any (λ a. cost_of model.goal a ≡ Some cost) result.0 × Any (CostsAtMost model.goal cost) (least_collected result.1))) →
      ((a : Assignment) (cost : ℤ) → Contains result.0 a → cost_of model.goal a ≡ Some cost → Among posts cost) → (options.workers ≡ 1 → BeginsWithLeast posted number result) →
      AreLeastRuns model options parts b after posts (runs ++ (number, result.1) ∷ [])
  least_run_more objective seen after posted posts runs number result h all kept own by own_posts begins = record {
    results = with_run h.results number result;
    of_runs = map-append run_of h.results ((number, result) ∷ []) ∙ ap (λ rs. rs ++ (number, result.1) ∷ []) h.of_runs;
    each = λ other result2 there. elim (Contains-append_cases h.results ((number, result) ∷ []) (other, result2) there) [
      | inl l ↦ least_result_kept seen after all other result2 (h.each other result2 l)
      | inr r ↦ let same : (number, result) ≡ (other, result2) = the_one (number, result) (other, result2) r in
          subst (λ (run : ℕ × LeastResult). HasResult model parts b (IsLeastRun model options after) run.0 run.1) same own
    ];
    recorded = λ cost there. elim (by cost there) [
      | inl l ↦ recorded_kept h.results (with_run h.results number result) cost (λ run here. Contains-append_left h.results ((number, result) ∷ []) run here) (h.recorded cost l)
      | inr k ↦ record { number = number; result = result; there = it_is_there h.results (number, result); recorded = k.0 }
    ];
    reached = λ cost there. elim (by cost there) [
      | inl l ↦ reached_kept h.results (with_run h.results number result) cost (λ run here. Contains-append_left h.results ((number, result) ∷ []) run here) (h.reached cost l)
      | inr k ↦ record { number = number; result = result; there = it_is_there h.results (number, result); reached = k.1 }
    ];
    posts = λ a cost there costs.
        elim (Contains-append_cases (recorded_in (map (λ run. run.1) h.results)) (result.0 ++ []) a (subst (λ (xs : List Assignment). Contains xs a) (recorded_both h.results ((number, result) ∷ [])) there)) [
          | inl l ↦ kept cost (h.posts a cost l costs)
          | inr r ↦ own_posts a cost (subst (λ (xs : List Assignment). Contains xs a) (append-nil result.0) r) costs
        ];
    in_turn = λ one.
        each_more (λ (earlier : List (ℕ × LeastResult)) (run : ℕ × LeastResult). ComesInTurn model options parts b (map (λ r. r.1) earlier) run.0 run.1) h.results (number, result) (h.in_turn one) (in_its_turn (begins one));
  }
    where
      in_its_turn : BeginsWithLeast posted number result → ComesInTurn model options parts b (map (λ r. r.1) h.results) number result
      in_its_turn k = record { known = k.0; is_known = known_least objective seen posted runs h k.0 k.1; has_result = k.2 }

-- ---- what a run posts

module _ (goal : Goal) where
  -- the costs fall
  abbrev pub Falls : List Assignment → Type 0
  Falls found = AllPairs (λ a b. (c d : ℤ) → cost_of goal a ≡ Some c → cost_of goal b ≡ Some d → d <ℤ c) found

  falls_tail : (x : Assignment) (xs : List Assignment) → Falls (x ∷ xs) → Falls xs
  falls_tail x xs h i j d l k = h (suc i) (suc j) d (omega arith) (omega arith)

  falls_head : (x y : Assignment) (xs : List Assignment) → Falls (x ∷ xs) → Contains xs y → (c d : ℤ) → cost_of goal x ≡ Some c → cost_of goal y ≡ Some d → d <ℤ c
  falls_head x y xs h (k, l, e) c d p q = h 0 (suc k) y (omega arith) (omega arith) c d p (ap (cost_of goal) e ∙ q)

  -- the last costs as much as each at most
  pub last_least : (found : List Assignment) (cost : ℤ) → ((a : Assignment) → (c : ℤ) × (cost_of goal a ≡ Some c)) → Falls found → (a : Assignment) → Contains found a → cost_of goal a ≡ Some cost →
      (z : Assignment) × (last_of found ≡ Some z) × Contains found z × CostsAtMost goal cost z
  last_least [] cost costs falls a there e = absurd (nothing_there a there)
  last_least (x ∷ []) cost costs falls a there e =
      let same : x ≡ a = the_one x a there in
      (x, refl, (0, omega arith, refl), (cost, ap (cost_of goal) same ∙ e, omega (arith, ints)))
  last_least (x ∷ y ∷ ys) cost costs falls a (suc k, l, h) e =
      let z = last_least (y ∷ ys) cost costs (falls_tail x (y ∷ ys) falls) a (k, omega arith, h) e in
      (z.0, z.1, contains_later x (y ∷ ys) z.0 z.2, z.3)
  last_least (x ∷ y ∷ ys) cost costs falls a (zero, l, h) e =
      let c = costs y in
      let z = last_least (y ∷ ys) c.0 costs (falls_tail x (y ∷ ys) falls) y (0, omega arith, refl) c.1 in
      let lower = falls_head x y (y ∷ ys) falls (0, omega arith, refl) cost c.0 (ap (cost_of goal) h ∙ e) c.1 in
      (z.0, z.1, contains_later x (y ∷ ys) z.0 z.2, (z.3.0, z.3.1, at_most z.3.0 c.0 cost z.3.2 lower))
    where
      at_most : (p q r : ℤ) → p ≤ℤ q → q <ℤ r → p ≤ℤ r
      at_most p q r h k = omega (arith, ints)

  -- the cost of each entry of the one list is in the other
  pub entry_costs : (found : List Assignment) (costs : List ℤ) → map (cost_of goal) found ≡ map (λ (c : ℤ). Some c) costs → (a : Assignment) (cost : ℤ) → Contains found a → cost_of goal a ≡ Some cost → Contains costs cost
  entry_costs [] costs e a cost there h = absurd (nothing_there a there)
  entry_costs (x ∷ xs) [] e a cost there h = absurd cc
  entry_costs (x ∷ xs) (c ∷ cs) e a cost (zero, l, same) h =
      let first : cost_of goal x ≡ Some c = cc in
      let own : Some c ≡ Some cost = sym first ∙ ap (cost_of goal) same ∙ h in
      (0, omega arith, (let is : c ≡ cost = cc in is))
  entry_costs (x ∷ xs) (c ∷ cs) e a cost (suc k, l, same) h =
      let rest : map (cost_of goal) xs ≡ map (λ (z : ℤ). Some z) cs = cc in
      contains_later c cs cost (entry_costs xs cs rest a cost (k, omega arith, same) h)

  -- each cost of the one list is that of an entry of the other
  pub cost_there : (found : List Assignment) (costs : List ℤ) → map (cost_of goal) found ≡ map (λ (c : ℤ). Some c) costs → (cost : ℤ) → Contains costs cost → (a : Assignment) × Contains found a × (cost_of goal a ≡ Some cost)
  cost_there [] [] e cost there = absurd (nothing_there cost there)
  cost_there [] (c ∷ cs) e cost there = absurd cc
  cost_there (a ∷ xs) [] e cost there = absurd cc
  cost_there (a ∷ xs) (c ∷ cs) e cost (zero, l, h) =
      let same : cost_of goal a ≡ Some c = cc in (a, (0, omega arith, refl), same ∙ ap (λ (z : ℤ). Some z) h)
  cost_there (a ∷ xs) (c ∷ cs) e cost (suc k, l, h) =
      let rest : map (cost_of goal) xs ≡ map (λ (z : ℤ). Some z) cs = cc in
      let there = cost_there xs cs rest cost (k, omega arith, h) in
      (there.0, contains_later a xs there.0 there.1, there.2)
