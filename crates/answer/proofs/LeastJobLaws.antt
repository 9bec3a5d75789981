-- One run for the least cost.
use mathlib.Core.Logic.{dite}
use native.Mathlib.Decide.{ℕ_discrete}
use Rattle.std.specs.Prelude.{IfSome}
use Rattle.std.proofs.Common.{◌≡◌, ◌≢◌, ℕ, ℤ, ◌-◌, ◌<◌, List, [], ◌∷◌, ◌++◌, length, reverse, get_or, Any, Contains, Option, None, Some, refl, sym, ap, subst, ◌∙◌, ◌⊎◌, inl, inr, arith}
use Rattle.std.proofs.lemmas.List.{get_or-reverse, length-reverse}
use Rattle.interval.specs.Boxes.{Bounds, IsInside, IsInRange}
use Rattle.constraint_model.specs.declared.model.Goal.{Goal}
use Rattle.constraint_model.specs.declared.model.FznModel.{FznModel}
use Rattle.constraint_model.specs.Relations.{cost_of}
use Rattle.best_bound.specs.Lists.{Among, IsLeastCost}
use Rattle.search.specs.declared.kind.Kind.{Kind}
use Rattle.search.specs.declared.ends.Why.{Why}
use Rattle.search.specs.declared.ends.LeastEnd.{LeastEnd}
use Rattle.search.specs.Machine.{Search, State, Reached}
use Rattle.search.specs.Ends.{EndsSpent}
use Rattle.search.specs.Laws.{IsInsideStart, MorePosted, CostsFall}
use Rattle.search.specs.LeastEnds.{least_of, least_in, least_alone, last_of, PostsCosts, EndsLeast, IsLeastEnd, CostAtLeast, OnDone}
use Rattle.answer.specs.declared.plan.Plan.{Plan}
use Rattle.answer.specs.Lists.{Assignment}
use Rattle.answer.specs.Places.{PartLeadsTo}
use Rattle.answer.specs.Plans.{IsPlan, model_of, kernels_in}
use Rattle.answer.specs.Results.{program_of, listed, least_collected, CostsAtMost}
use Rattle.answer.specs.Runs.{AreLeastRuns}
use Rattle.answer.proofs.RunLists.{AllAmong, among_left, among_right, among_cases}
use Rattle.answer.proofs.LeastRunLists.{among_contains, contains_among, least_run_more, Falls, last_least, cost_there, entry_costs}
use Rattle.answer.proofs.KnownLaws.{ends_too}
use Rattle.answer.proofs.ListedLaws.{is_program}
use Rattle.answer.proofs.ObjectiveLaws.{has_cost}
use Rattle.answer.proofs.JobLaws.{plan_leads, plan_search}

turned_round : (xs : List ℤ) (x : ℤ) → Contains xs x → Contains (reverse xs) x
turned_round xs x (k, l, e) =
    let j = length xs - 1 - k in
    let below : j < length xs = omega arith in
    let same : length xs - 1 - j ≡ k = omega arith in
    (j, (let n = length-reverse xs in omega arith), get_or-reverse xs j x below ∙ ap (λ (i : ℕ). get_or xs i x) same ∙ e)

turned_back : (xs : List ℤ) (x : ℤ) → Contains (reverse xs) x → Contains xs x
turned_back xs x (k, l, e) =
    let j = length xs - 1 - k in
    let n = length-reverse xs in
    let below : k < length xs = omega (arith, l, n) in
    (j, omega (arith, below), sym (get_or-reverse xs k x below) ∙ e)

some_there : (xs : List Assignment) (a : Assignment) (P : Assignment → Type 0) → Contains xs a → P a → Any P xs
some_there xs a P (k, l, e) h = (k, a, l, e, h)

module _ (fall : CostsFall) (s : Search) (inside : IsInsideStart s) (least : s.kind ≡ Kind.Least) where
  fall_in : (state : State) (found : List Assignment) → Reached s state → found ≡ state.found → Falls s.model.goal found
  fall_in state found reached e = subst (λ (xs : List Assignment). Falls s.model.goal xs) (sym e) (fall s state least inside reached)

  fall_spent : (why : Why) (nodes : ℕ) (found : List Assignment) → EndsSpent s why nodes found → Falls s.model.goal found
  fall_spent Why.Nodes nodes found h = fall_in h.state found h.reached h.is_found
  fall_spent Why.Rounds nodes found h = fall_in h.out.before found h.out.reached (h.is_found ∙ h.out.found)

  pub fall_ends : (found : List Assignment) (end : LeastEnd) → EndsLeast s found end → Falls s.model.goal found
  fall_ends found (LeastEnd.Done answer) h = fall_in h.0.state found h.0.reached h.0.is_found
  fall_ends found (LeastEnd.Spent nodes why so_far) h = fall_spent why nodes found h.0

  -- the last solution is the one that the end has
  last_given : (found : List Assignment) (end : LeastEnd) (z : Assignment) → EndsLeast s found end → last_of found ≡ Some z → Contains (least_collected end) z
  last_given found (LeastEnd.Done answer) z h e = subst (λ (o : Option Assignment). Contains (listed o) z) (sym (h.1 ∙ e)) (0, omega arith, refl)
  last_given found (LeastEnd.Spent nodes why so_far) z h e = subst (λ (o : Option Assignment). Contains (listed o) z) (sym (h.1 ∙ e)) (0, omega arith, refl)

  -- each cost that the run posts is that of a solution that it recorded, and one that the solution which it gives reaches
  pub run_reaches : (objective : s.model.goal ≢ Goal.Satisfy) (before after : List ℤ) (end : LeastEnd) (h : IsLeastEnd s before after end) → (cost : ℤ) → Among after cost →
      Among before cost ⊎ (Any (λ a. cost_of s.model.goal a ≡ Some cost) h.found × Any (CostsAtMost s.model.goal cost) (least_collected end))
  run_reaches objective before after end h cost there =
      elim (among_cases h.posts.costs before cost (subst (λ (xs : List ℤ). Among xs cost) h.posts.posted there)) [
        | inr r ↦ inl r
        | inl l ↦
            let of_cost = cost_there s.model.goal h.found (reverse h.posts.costs) h.posts.each cost (turned_round h.posts.costs cost (among_contains h.posts.costs cost l)) in
            let z = last_least s.model.goal h.found cost (λ a. has_cost s.model.goal a objective) (fall_ends h.found end h.ends) of_cost.0 of_cost.1 of_cost.2 in
            inr (some_there h.found of_cost.0 (λ a. cost_of s.model.goal a ≡ Some cost) of_cost.1 of_cost.2, some_there (least_collected end) z.0 (CostsAtMost s.model.goal cost) (last_given h.found end z.0 h.ends z.1) z.3)
      ]

module _ (more : MorePosted) (fall : CostsFall) {L : Type 0} (plan : Plan L) (is : IsPlan plan) (objective : (model_of plan).goal ≢ Goal.Satisfy) where
  abbrev model : FznModel
  model = model_of plan

  abbrev pub search : Option ℤ → List ℤ → Bounds → Search
  search known posted sub = least_of model (program_of model) plan.options.node_limit plan.options.round_limit plan.options.lanes known posted sub

  pub inside_start : (known : Option ℤ) (posted : List ℤ) (sub : Bounds) → IsInside sub plan.run.now.program.now.start → IsInRange sub → IsInsideStart (search known posted sub)
  inside_start known posted sub i range = record {
    program = program_of model;
    means = is_program model plan.run.now.program.now is.run.program;
    kernels = refl;
    inside = subst (IsInside sub) is.run.program.start i;
    in_range = range;
    phases = is.run.model.search;
    objective = is.run.model.objective;
  }

  -- what a run records is posted, and nothing that was posted before is lost
  kept_posts : (found : List Assignment) (before after : List ℤ) → PostsCosts model.goal found before after → AllAmong before after
  kept_posts found before after h x there = subst (λ (xs : List ℤ). Among xs x) (sym h.posted) (among_right h.costs before x there)

  own_posts : (found : List Assignment) (before after : List ℤ) → PostsCosts model.goal found before after → (a : Assignment) (cost : ℤ) → Contains found a → cost_of model.goal a ≡ Some cost → Among after cost
  own_posts found before after h a cost there costs =
      subst (λ (xs : List ℤ). Among xs cost) (sym h.posted)
      (among_left h.costs before cost (contains_among h.costs cost (turned_back h.costs cost (entry_costs model.goal found (reverse h.costs) h.each a cost there costs))))

  -- the run of a subproblem, by what the search of its box that may use these posted costs ended with
  run_made : (seen after posted posts : List ℤ) (number : ℕ) (sub : Bounds) (end : LeastEnd) (runs : List (ℕ × LeastEnd)) →
      PartLeadsTo model (kernels_in plan) plan.parts.now plan.start.now number (Some sub) → IsInside sub plan.run.now.program.now.start → IsInRange sub → AllAmong seen after →
      OnDone end (CostAtLeast model sub after) → (ends : IsLeastEnd (search None after sub) posted posts end) →
      (plan.options.workers ≡ 1 → (known : Option ℤ) × IsLeastCost posted known × EndsLeast (search known [] sub) ends.found end) → AreLeastRuns model plan.options plan.parts.now plan.start.now seen posted runs →
      AreLeastRuns model plan.options plan.parts.now plan.start.now after posts (runs ++ (number, end) ∷ [])
  run_made seen after posted posts number sub end runs h i range all covered ends begins k =
      least_run_more more model plan.options plan.parts.now plan.start.now objective seen after posted posts runs number (ends.found, end) k all (kept_posts ends.found posted posts ends.posts)
      (record { path = Some sub; leads = plan_leads plan is number (Some sub) h; is_result = (ends.ends, covered) })
      (run_reaches fall (search None after sub) (inside_start None after sub i range) refl objective posted posts end ends)
      (own_posts ends.found posted posts ends.posts)
      (λ one.
      let from = begins one in
      (from.0, from.1, record { path = Some sub; leads = plan_leads plan is number (Some sub) h; is_result = from.2 }))

  -- with one worker no cost is posted by others: the search begins with the least that was posted before
  run_alone : (seen after posted posts : List ℤ) (number : ℕ) (sub : Bounds) (end : LeastEnd) (runs : List (ℕ × LeastEnd)) (best : Option ℤ) →
      PartLeadsTo model (kernels_in plan) plan.parts.now plan.start.now number (Some sub) → IsInside sub plan.run.now.program.now.start → IsInRange sub → AllAmong seen after →
      OnDone end (CostAtLeast model sub after) → IsLeastCost posted best → IfSome best (λ cost. Among seen cost) → IsLeastEnd (search best [] sub) posted posts end →
      AreLeastRuns model plan.options plan.parts.now plan.start.now seen posted runs → AreLeastRuns model plan.options plan.parts.now plan.start.now after posts (runs ++ (number, end) ∷ [])
  run_alone seen after posted posts number sub end runs best h i range all covered least looked ends k =
      run_made seen after posted posts number sub end runs h i range all covered
      (record { found = ends.found; ends = ends_too (search best [] sub) refl after (λ cost e. there cost best e looked) ends.found end ends.ends; posts = ends.posts })
      (λ one. (best, least, ends.ends)) k
    where
      there : (cost : ℤ) (o : Option ℤ) → o ≡ Some cost → IfSome o (λ c. Among seen c) → Contains after cost
      there cost o e among = among_contains after cost (all cost (subst (λ (p : Option ℤ). IfSome p (λ c. Among seen c)) e among))

  pub least_run_some : (seen after posted posts : List ℤ) (number : ℕ) (sub : Bounds) (end : LeastEnd) (runs : List (ℕ × LeastEnd)) (best : Option ℤ) →
      PartLeadsTo model (kernels_in plan) plan.parts.now plan.start.now number (Some sub) → IsInside sub plan.run.now.program.now.start → IsInRange sub → AllAmong seen after →
      OnDone end (CostAtLeast model sub after) → IfSome best (λ cost. Among seen cost) → (plan.options.workers ≡ 1 → IsLeastCost posted best) →
      IsLeastEnd (least_in plan.run.now after sub) posted posts end → (plan.options.workers ≡ 1 → IsLeastCost posted best → IsLeastEnd (least_alone plan.run.now best sub) posted posts end) →
      AreLeastRuns model plan.options plan.parts.now plan.start.now seen posted runs → AreLeastRuns model plan.options plan.parts.now plan.start.now after posts (runs ++ (number, end) ∷ [])
  least_run_some seen after posted posts number sub end runs best h i range all covered looked least is_end alone k = dite (ℕ_discrete plan.options.workers 1)
      (λ (one : plan.options.workers ≡ 1).
      run_alone seen after posted posts number sub end runs best h i range all covered (least one) looked
      (subst (λ (s : Search). IsLeastEnd s posted posts end) (plan_search plan is Kind.Least best [] sub) (alone one (least one))) k)
      (λ (several : plan.options.workers ≢ 1).
      run_made seen after posted posts number sub end runs h i range all covered (subst (λ (s : Search). IsLeastEnd s posted posts end) (plan_search plan is Kind.Least None after sub) is_end)
      (λ one. absurd (several one)) k)
