-- A part whose box the best cost beats: its search drops the box, and is at its end.
use Rattle.std.proofs.Common.{◌≡◌, ◌≢◌, ℕ, zero, suc, ◌<◌, ℤ, pos, neg_ℤ, ◌-ℤ◌, ◌≤ℤ◌, ◌<ℤ◌, List, [], ◌∷◌, ◌++◌, length, Contains, Option, None, Some, refl, sym, subst, ◌⊎◌, inl, inr, arith}
use Rattle.std.proofs.lemmas.Int.{ints}
use Rattle.std.proofs.lemmas.List.{length-set}
use Rattle.std.specs.Prelude.{slice_index_or, IfSome, MatchOption}
use Rattle.std.specs.Int.{int_min, int_max}
use Rattle.interval.specs.Boxes.{Bounds, low_of, high_of, IsInside, IsInRange, IsCrossed, InsideOrder}
use Rattle.guarded_tell.specs.declared.kernel.Kernel.{Kernel}
use Rattle.constraint_model.specs.declared.model.Term.{Term}
use Rattle.constraint_model.specs.declared.model.VarDecl.{VarDecl}
use Rattle.constraint_model.specs.declared.model.Goal.{Goal}
use Rattle.constraint_model.specs.declared.model.FznModel.{FznModel}
use Rattle.constraint_model.specs.WellFormed.{IsGoalOf}
use Rattle.decompose.specs.Kernels.{kernels_of}
use Rattle.best_bound.specs.Lists.{Among, with_seen, IsLeastCost, IsCostBelow}
use Rattle.subproblems.specs.Cuts.{CanBeCut, CutLaws}
use Rattle.subproblems.specs.Paths.{LeadsTo, PathLaws}
use Rattle.subproblem_walk.specs.Beaten.{CostsFrom, LeadsToBeaten, LeadsBelow}
use Rattle.search.specs.declared.kind.Kind.{Kind}
use Rattle.search.specs.declared.ends.LeastEnd.{LeastEnd}
use Rattle.search.specs.Costs.{up_to, from_on, at_most}
use Rattle.search.specs.Machine.{Search, State, MayFall, Step, Reached, cut_by, best_after}
use Rattle.search.specs.Machine.Node.{is_dropped}
use Rattle.search.specs.Machine.Reached.{begun, stepped}
use Rattle.search.specs.Ends.{EndsDone}
use Rattle.search.specs.Laws.{IsInsideStart, MorePosted, CostsFall, FindsLeast}
use Rattle.search.specs.LeastEnds.{CostAtLeast}
use Rattle.tree_cover.specs.declared.part.Part.{Part}
use Rattle.answer.specs.declared.plan.Plan.{Plan}
use Rattle.answer.specs.Places.{StandsAt, PartLeadsTo, PartLeadsBelow, HasResult}
use Rattle.answer.specs.Plans.{IsPlan, model_of, kernels_in}
use Rattle.answer.specs.Results.{IsResultFrom}
use Rattle.answer.specs.Runs.{IsLeastRun, AreLeastRuns}
use Rattle.answer.proofs.ObjectiveLaws.{low_put, high_put, least_le_right, greatest_le_right}
use Rattle.answer.proofs.SweepLaws.{crossed_fails, crossed_spends_nothing}
use Rattle.answer.proofs.ListedLaws.{is_program, can_be_cut}
use Rattle.answer.proofs.PartPaths.{same_part, inside_at, can_at, every_at}
use Rattle.answer.proofs.RunLists.{AllAmong, nothing_there}
use Rattle.answer.proofs.LeastRunLists.{among_contains, least_run_more}
use Rattle.answer.proofs.LeastJobLaws.{search, inside_start}

pub where_some : {A : Type 0} {P : Type 0} (o : Option A) → P → IfSome o (λ x. P)
where_some None p = tt
where_some (Some x) p = p

-- ---- what costs less than the best, of a box that is beaten

itself : (z : ℤ) → z ≤ℤ z
itself z = omega (arith, ints)

crossed_up : (cost low high cut : ℤ) → cost ≤ℤ low → high ≡ cut → cut ≤ℤ (cost -ℤ pos 1) → high <ℤ low
crossed_up cost low high cut a e d = omega (arith, ints)

crossed_down : (cost low high cut : ℤ) → cost ≤ℤ neg_ℤ high → low ≡ cut → neg_ℤ (cost -ℤ pos 1) ≤ℤ cut → high <ℤ low
crossed_down cost low high cut a e d = omega (arith, ints)

-- there some variable has no number left: the objective
cut_crossed : (vars : List VarDecl) (cost : ℤ) (b : Bounds) → length vars < length b → (goal : Goal) → IsGoalOf vars goal → CostsFrom goal cost b → IsCrossed (at_most goal (cost -ℤ pos 1) b)
cut_crossed vars cost b long Goal.Satisfy is beaten = absurd beaten
cut_crossed vars cost b long (Goal.Minimize (Term.Number n)) is beaten = absurd beaten
cut_crossed vars cost b long (Goal.Maximize (Term.Number n)) is beaten = absurd beaten
cut_crossed vars cost b long (Goal.Minimize (Term.Var v)) is beaten =
    let there = is.inside in
    let k : suc v < length b = omega (arith, there, long) in
    let most = cost -ℤ pos 1 in
    let same = low_put b (suc v) (low_of b (suc v)) (int_min (high_of b (suc v)) most) k in (
      suc v,
      (let e = length-set b (suc v) (low_of b (suc v), int_min (high_of b (suc v)) most) in omega (arith, e, k)),
      crossed_up cost (low_of (up_to b (suc v) most) (suc v)) (high_of (up_to b (suc v) most) (suc v)) (int_min (high_of b (suc v)) most)
          (subst (λ (z : ℤ). cost ≤ℤ z) (sym same) beaten) (high_put b (suc v) (low_of b (suc v)) (int_min (high_of b (suc v)) most) k) (least_le_right (high_of b (suc v)) most),
    )
cut_crossed vars cost b long (Goal.Maximize (Term.Var v)) is beaten =
    let there = is.inside in
    let k : suc v < length b = omega (arith, there, long) in
    let least = neg_ℤ (cost -ℤ pos 1) in
    let same = high_put b (suc v) (int_max (low_of b (suc v)) least) (high_of b (suc v)) k in (
      suc v,
      (let e = length-set b (suc v) (int_max (low_of b (suc v)) least, high_of b (suc v)) in omega (arith, e, k)),
      crossed_down cost (low_of (from_on b (suc v) least) (suc v)) (high_of (from_on b (suc v) least) (suc v)) (int_max (low_of b (suc v)) least)
          (subst (λ (z : ℤ). cost ≤ℤ neg_ℤ z) (sym same) beaten) (low_put b (suc v) (int_max (low_of b (suc v)) least) (high_of b (suc v)) k) (greatest_le_right (low_of b (suc v)) least),
    )

-- ---- its search

none_or_some : (limit : ℕ) → (limit ≡ 0) ⊎ (0 < limit)
none_or_some zero = inl refl
none_or_some (suc n) = inr (omega arith)

module _ (s : Search) (least : s.kind ≡ Kind.Least) (cost : ℤ) (falls : MayFall s.posted s.known (Some cost)) (crossed : IsCrossed (at_most s.model.goal (cost -ℤ pos 1) s.sub)) where
  abbrev first_state : State
  first_state = record { stack = s.sub ∷ []; best = s.known; count = 0; found = [] }

  abbrev last_state : State
  last_state = record { stack = []; best = Some cost; count = 1; found = [] }

  cut_is_crossed : IsCrossed (cut_by s.kind s.model.goal (Some cost) s.sub)
  cut_is_crossed = subst (λ (k : Kind). IsCrossed (cut_by k s.model.goal (Some cost) s.sub)) (sym least) crossed

  one_step : Step s first_state last_state
  one_step = record {
    best = Some cost;
    rest = [];
    top = s.sub;
    back = [];
    recorded = [];
    takes = record { falls = falls; taken = refl };
    node = is_dropped s.model s.kernels s.round_limit (cut_by s.kind s.model.goal (Some cost) s.sub) [] [] (crossed_fails (cut_by s.kind s.model.goal (Some cost) s.sub) s.kernels cut_is_crossed) refl refl;
    unspent = λ one. crossed_spends_nothing s.kernels s.round_limit (cut_by s.kind s.model.goal (Some cost) s.sub) cut_is_crossed;
    stack = refl;
    falls = subst (λ (k : Kind). ◌≡◌ {A = Option ℤ} (Some cost) (best_after k s.model.goal (Some cost) [])) (sym least) refl;
    count = refl;
    found = refl;
  }

  -- one node, which drops the box
  pub dropped : Reached s last_state
  dropped = stepped s first_state last_state (begun s first_state refl refl refl refl) (record { below = none_or_some s.node_limit; sought = λ first. refl }) one_step

  pub drop_ends : EndsDone s []
  drop_ends = record { state = last_state; reached = dropped; done = inl refl; is_found = refl }

  pub drop_covers : FindsLeast → IsInsideStart s → Contains s.posted cost → CostAtLeast s.model s.sub s.posted
  drop_covers law inside posted a other solves costs = elim ((law s last_state least inside dropped).covers a other solves costs) [
    | inl less ↦ (posted.0, cost, posted.1, posted.2, less)
    | inr any ↦ let l = any.2 in absurd (omega arith)
  ]

-- ---- its run

module _ (more : MorePosted) (fall : CostsFall) (finds : FindsLeast) (order : InsideOrder) (paths : PathLaws) (cuts : CutLaws) {L : Type 0} (plan : Plan L) (is : IsPlan plan)
    (objective : (model_of plan).goal ≢ Goal.Satisfy) (range : IsInRange plan.start.now) where
  abbrev model : FznModel
  model = model_of plan

  can : CanBeCut model (kernels_of model) plan.start.now
  can = can_be_cut order model is.run.model.search (is_program model plan.run.now.program.now is.run.program) plan.start.now
      (subst (λ (b : Bounds). IsInside plan.start.now b) is.run.program.start is.inside) range

  -- the number has no solution that costs less: so it is where the best cost is seen, and where it is known
  record HasNothing (seen : List ℤ) (number : ℕ) (best : Option ℤ) : Type 0 where
    of_seen : HasResult model plan.parts.now plan.start.now (IsLeastRun model plan.options seen) number ([], LeastEnd.Done None)
    of_known : HasResult model plan.parts.now plan.start.now (IsResultFrom model plan.options best) number ([], LeastEnd.Done None)

  leads_nowhere : (seen : List ℤ) (number : ℕ) (best : Option ℤ) → PartLeadsTo model (kernels_of model) plan.parts.now plan.start.now number None → HasNothing seen number best
  leads_nowhere seen number best leads = record {
    of_seen = record { path = None; leads = leads; is_result = (refl, tt) };
    of_known = record { path = None; leads = leads; is_result = refl };
  }

  dropped_result : (seen : List ℤ) (number : ℕ) (cost : ℤ) (sub : Bounds) → Among seen cost → PartLeadsTo model (kernels_of model) plan.parts.now plan.start.now number (Some sub) →
      CostsFrom model.goal cost sub → HasNothing seen number (Some cost)
  dropped_result seen number cost sub there leads beaten =
      let s = search more fall plan is objective None seen sub in
      let alone = search more fall plan is objective (Some cost) [] sub in
      let can_sub = can_at cuts model (kernels_of model) plan.parts.now plan.start.now number sub can leads in
      let inside = order.through sub plan.start.now plan.run.now.program.now.start (inside_at paths model (kernels_of model) plan.parts.now plan.start.now number sub can leads) is.inside in
      let posted = among_contains seen cost there in
      let crossed = cut_crossed model.vars cost sub can_sub.long model.goal is.run.model.objective beaten in
      let falls : MayFall seen None (Some cost) = inr (cost, (posted, (tt, refl))) in
      let stays : MayFall [] (Some cost) (Some cost) = inl refl in
      record {
        of_seen = record {
          path = Some sub;
          leads = leads;
          is_result = ((drop_ends s refl cost falls crossed, refl), drop_covers s refl cost falls crossed finds (inside_start more fall plan is objective None seen sub inside can_sub.in_range) posted);
        };
        of_known = record { path = Some sub; leads = leads; is_result = (drop_ends alone refl cost stays crossed, refl) };
      }

  -- each number that the box to which the part leads has for the objective costs so much at least
  abbrev IsBeatenAt : ℕ → ℤ → Type 0
  IsBeatenAt number cost = (b : Bounds) → PartLeadsTo model (kernels_of model) plan.parts.now plan.start.now number (Some b) → CostsFrom model.goal cost b

  beaten_at : (number : ℕ) (cost : ℤ) (part : Part) → StandsAt plan.parts.now number part → LeadsToBeaten model (kernels_of model) part.depth plan.start.now part.number cost → IsBeatenAt number cost
  beaten_at number cost part stands beaten b h =
      let same = same_part plan.parts.now number h.part part h.stands stands in
      beaten b (subst (λ (p : Part). LeadsTo model (kernels_of model) p.depth plan.start.now p.number (Some b)) same h.leads)

  result_at : (seen : List ℤ) (number : ℕ) (cost : ℤ) (path : Option Bounds) → Among seen cost → PartLeadsTo model (kernels_of model) plan.parts.now plan.start.now number path →
      IsBeatenAt number cost → HasNothing seen number (Some cost)
  result_at seen number cost None there leads beaten = leads_nowhere seen number (Some cost) leads
  result_at seen number cost (Some sub) there leads beaten = dropped_result seen number cost sub there leads (beaten sub leads)

  result_below : (seen : List ℤ) (number : ℕ) (best : Option ℤ) (part : Part) → number < length plan.parts.now → StandsAt plan.parts.now number part → IfSome best (λ cost. Among seen cost) →
      MatchOption best ⊥ (λ cost. LeadsToBeaten model (kernels_of model) part.depth plan.start.now part.number cost) → HasNothing seen number best
  result_below seen number None part below stands there beaten = absurd beaten
  result_below seen number (Some cost) part below stands there beaten =
      let all = every_at paths model (kernels_of model) plan.parts.now plan.start.now is.parts can in
      result_at seen number cost (slice_index_or all.0 number None) there (all.1.each number below) (beaten_at number cost part stands beaten)

  has_nothing : (seen : List ℤ) (number : ℕ) (best : Option ℤ) → number < length plan.parts.now → IfSome best (λ cost. Among seen cost) →
      PartLeadsBelow model (kernels_in plan) plan.parts.now plan.start.now number best None → HasNothing seen number best
  has_nothing seen number best below there h =
      elim (subst (λ (ks : List Kernel). LeadsBelow model ks h.part.depth plan.start.now h.part.number best None) is.run.program.kernels h.leads) [
        | inl nowhere ↦ leads_nowhere seen number best (record { part = h.part; stands = h.stands; leads = nowhere })
        | inr beaten ↦ result_below seen number best h.part below h.stands there beaten.1
      ]

  pub least_run_past : (seen posted : List ℤ) (number : ℕ) (best : Option ℤ) (runs : List (ℕ × LeastEnd)) → number < length plan.parts.now → IfSome best (λ cost. Among seen cost) →
      (plan.options.workers ≡ 1 → IsLeastCost posted best) → PartLeadsBelow model (kernels_in plan) plan.parts.now plan.start.now number best None →
      AreLeastRuns model plan.options plan.parts.now plan.start.now seen posted runs → AreLeastRuns model plan.options plan.parts.now plan.start.now seen posted (runs ++ (number, LeastEnd.Done None) ∷ [])
  least_run_past seen posted number best runs below there least leads k =
      let nothing = has_nothing seen number best below there leads in
      least_run_more more model plan.options plan.parts.now plan.start.now objective seen seen posted posted runs number ([], LeastEnd.Done None) k (λ x h. h) (λ x h. h) nothing.of_seen (λ cost h. inl h)
      (λ a cost h costs. absurd (nothing_there a h)) (λ one. (best, least one, nothing.of_known))

-- what a look saw is among what was seen, and so is what was seen before
pub looked_at : (best : Option ℤ) (seen : List ℤ) → IsLeastCost seen best → IfSome best (λ cost. Among seen cost)
looked_at None seen h = tt
looked_at (Some cost) seen h = h.0

-- where all that was seen was posted, a look sees the least cost that was posted
pub least_posted : (best : Option ℤ) (seen posted : List ℤ) → IsLeastCost seen best → IsCostBelow posted best → AllAmong seen posted → IsLeastCost posted best
least_posted None seen posted least below all = below
least_posted (Some cost) seen posted least below all = (all cost least.0, below)

pub seen_before : (best : Option ℤ) (before after : List ℤ) → after ≡ with_seen best before → AllAmong before after
seen_before best before after e x h = subst (λ (xs : List ℤ). Among xs x) (sym e) (still best)
  where
    still : (o : Option ℤ) → Among (with_seen o before) x
    still None = h
    still (Some y) = inr h

-- a box that is found is what the part leads to
pub found_leads : (model : FznModel) (kernels : List Kernel) (parts : List Part) (start : Bounds) (number : ℕ) (best : Option ℤ) (b : Bounds) → PartLeadsBelow model kernels parts start number best (Some b) →
    PartLeadsTo model kernels parts start number (Some b)
found_leads model kernels parts start number best b h = record { part = h.part; stands = h.stands; leads = found h.leads }
  where
    other : Some b ≡ None → ⊥
    other e = cc

    found : LeadsBelow model kernels h.part.depth start h.part.number best (Some b) → LeadsTo model kernels h.part.depth start h.part.number (Some b)
    found (inl leads) = leads
    found (inr none) = absurd (other none.0)
