-- Each solution of the model lies in what some part of a cover leads to, so that the searches of all parts reach its cost.
use Rattle.std.proofs.Common.{◌≡◌, ◌≢◌, ℕ, zero, suc, ℤ, ◌<◌, ◌≤ℤ◌, ◌<ℤ◌, List, [], ◌∷◌, ◌++◌, length, take, get_or, slice_get, flat_map, All, Any, Contains, Option, None, Some, refl, sym, ap, subst, ◌∙◌, inl, inr, arith}
use Rattle.std.specs.List.{range_with_len}
use Rattle.std.proofs.lemmas.Int.{ints}
use Rattle.std.proofs.lemmas.List.{take-map}
use Rattle.std.proofs.lemmas.Option.{slice_get_within, get_or_from_slice_get, slice_get-get_or}
use Rattle.std.proofs.lemmas.List.Elements.{Contains-append_left, Contains-append_right, Contains-append_cases}
use Rattle.interval.specs.Boxes.{Bounds, InsideOrder}
use Rattle.constraint_model.specs.declared.model.Goal.{Goal}
use Rattle.constraint_model.specs.declared.model.FznModel.{FznModel}
use Rattle.constraint_model.specs.Relations.{cost_of, IsSolution}
use Rattle.constraint_model.specs.Searches.{IsSearchOf}
use Rattle.decompose.specs.Kernels.{kernels_of}
use Rattle.decompose.specs.Program.{start_of, IsProgramOf}
use Rattle.branching.specs.Tree.{OneList, EveryList, SolutionsIn}
use Rattle.best_bound.specs.Lists.{Among}
use Rattle.solution_lists.specs.Solutions.{SolvesInside, SolutionsAreListed, ListsSolutionsInside}
use Rattle.subproblems.specs.Cuts.{CutLaws}
use Rattle.subproblems.specs.Paths.{SolutionsOfAll, PathLaws}
use Rattle.search.specs.declared.ends.LeastEnd.{LeastEnd}
use Rattle.search.specs.LeastEnds.{CostAtLeast}
use Rattle.tickets.specs.Counting.{IsEachOnce, CountingLaws}
use Rattle.crew.specs.Ends.{numbers_of, AreInOrder}
use Rattle.tree_cover.specs.declared.part.Part.{Part}
use Rattle.tree_parts.specs.Whole.{WholeOfParts}
use Rattle.answer.specs.declared.options.Options.{Options}
use Rattle.answer.specs.Lists.{Assignment}
use Rattle.answer.specs.Least.{IsLeastCost}
use Rattle.answer.specs.Places.{StandsAt, PartLeadsTo}
use Rattle.answer.specs.Parts.{AreParts}
use Rattle.answer.specs.Results.{program_of, LeastResult, IsLeastResult, ComesInTurn, AreInTurn, least_collected, collected_in, IsLeastSpent, CostsAtMost, AreLeastResults}
use Rattle.answer.specs.Runs.{IsCovered, IsLeastRun, AreLeastRuns, ReachAll, AreWholeResults, AreWholeEnds}
use Rattle.answer.specs.Unfinished.{CostsMore, CostsAsMuch, IsFirstLeast}
use Rattle.answer.proofs.RunLists.{AllAmong, nothing_there, result_kept, results_of}
use Rattle.answer.proofs.LeastRunLists.{contains_among}
use Rattle.answer.proofs.Chosen.{mapped_at, chosen, chosen_images, same_numbers}
use Rattle.answer.proofs.TurnLaws.{number_at, same_results}
use Rattle.answer.proofs.ObjectiveLaws.{has_cost}
use Rattle.answer.proofs.ListedLaws.{lies_in_start, start_can_be_cut}
use Rattle.answer.proofs.PartPaths.{one_at, inside_at, can_at, every_at, listed_by_parts}

-- whatever an entry gives is given by all
contains_given : {E X : Type 0} (f : E → List X) (rs : List E) (k : ℕ) (r : E) (x : X) → slice_get rs k ≡ Some r → Contains (f r) x → Contains (flat_map f rs) x
contains_given f [] k r x e h = absurd cc
contains_given f (s ∷ rs) zero r x e h =
    let same : s ≡ r = cc in
    Contains-append_left (f s) (flat_map f rs) x (subst (λ y. Contains (f y) x) (sym same) h)
contains_given f (s ∷ rs) (suc k) r x e h = Contains-append_right (f s) (flat_map f rs) x (contains_given f rs k r x e h)

abbrev end_of : LeastResult → LeastEnd
end_of result = result.1

any_given : {E : Type 0} (f : E → List Assignment) (rs : List E) (k : ℕ) (r : E) (P : Assignment → Type 0) → slice_get rs k ≡ Some r → Any P (f r) → Any P (flat_map f rs)
any_given f rs k r P e (i, a, l, m, p) = let there = contains_given f rs k r a e (i, l, m) in (there.0, a, there.1, there.2, p)

-- a subproblem in which the assignment lies
record LiesBelow (model : FznModel) (paths : List (Option Bounds)) (a : Assignment) : Type 0 where
  number : ℕ
  sub : Bounds
  there : slice_get paths number ≡ Some (Some sub)
  own : List Assignment
  listed : SolutionsIn model (kernels_of model) sub own
  stands : Contains own a

later_below : (model : FznModel) (p : Option Bounds) (paths : List (Option Bounds)) (a : Assignment) → LiesBelow model paths a → LiesBelow model (p ∷ paths) a
later_below model p paths a h = record { number = suc h.number; sub = h.sub; there = h.there; own = h.own; listed = h.listed; stands = h.stands }

lies_below : (model : FznModel) (paths : List (Option Bounds)) (found : List Assignment) (a : Assignment) → SolutionsOfAll model (kernels_of model) paths found → Contains found a → LiesBelow model paths a
lies_below model [] found a e h = absurd (nothing_there a (subst (λ (xs : List Assignment). Contains xs a) e h))
lies_below model (None ∷ paths) found a (first, rest, own, others, e) h =
    let same : found ≡ rest = e ∙ ap (λ (xs : List Assignment). xs ++ rest) own in
    later_below model None paths a (lies_below model paths rest a others (subst (λ (xs : List Assignment). Contains xs a) same h))
lies_below model (Some sub ∷ paths) found a (first, rest, own, others, e) h =
    elim (Contains-append_cases first rest a (subst (λ (xs : List Assignment). Contains xs a) e h)) [
      | inl l ↦ record { number = 0; sub = sub; there = refl; own = first; listed = own; stands = l }
      | inr r ↦ later_below model (Some sub) paths a (lies_below model paths rest a others r)
    ]

module _ (order : InsideOrder) (one : OneList) (every : EveryList) (laws : PathLaws) (cuts : CutLaws) (whole : WholeOfParts) (listed : SolutionsAreListed) (model : FznModel) (rule : IsSearchOf model)
    (f : IsProgramOf model (program_of model)) (options : Options) (parts : List Part) (are_parts : AreParts parts) where
  -- a part and its subproblem, in which the assignment solves the model
  pub record IsCoveredAt (a : Assignment) : Type 0 where
    pub number : ℕ
    pub below : number < length parts
    pub sub : Bounds
    pub leads : PartLeadsTo model (kernels_of model) parts (start_of model) number (Some sub)
    pub solves : SolvesInside model sub a

  pub covered : (a : Assignment) → IsSolution model a → IsCoveredAt a
  covered a h =
      let start = start_of model in
      let can = start_can_be_cut order model rule f in
      let list = every model (kernels_of model) start rule can.long can.in_range can.fit in
      let all : ListsSolutionsInside model start list.0 = listed model (program_of model) start list.0 f rule can.in_range (order.itself start) list.1 in
      let paths = every_at laws model (kernels_of model) parts start are_parts.each can in
      let lists = listed_by_parts whole one every cuts model (kernels_of model) parts start paths.0 list.0 can are_parts paths.1 list.1 in
      let here = lies_below model paths.0 list.0 a lists ((all.each a).1 (record { solves = h; inside = lies_in_start order model rule f a h })) in
      let within = slice_get_within paths.0 here.number (Some here.sub) here.there in
      let below : here.number < length parts = let e = paths.1.count in omega arith in
      let leads : PartLeadsTo model (kernels_of model) parts start here.number (Some here.sub) =
      subst (PartLeadsTo model (kernels_of model) parts start here.number) (get_or_from_slice_get paths.0 here.number (Some here.sub) None here.there) (paths.1.each here.number below) in
      let sub_can = can_at cuts model (kernels_of model) parts start here.number here.sub can leads in
      let sub_in = inside_at laws model (kernels_of model) parts start here.number here.sub can leads in
      let sub_all : ListsSolutionsInside model here.sub here.own = listed model (program_of model) here.sub here.own f rule sub_can.in_range sub_in here.listed in
      record { number = here.number; below = below; sub = here.sub; leads = leads; solves = (sub_all.each a).0 here.stands }

  -- the results of the runs of all parts, where all costs that were seen were posted
  module _ (seen posted : List ℤ) (runs : List (ℕ × LeastEnd)) (h : AreLeastRuns model options parts (start_of model) seen posted runs) (all : AllAmong seen posted) (results : List LeastResult)
      (in_order : AreInOrder (length parts) h.results results) (rising : options.workers ≡ 1 → numbers_of h.results ≡ range_with_len 0 (length parts)) where
    given : (cost : ℤ) → Among seen cost → Any (CostsAtMost model.goal cost) (collected_in results)
    given cost there =
        let r = h.reached cost (all cost there) in
        let place = (in_order.places r.number r.result).0 r.there in
        any_given (λ (result : LeastResult). least_collected result.1) results r.number r.result (CostsAtMost model.goal cost) place r.reached

    recorded : (cost : ℤ) → Among seen cost → Any (λ result. Any (λ a. cost_of model.goal a ≡ Some cost) result.0) results
    recorded cost there =
        let r = h.recorded cost (all cost there) in
        let place = (in_order.places r.number r.result).0 r.there in
        (r.number, r.result, slice_get_within results r.number r.result place, get_or_from_slice_get results r.number r.result r.result place, r.recorded)

    -- one worker's results are those of its runs, in turn
    in_turn : options.workers ≡ 1 → numbers_of h.results ≡ range_with_len 0 (length parts) → AreInTurn model options parts results
    in_turn one rise number result there =
        let same = same_results (length parts) h.results results in_order rise in
        let from = mapped_at (λ (run : ℕ × LeastResult). run.1) h.results number result (subst (λ (rs : List LeastResult). StandsAt rs number result) (sym same) there) in
        let place = number_at (length parts) h.results results in_order rise number from.0 from.1 in
        let earlier = sym (take-map (λ (run : ℕ × LeastResult). run.1) number h.results) ∙ ap (take number) same in
        subst (λ (n : ℕ). ComesInTurn model options parts (start_of model) (take number results) n result) place
        (subst (λ (r : LeastResult). ComesInTurn model options parts (start_of model) (take number results) from.0.0 r) from.2
        (subst (λ (rs : List LeastResult). ComesInTurn model options parts (start_of model) rs from.0.0 from.0.1) earlier (h.in_turn one number from.0 from.1)))

    are_results : AreLeastResults model options parts results
    are_results = record {
      posted = seen;
      recorded = λ cost there. recorded cost (contains_among seen cost there);
      are = results_of model parts (start_of model) (IsLeastResult model options seen) h.results results in_order
          (λ number result there. result_kept model parts (start_of model) (IsLeastRun model options seen) (IsLeastResult model options seen) (λ n p r k. k.0) number result (h.each number result there));
      in_turn = λ one. in_turn one (rising one);
    }

    lower : (cost other : ℤ) (a : Assignment) → other ≤ℤ cost → CostsAtMost model.goal other a → CostsAtMost model.goal cost a
    lower cost other a l (c, e, k) = (c, e, omega (arith, ints))

    lower_any : (cost other : ℤ) → other ≤ℤ cost → Any (CostsAtMost model.goal other) (collected_in results) → Any (CostsAtMost model.goal cost) (collected_in results)
    lower_any cost other l (k, a, m, e, c) = (k, a, m, e, lower cost other a l c)

    at_end : (end : LeastEnd) (sub : Bounds) → (IsLeastSpent end → ⊥) → IsCovered model seen (Some sub) end → CostAtLeast model sub seen
    at_end (LeastEnd.Done answer) sub unspent k = k
    at_end (LeastEnd.Spent nodes why so_far) sub unspent k = absurd (unspent tt)

    nothing : LeastResult
    nothing = ([], LeastEnd.Done None)

    reach : All (λ result. IsLeastSpent result.1 → ⊥) results → ReachAll model (collected_in results)
    reach unspent a cost solves costs_so =
        let c = covered a solves in
        let below : c.number < length results = let e = in_order.length_is in let l = c.below in omega arith in
        let result = get_or results c.number nothing in
        let place : slice_get results c.number ≡ Some result = slice_get-get_or results c.number nothing below in
        let own = h.each c.number result ((in_order.places c.number result).1 place) in
        let same = one_at laws model (kernels_of model) parts (start_of model) c.number own.path (Some c.sub) rule own.leads c.leads in
        let is_covered = subst (λ (p : Option Bounds). IsCovered model seen p result.1) same own.is_result.1 in
        let some = at_end result.1 c.sub (unspent c.number nothing below) is_covered a cost c.solves costs_so in
        lower_any cost some.1 some.4 (given some.1 (contains_among seen some.1 (some.0, some.2, some.3)))

    pub whole_results : AreWholeResults model options parts results
    whole_results = record { are = are_results; reach = reach }

  -- so it is of the ends of all parts: one of what the runs recorded is chosen for each
  pub whole_ends : CountingLaws → (seen posted : List ℤ) (runs : List (ℕ × LeastEnd)) (ends : List LeastEnd) → AreLeastRuns model options parts (start_of model) seen posted runs → AllAmong seen posted →
      AreInOrder (length parts) runs ends → (options.workers ≡ 1 → numbers_of runs ≡ range_with_len 0 (length parts)) → AreWholeEnds model options parts ends
  whole_ends counting seen posted runs ends h all order rising =
      let numbers : numbers_of h.results ≡ numbers_of runs = sym (same_numbers end_of h.results) ∙ ap (λ (rs : List (ℕ × LeastEnd)). numbers_of rs) h.of_runs in
      let these = chosen counting (length parts) h.results (subst (IsEachOnce (length parts)) (sym numbers) order.each_once) in
      record {
        results = these.0;
        of_results = chosen_images counting end_of (length parts) h.results these.0 runs ends these.1 h.of_runs order;
        whole = whole_results seen posted runs h all these.0 these.1 (λ one. numbers ∙ rising one);
      }

-- ---- the best of what was collected costs least

pub least_is_best : (model : FznModel) (collected : List Assignment) (a : Assignment) (cost : ℤ) → All (IsSolution model) collected → ReachAll model collected → IsFirstLeast model.goal collected a →
    cost_of model.goal a ≡ Some cost → IsLeastCost model cost
least_is_best model collected a cost solve reach best costs = record {
  some = record { assignment = a; solves = solves; costs = costs };
  least = λ b other is_solution other_costs. at_least other (reach b other is_solution other_costs);
}
  where
    in_list : Contains collected a
    in_list = subst (λ (xs : List Assignment). Contains xs a) (sym best.there) (Contains-append_right best.before (a ∷ best.after) a (0, omega arith, refl))

    solves : IsSolution model a
    solves = subst (IsSolution model) in_list.2 (solve in_list.0 a in_list.1)

    chain : (p q r : ℤ) → p ≤ℤ q → q ≤ℤ r → p ≤ℤ r
    chain p q r h k = omega (arith, ints)

    strict : (p q r : ℤ) → p <ℤ q → q ≤ℤ r → p ≤ℤ r
    strict p q r h k = omega (arith, ints)

    same_cost : (x : Assignment) (c : ℤ) → a ≡ x → cost_of model.goal x ≡ Some c → cost ≡ c
    same_cost x c e h = let f = sym costs ∙ ap (cost_of model.goal) e ∙ h in cc

    by_place : (x : Assignment) (c other : ℤ) → cost_of model.goal x ≡ Some c → c ≤ℤ other → Contains (best.before ++ a ∷ best.after) x → cost ≤ℤ other
    by_place x c other is_cost l there = elim (Contains-append_cases best.before (a ∷ best.after) x there) [
      | inl (k, m, e) ↦ strict cost c other (subst (CostsMore model.goal a) e (best.before_cost_more k x m) cost c costs is_cost) l
      | inr (zero, m, e) ↦ subst (λ (z : ℤ). z ≤ℤ other) (sym (same_cost x c e is_cost)) l
      | inr (suc k, m, e) ↦ chain cost c other (subst (CostsAsMuch model.goal a) e (best.after_cost_as_much k x (omega arith)) cost c costs is_cost) l
    ]

    at_least : (other : ℤ) → Any (CostsAtMost model.goal other) collected → cost ≤ℤ other
    at_least other (k, x, l, e, c) = by_place x c.0 other c.1 c.2 (subst (λ (xs : List Assignment). Contains xs x) best.there (k, l, e))

-- nothing was collected only where nothing solves the model
pub nothing_solves : (model : FznModel) (collected : List Assignment) → model.goal ≢ Goal.Satisfy → ReachAll model collected → collected ≡ [] → (a : Assignment) → IsSolution model a → ⊥
nothing_solves model collected objective reach empty a solves =
    let cost = has_cost model.goal a objective in
    none (subst (λ (xs : List Assignment). Any (CostsAtMost model.goal cost.0) xs) empty (reach a cost.0 solves cost.1))
  where
    none : {P : Assignment → Type 0} → Any P [] → ⊥
    none h = let l = h.2 in omega arith

pub best_is_solution : (model : FznModel) (collected : List Assignment) (a : Assignment) → All (IsSolution model) collected → IsFirstLeast model.goal collected a → IsSolution model a
best_is_solution model collected a solve best = subst (IsSolution model) there.2 (solve there.0 a there.1)
  where
    there : Contains collected a
    there = subst (λ (xs : List Assignment). Contains xs a) (sym best.there) (Contains-append_right best.before (a ∷ best.after) a (0, omega arith, refl))
