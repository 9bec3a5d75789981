-- In a static order the best solution of one search is the first that costs so much, and so it is the answer.
use Rattle.std.proofs.Common.{◌≡◌, ◌≢◌, zero, suc, ℤ, ◌<ℤ◌, List, [], ◌∷◌, length, slice_get, append-nil, All, AllPairs, Contains, ◌⊎◌, ◌↔◌, Option, Some, None, refl, sym, ap, subst, ◌∙◌, inl, inr, arith}
use Rattle.std.proofs.lemmas.Int.{ints}
use Rattle.std.proofs.lemmas.Option.{get_or_from_slice_get}
use Rattle.std.proofs.lemmas.List.Elements.{All-nil, All-cons, All-contains, Contains-append_right}
use Rattle.interval.specs.Boxes.{Bounds, InsideOrder}
use Rattle.constraint_model.specs.declared.model.Goal.{Goal}
use Rattle.constraint_model.specs.declared.model.FznModel.{FznModel}
use Rattle.constraint_model.specs.Relations.{cost_of, IsSolution}
use Rattle.constraint_model.specs.WellFormed.{IsWellFormed}
use Rattle.decompose.specs.Kernels.{kernels_of}
use Rattle.decompose.specs.Program.{start_of, IsProgramOf}
use Rattle.branching.specs.Tree.{EveryList}
use Rattle.solution_lists.specs.Solutions.{SolvesInside, SolutionsAreListed}
use Rattle.solution_lists.specs.Order.{InDeclarationOrder}
use Rattle.solution_lists.specs.Static.{IsStaticSearch, Precedes, InStaticOrder, BeginsWithFirst}
use Rattle.subproblems.specs.Cuts.{CanBeCut}
use Rattle.subproblems.specs.Paths.{LeadsTo}
use Rattle.search.specs.declared.ends.LeastEnd.{LeastEnd}
use Rattle.search.specs.Machine.{Search}
use Rattle.search.specs.Ends.{head_of}
use Rattle.search.specs.LeastEnds.{least_of, last_of, EndsLeast}
use Rattle.search.specs.Laws.{IsInsideStart, RecordsSolutions}
use Rattle.search.specs.Static.{FindsFirst}
use Rattle.fzn_print.specs.declared.marks.Mark.{Mark}
use Rattle.fzn_print.specs.declared.answers.Answer.{Answer}
use Rattle.tree_cover.specs.declared.part.Part.{Part}
use Rattle.tree_cover.specs.Covers.{part_at}
use Rattle.answer.specs.declared.options.Options.{Options}
use Rattle.answer.specs.Cuts.{cut_to}
use Rattle.answer.specs.Least.{IsLeastCost}
use Rattle.answer.specs.Lists.{Assignment, IsSolutionAt, ListsSolutionsAt}
use Rattle.answer.specs.Finished.{IsOptimal, IsFinished}
use Rattle.answer.specs.Answers.{HasLimit}
use Rattle.answer.specs.Results.{program_of, LeastResult, IsLeastResult, least_collected, collected_in, IsLeastSpent}
use Rattle.answer.specs.Unfinished.{FindsBest}
use Rattle.answer.specs.Given.{IsBestKnown, IsGiven}
use Rattle.answer.specs.Places.{StandsAt, PartLeadsTo}
use Rattle.answer.specs.Parts.{whole_tree}
use Rattle.answer.specs.Settled.{FirstOfLists, IsFirstIn, LastIsFirst, BestIsFirst, IsSettled}
use Rattle.answer.proofs.ListedLaws.{lies_in_start, can_be_cut, long_start, cut_in_start, cut_in_range, lists_solutions_at}
use Rattle.answer.proofs.ObjectiveLaws.{has_cost, cut_inside}
use Rattle.answer.proofs.GivenLaws.{optimal_given}

-- ---- the head of a list

head_first : (model : FznModel) (IsOne : Assignment → Type 0) (found : List Assignment) → ((x : Assignment) → Contains found x ↔ IsOne x) → AllPairs (Precedes model) found → BeginsWithFirst model IsOne found
head_first model IsOne [] each pairs = λ x h. let k = (each x).1 h in let l = k.1 in absurd (omega arith)
head_first model IsOne (a ∷ others) each pairs = ((each a).0 (0, omega arith, refl), λ x h. place x ((each x).1 h))
  where
    place : (x : Assignment) → Contains (a ∷ others) x → (a ≡ x) ⊎ Precedes model a x
    place x (zero, l, e) = inl e
    place x (suc k, l, e) = inr (subst (Precedes model a) e (pairs 0 (suc k) x (omega arith) l))

pub first_of_lists : InsideOrder → InStaticOrder → FirstOfLists
first_of_lists order in_order = record {
  all = λ model found static rule l. head_first model (IsSolution model) found l.each (in_order model (kernels_of model) (start_of model) found static rule (long_start model) l.in_order);
  at = λ model cost found static rule l. head_first model (IsSolutionAt model cost) found l.each
      (in_order model (kernels_of model) (cut_to model.goal cost (start_of model)) found static rule
      (let e = (cut_inside order model.goal cost (start_of model)).same_length in let m = long_start model in omega arith) l.in_order);
}

-- ---- the last of a search

last_there : (found : List Assignment) (a : Assignment) → Some a ≡ last_of found → Contains found a
last_there [] a e = absurd cc
last_there (x ∷ []) a e = (0, omega arith, (let same : x ≡ a = cc in same))
last_there (x ∷ y ∷ ys) a e = let k = last_there (y ∷ ys) a e in (suc k.0, omega (arith, k.1), k.2)

not_less : (x : ℤ) → x <ℤ x → ⊥
not_less x h = omega (arith, ints)

pub last_is_first : FindsFirst → RecordsSolutions → LastIsFirst
last_is_first finds records s found a cost least inside static ends costs =
    let state = ends.0.state in
    let there : Contains state.found a = subst (λ (xs : List Assignment). Contains xs a) ends.0.is_found (last_there found a ends.1) in
    record {
      solves = All-contains (SolvesInside s.model s.sub) state.found a (records s state inside ends.0.reached) there;
      costs = costs;
      first = λ x h e first. not_less cost (finds s state least inside static ends.0.reached a x cost cost there h first costs e);
    }

-- ---- one search of the whole tree

-- the one part leads to the box itself
of_whole : (model : FznModel) (b : Bounds) (path : Option Bounds) → PartLeadsTo model (kernels_of model) whole_tree b 0 path → path ≡ Some b
of_whole model b path h = subst (λ (p : Part). LeadsTo model (kernels_of model) p.depth b p.number path) (first h.part h.stands) h.leads
  where
    first : (p : Part) → StandsAt whole_tree 0 p → p ≡ part_at 0 0
    first p e = let f : Some (part_at 0 0) ≡ Some p = e in cc

nothing_in : (a : Assignment) → Contains [] a → ⊥
nothing_in a h = let l = h.1 in omega arith

-- of one result alone, what was collected was collected of it
of_one : (results : List LeastResult) (best : Assignment) → length results ≡ 1 → Contains (collected_in results) best → (r : LeastResult) × (slice_get results 0 ≡ Some r) × Contains (least_collected r.1) best
of_one [] best one there = absurd (omega arith)
of_one (r ∷ []) best one there = (r, refl, subst (λ (xs : List Assignment). Contains xs best) (append-nil (least_collected r.1)) there)
of_one (r ∷ s ∷ rs) best one there = absurd (omega arith)

-- an end that no limit brought about, and of which the best one was collected
ended : (end : LeastEnd) (best : Assignment) → (IsLeastSpent end → ⊥) → Contains (least_collected end) best → end ≡ LeastEnd.Done (Some best)
ended (LeastEnd.Done None) best unspent there = absurd (nothing_in best there)
ended (LeastEnd.Done (Some a)) best unspent (zero, l, e) = ap (λ (x : Assignment). LeastEnd.Done (Some x)) e
ended (LeastEnd.Done (Some a)) best unspent (suc k, l, e) = absurd (omega (arith, l))
ended (LeastEnd.Spent nodes why so_far) best unspent there = absurd (unspent tt)

module _ (order : InsideOrder) (lists : FirstOfLists) (last : LastIsFirst) (model : FznModel) (form : IsWellFormed model) (f : IsProgramOf model (program_of model)) (static : IsStaticSearch model) (options : Options)
    (best : Assignment) (cost : ℤ) (h : FindsBest model options whole_tree best) (costs : cost_of model.goal best ≡ Some cost) where
  abbrev start : Bounds
  start = start_of model

  abbrev search : Search
  search = least_of model (program_of model) options.node_limit options.round_limit options.lanes None h.are.posted start

  inside : IsInsideStart search
  inside = record {
    program = program_of model;
    means = f;
    kernels = refl;
    inside = order.itself start;
    in_range = f.in_range;
    phases = form.search;
    objective = form.objective;
  }

  collected : Contains (collected_in h.results) best
  collected = subst (λ (xs : List Assignment). Contains xs best) (sym h.is_best.there) (Contains-append_right h.is_best.before (best ∷ h.is_best.after) best (0, omega arith, refl))

  one_result : length h.results ≡ 1
  one_result = h.are.are.count

  first_in_start : IsFirstIn model cost start best
  first_in_start =
      let r = of_one h.results best one_result collected in
      let own = h.are.are.each 0 r.0 r.1 in
      let path = of_whole model start own.path own.leads in
      let ends : EndsLeast search r.0.0 r.0.1 = subst (λ (p : Option Bounds). IsLeastResult model options h.are.posted 0 p r.0) path own.is_result in
      let end : r.0.1 ≡ LeastEnd.Done (Some best) = ended r.0.1 best (All-contains (λ (result : LeastResult). IsLeastSpent result.1 → ⊥) h.results r.0 h.unspent (0, (let n = one_result in omega arith), get_or_from_slice_get h.results 0 r.0 r.0 r.1)) r.2 in
      last search r.0.0 best cost refl inside static (subst (EndsLeast search r.0.0) end ends) costs

  head_is_best : (found : List Assignment) → BeginsWithFirst model (IsSolutionAt model cost) found → head_of found ≡ Some best
  head_is_best [] begins = absurd (begins best (record { solves = first_in_start.solves.solves; costs = costs }))
  head_is_best (a ∷ others) begins =
      elim (begins.1 best (record { solves = first_in_start.solves.solves; costs = costs })) [
        | inl e ↦ ap (λ (x : Assignment). Some x) e
        | inr first ↦ absurd (first_in_start.first a (record { solves = begins.0.solves; inside = lies_in_start order model form.search f a begins.0.solves }) begins.0.costs first)
      ]

  pub best_heads : (found : List Assignment) → ListsSolutionsAt model cost found → head_of found ≡ Some best
  best_heads found listed = head_is_best found (lists.at model cost found static form.search listed)

pub best_is_first : ((model : FznModel) → IsWellFormed model → IsProgramOf model (program_of model)) → InsideOrder → FirstOfLists → LastIsFirst → BestIsFirst
best_is_first program order lists last model options best cost found form static h costs listed =
    best_heads order lists last model form (program model form) static options best cost h costs found listed

-- ---- the answer

module _ (order : InsideOrder) (every : EveryList) (are : SolutionsAreListed) (declared : InDeclarationOrder) (firsts : BestIsFirst) (model : FznModel) (form : IsWellFormed model) (f : IsProgramOf model (program_of model))
    (options : Options) (answer : Answer) (objective : model.goal ≢ Goal.Satisfy) (best : Assignment) (known : IsBestKnown model options whole_tree best) (set : IsSettled model options whole_tree)
    (solutions : answer.solutions ≡ best ∷ []) (mark : answer.mark ≡ Mark.Complete) where
  no_limit : HasLimit options → ⊥
  no_limit (inl limit) = limit set.node_limit
  no_limit (inr limit) = limit set.round_limit

  optimal : (cost : ℤ) (found : List Assignment) → IsLeastCost model cost → ListsSolutionsAt model cost found → head_of found ≡ Some best → IsOptimal model answer
  optimal cost [] least listed head = absurd cc
  optimal cost (a ∷ others) least listed head = record {
    cost = cost;
    least = least;
    first = a;
    others = others;
    listed = listed;
    solutions = solutions ∙ ap (λ (x : Assignment). x ∷ []) (let same : best ≡ a = cc in same);
    mark = mark;
  }

  finished : IsFinished model options.all answer
  finished =
      let cost = has_cost model.goal best objective in
      let least = known.least cost.0 cost.1 in
      let cut = cut_to model.goal cost.0 (start_of model) in
      let can : CanBeCut model (kernels_of model) cut = can_be_cut order model form.search f cut (cut_in_start order model form.search f are declared form.objective cost.0 least.some)
      (cut_in_range order model form.search f are declared form.objective cost.0 least.some) in
      let list = every model (kernels_of model) cut form.search can.long can.in_range can.fit in
      let listed = lists_solutions_at order model form.search f are declared form.objective cost.0 least.some list.0 list.1 in
      inr (optimal_given model answer model.goal options.all objective
      (optimal cost.0 list.0 least listed (firsts model options best cost.0 list.0 form set.static known.found cost.1 listed)))

  pub settled_given : IsGiven model options answer
  settled_given = record {
    is_answer = inl (record { finished = finished; unspent = λ limit. absurd (no_limit limit) });
    whole = λ n r. finished;
    solve = subst (All (IsSolution model)) (sym solutions) (All-cons (IsSolution model) best [] known.solves (All-nil (IsSolution model)));
  }
