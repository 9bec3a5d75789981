-- What is put together of the results is an answer.
use Rattle.std.proofs.Common.{◌≡◌, ◌≢◌, ℕ, zero, suc, ℤ, Bool, true, false, List, [], ◌∷◌, ◌++◌, map, take, flat_map, All, Any, Contains, Option, None, Some, refl, sym, ap, subst, subst₂, ◌∙◌, ◌⊎◌, inl, inr, arith}
use mathlib.Core.Logic.{dite}
use native.Mathlib.Decide.{ℕ_discrete}
use Rattle.std.specs.Bool.{OnTrue, OnFalse}
use Rattle.std.proofs.lemmas.Option.{slice_get-get_or}
use Rattle.std.proofs.lemmas.List.Elements.{All-nil, All-cons, All-append, All-head, All-tail}
use Rattle.interval.specs.Boxes.{Bounds, IsInside, InsideOrder}
use Rattle.constraint_model.specs.declared.model.Goal.{Goal}
use Rattle.constraint_model.specs.declared.model.FznModel.{FznModel}
use Rattle.constraint_model.specs.Relations.{cost_of, IsSolution}
use Rattle.constraint_model.specs.Searches.{IsSearchOf}
use Rattle.constraint_model.specs.WellFormed.{IsGoalOf}
use Rattle.decompose.specs.Kernels.{kernels_of}
use Rattle.decompose.specs.Program.{start_of, IsProgramOf}
use Rattle.branching.specs.Tree.{OneList, EveryList, SolutionsIn}
use Rattle.solution_lists.specs.Solutions.{SolutionsAreListed}
use Rattle.solution_lists.specs.Order.{InDeclarationOrder}
use Rattle.subproblems.specs.Cuts.{CutLaws, CanBeCut}
use Rattle.subproblems.specs.Paths.{PathLaws}
use Rattle.tree_cover.specs.declared.part.Part.{Part}
use Rattle.tree_cover.specs.Covers.{parts_to}
use Rattle.tree_parts.specs.Whole.{WholeOfParts}
use Rattle.search.specs.declared.ends.Why.{Why}
use Rattle.search.specs.declared.ends.FirstEnd.{FirstEnd}
use Rattle.search.specs.declared.ends.AllEnd.{AllEnd}
use Rattle.search.specs.declared.ends.LeastEnd.{LeastEnd}
use Rattle.search.specs.Machine.{Search}
use Rattle.search.specs.Ends.{EndsSpent}
use Rattle.search.specs.Laws.{RecordsSolutions}
use Rattle.fzn_print.specs.declared.marks.Mark.{Mark}
use Rattle.answer.specs.declared.options.Options.{Options}
use Rattle.fzn_print.specs.declared.answers.Answer.{Answer}
use Rattle.answer.specs.Least.{IsLeastCost}
use Rattle.answer.specs.Cuts.{cut_to}
use Rattle.answer.specs.Lists.{Assignment, ListsSolutions, IsSolutionAt}
use Rattle.answer.specs.Finished.{IsFinished, IsOptimal, Gives}
use Rattle.answer.specs.Places.{AreResults}
use Rattle.answer.specs.Answers.{HasLimit}
use Rattle.answer.specs.Parts.{ArePartsFor}
use Rattle.answer.specs.Results.{program_of, listed, IsFirstResult, AreFirstResults, first_collected, IsOpen, IsAllResult, AreAllResults, all_collected, IsAllSpent, LeastResult, IsLeastResult, AreLeastResults, least_collected, collected_in, IsLeastSpent}
use Rattle.answer.specs.Unfinished.{mark_where, IsFirstLeast, IsBestOf, FindsBest, IsBestCollected, IsLeastCollected, GivesCollected}
use Rattle.answer.specs.Unspent.{IsUnspentFirst, IsUnspentLeast, IsUnspentFor, IsUnspentSearch}
use Rattle.answer.specs.Runs.{AreWholeResults, AreWholeEnds}
use Rattle.answer.specs.Given.{mark_for, IsBestKnown, IsBestOfParts, IsGiven}
use Rattle.answer.proofs.PartPaths.{ListedByParts, listed_by_parts}
use Rattle.answer.proofs.HeadLaws.{first_of_all, all_of_all}
use Rattle.answer.proofs.ListedLaws.{start_can_be_cut, can_be_cut, lists_solutions, cut_in_start, cut_in_range, lists_solutions_at}
use Rattle.answer.proofs.SolveLaws.{firsts_solve, all_solve, least_solve}
use Rattle.answer.proofs.CoverLaws.{nothing_solves, best_is_solution, least_is_best}
use Rattle.answer.proofs.OneFinished.{same_cost}

-- ---- limits

-- where it isn't so that no limit is set, one is
pub some_limit : (options : Options) → (options.node_limit ≡ 0 → options.round_limit ≡ 0 → ⊥) → HasLimit options
some_limit options some = dite (ℕ_discrete options.node_limit 0)
    (λ (none : options.node_limit ≡ 0). inr (λ no_rounds. some none no_rounds))
    (λ (nodes : options.node_limit ≢ 0). inl nodes)

-- without limits no search is stopped by one
limited : (s : Search) (why : Why) (nodes : ℕ) (found : List Assignment) → s.node_limit ≡ 0 → s.round_limit ≡ 0 → EndsSpent s why nodes found → ⊥
limited s Why.Nodes nodes found n r h = h.out.limited n
limited s Why.Rounds nodes found n r h = h.out.given_up.limited r

module _ (model : FznModel) (options : Options) (n : options.node_limit ≡ 0) (r : options.round_limit ≡ 0) where
  first_unlimited : (results : List FirstEnd) (number : ℕ) (path : Option Bounds) (nodes : ℕ) (why : Why) → IsFirstResult model options results number path (FirstEnd.Spent nodes why) → ⊥
  first_unlimited results number None nodes why h = h
  first_unlimited results number (Some sub) nodes why h = limited _ why nodes [] n r h

  pub none_open : (parts : List Part) (b : Bounds) (results : List FirstEnd) → AreFirstResults model options parts b results → IsOpen results → ⊥
  none_open parts b results are (number, h) =
      let own = are.each number (FirstEnd.Spent h.nodes h.why) h.stopped in
      first_unlimited results number own.path h.nodes h.why own.is_result

  pub all_unlimited : (number : ℕ) (path : Option Bounds) (end : AllEnd) → IsAllResult model options number path end → IsAllSpent end → ⊥
  all_unlimited number path (AllEnd.Done found) h s = s
  all_unlimited number None (AllEnd.Spent nodes why found) h s = let e : AllEnd.Spent nodes why found ≡ AllEnd.Done [] = h in absurd cc
  all_unlimited number (Some sub) (AllEnd.Spent nodes why found) h s = limited _ why nodes found n r h

  end_unlimited : (posted : List ℤ) (number : ℕ) (path : Option Bounds) (found : List Assignment) (end : LeastEnd) → IsLeastResult model options posted number path (found, end) → IsLeastSpent end → ⊥
  end_unlimited posted number path found (LeastEnd.Done answer) h s = s
  end_unlimited posted number None found (LeastEnd.Spent nodes why so_far) h s = let e : LeastEnd.Spent nodes why so_far ≡ LeastEnd.Done None = ap (λ (r : LeastResult). r.1) h in absurd cc
  end_unlimited posted number (Some sub) found (LeastEnd.Spent nodes why so_far) h s = limited _ why nodes found n r h.0

  pub least_unlimited : (posted : List ℤ) (number : ℕ) (path : Option Bounds) (result : LeastResult) → IsLeastResult model options posted number path result → IsLeastSpent result.1 → ⊥
  least_unlimited posted number path result h s = end_unlimited posted number path result.0 result.1 h s

-- ---- ends, and what was recorded beside them

collected_same : (ends : List LeastEnd) (results : List LeastResult) → map (λ (r : LeastResult). r.1) results ≡ ends → collected_in results ≡ flat_map least_collected ends
collected_same ends results e = of_ends results ∙ ap (flat_map least_collected) e
  where
    of_ends : (rs : List LeastResult) → collected_in rs ≡ flat_map least_collected (map (λ (r : LeastResult). r.1) rs)
    of_ends [] = refl
    of_ends (r ∷ rs) = ap (λ (xs : List Assignment). least_collected r.1 ++ xs) (of_ends rs)

any_of_results : (ends : List LeastEnd) (results : List LeastResult) → map (λ (r : LeastResult). r.1) results ≡ ends → Any IsLeastSpent ends → Any (λ result. IsLeastSpent result.1) results
any_of_results ends results e h = of_ends results (subst (λ (rs : List LeastEnd). Any IsLeastSpent rs) (sym e) h)
  where
    later : (r : LeastResult) (rs : List LeastResult) → Any (λ result. IsLeastSpent result.1) rs → Any (λ result. IsLeastSpent result.1) (r ∷ rs)
    later r rs (k, x, l, e, s) = (suc k, x, omega arith, e, s)

    of_ends : (rs : List LeastResult) → Any IsLeastSpent (map (λ (r : LeastResult). r.1) rs) → Any (λ result. IsLeastSpent result.1) rs
    of_ends [] (k, x, l, e, s) = absurd (omega arith)
    of_ends (r ∷ rs) (zero, x, l, e, s) = (0, r, omega arith, refl, subst IsLeastSpent (sym e) s)
    of_ends (r ∷ rs) (suc k, x, l, e, s) = later r rs (of_ends rs (k, x, omega arith, e, s))

all_of_results : (ends : List LeastEnd) (results : List LeastResult) → map (λ (r : LeastResult). r.1) results ≡ ends → All (λ end. IsLeastSpent end → ⊥) ends → All (λ result. IsLeastSpent result.1 → ⊥) results
all_of_results ends results e h = of_ends results (subst (All (λ end. IsLeastSpent end → ⊥)) (sym e) h)
  where
    of_ends : (rs : List LeastResult) → All (λ end. IsLeastSpent end → ⊥) (map (λ (r : LeastResult). r.1) rs) → All (λ result. IsLeastSpent result.1 → ⊥) rs
    of_ends [] h = All-nil (λ (result : LeastResult). IsLeastSpent result.1 → ⊥)
    of_ends (r ∷ rs) h =
        All-cons (λ (result : LeastResult). IsLeastSpent result.1 → ⊥) r rs (All-head (λ end. IsLeastSpent end → ⊥) r.1 (map (λ (r : LeastResult). r.1) rs) h)
        (of_ends rs (All-tail (λ end. IsLeastSpent end → ⊥) r.1 (map (λ (r : LeastResult). r.1) rs) h))

-- no result is stopped, if each that is one of its number isn't
pub none_spent : {E : Type 0} (model : FznModel) (parts : List Part) (b : Bounds) (Is : ℕ → Option Bounds → E → Type 0) (Spent : E → Type 0) (results : List E) → AreResults model parts b Is results →
    ((number : ℕ) (path : Option Bounds) (end : E) → Is number path end → Spent end → ⊥) → Any Spent results → ⊥
none_spent model parts b Is Spent results are unlimited (k, x, l, e, s) =
    let own = are.each k x (slice_get-get_or results k x l ∙ ap (λ y. Some y) e) in
    unlimited k own.path x own.is_result s

pub first_of_list : (P : Assignment → Type 0) (xs : List Assignment) → All P xs → All P (take 1 xs)
first_of_list P [] h = All-nil P
first_of_list P (x ∷ xs) h = All-cons P x [] (All-head P x xs h) (All-nil P)

nothing_in : (a : Assignment) → Contains [] a → ⊥
nothing_in a h = let l = h.1 in omega arith

there_first : (a : Assignment) (xs : List Assignment) → Contains (a ∷ xs) a
there_first a xs = (0, omega arith, refl)

same_mark : (spent other : Bool) (given others : List Assignment) (whole mark : Mark) → spent ≡ other → given ≡ others → mark ≡ mark_for spent given whole → mark ≡ mark_for other others whole
same_mark spent other given others whole mark e f h = h ∙ ap (λ (b : Bool). mark_for b given whole) e ∙ ap (λ (xs : List Assignment). mark_for other xs whole) f

-- where there is an objective, a solution of least cost is asked for
pub optimal_given : (model : FznModel) (answer : Answer) (g : Goal) (all : Bool) → g ≢ Goal.Satisfy → IsOptimal model answer → Gives g all model answer
optimal_given model answer Goal.Satisfy all o h = absurd (o refl)
optimal_given model answer (Goal.Minimize t) all o h = h
optimal_given model answer (Goal.Maximize t) all o h = h

module _ (order : InsideOrder) (one : OneList) (every : EveryList) (laws : PathLaws) (cuts : CutLaws) (whole : WholeOfParts) (are : SolutionsAreListed) (declared : InDeclarationOrder) (records : RecordsSolutions)
    (model : FznModel) (rule : IsSearchOf model) (goal : IsGoalOf model.vars model.goal) (f : IsProgramOf model (program_of model)) (options : Options) (parts : List Part) (serve : ArePartsFor options parts) (answer : Answer) where
  abbrev start : Bounds
  start = start_of model

  can : CanBeCut model (kernels_of model) start
  can = start_can_be_cut order model rule f

  by_parts : ListedByParts
  by_parts = listed_by_parts whole one every cuts

  -- the list of the start
  all_list : (found : List Assignment) × SolutionsIn model (kernels_of model) start found
  all_list = every model (kernels_of model) start rule can.long can.in_range can.fit

  unsatisfiable : ListsSolutions model [] → answer.solutions ≡ [] → answer.mark ≡ Mark.Unsatisfiable → IsFinished model options.all answer
  unsatisfiable l e m = inl (record { none = λ a h. nothing_in a ((l.each a).1 h); solutions = e; mark = m })

  -- under a limit the parts are those of the depth that is asked for
  first_limited : (b : Bounds) (results : List FirstEnd) → AreFirstResults model options parts b results → HasLimit options → AreFirstResults model options (parts_to options.depth) b results
  first_limited b results h limit = subst (λ (ps : List Part). AreFirstResults model options ps b results) (serve.limited limit) h

  all_limited : (results : List AllEnd) → AreAllResults model options parts results → HasLimit options → AreAllResults model options (parts_to options.depth) results
  all_limited results h limit = subst (λ (ps : List Part). AreAllResults model options ps results) (serve.limited limit) h

  least_limited : (results : List LeastResult) → AreLeastResults model options parts results → HasLimit options → AreLeastResults model options (parts_to options.depth) results
  least_limited results h limit = subst (λ (ps : List Part). AreLeastResults model options ps results) (serve.limited limit) h

  -- ---- the first solution

  module _ (results : List FirstEnd) (h : AreFirstResults model options parts start results) (satisfy : model.goal ≡ Goal.Satisfy) (first : options.all ≡ false)
      (e : answer.solutions ≡ take 1 (flat_map first_collected results)) where
    first_solve : All (IsSolution model) answer.solutions
    first_solve =
        subst (All (IsSolution model)) (sym e)
        (first_of_list (IsSolution model) (flat_map first_collected results) (firsts_solve order laws cuts records model rule goal f options parts start can (order.itself start) results h))

    pub first_open : IsOpen results → answer.mark ≡ mark_where answer.solutions → IsGiven model options answer
    first_open part m = record {
      is_answer = inr (subst₂ (λ (g : Goal) (b : Bool). GivesCollected g b model options answer) (sym satisfy) (sym first)
          (record { results = results; are = first_limited start results h limit; is_open = part; solutions = e; mark = m }));
      whole = λ n r. absurd (none_open model options n r parts start results h part);
      solve = first_solve;
    }
      where
        limit : HasLimit options
        limit = some_limit options (λ n r. none_open model options n r parts start results h part)

    finished : (found : List Assignment) → SolutionsIn model (kernels_of model) start found → take 1 (flat_map first_collected results) ≡ take 1 found → answer.mark ≡ mark_for false answer.solutions Mark.Plain →
        IsFinished model options.all answer
    finished [] s t m = unsatisfiable (lists_solutions order model rule f are declared [] s) (e ∙ t) (same_mark false false answer.solutions [] Mark.Plain answer.mark refl (e ∙ t) m)
    finished (a ∷ others) s t m =
        inr (subst₂ (λ (g : Goal) (b : Bool). Gives g b model answer) (sym satisfy) (sym first) (record {
          first = a;
          others = others;
          listed = lists_solutions order model rule f are declared (a ∷ others) s;
          solutions = e ∙ t;
          mark = same_mark false false answer.solutions (a ∷ []) Mark.Plain answer.mark refl (e ∙ t) m;
        }))

    pub first_closed : (IsOpen results → ⊥) → answer.mark ≡ mark_for false answer.solutions Mark.Plain → IsGiven model options answer
    first_closed closed m =
        let done = finished all_list.0 all_list.1 (first_of_all one laws by_parts model options parts serve.are start results all_list.0 can h closed all_list.1) m in
        record { is_answer = inl (record { finished = done; unspent = λ limit. searched limit }); whole = λ n r. done; solve = first_solve }
      where
        searched : HasLimit options → IsUnspentSearch model options
        searched limit = subst₂ (λ (g : Goal) (b : Bool). IsUnspentFor g b model options) (sym satisfy) (sym first) (record { results = results; are = first_limited start results h limit; none_open = closed })

  -- ---- all solutions

  module _ (results : List AllEnd) (h : AreAllResults model options parts results) (satisfy : model.goal ≡ Goal.Satisfy) (all : options.all ≡ true)
      (e : answer.solutions ≡ flat_map all_collected results) where
    all_solutions_solve : All (IsSolution model) answer.solutions
    all_solutions_solve = subst (All (IsSolution model)) (sym e) (all_solve order laws cuts records model rule goal f options parts start can (order.itself start) results h)

    pub all_spent : Any IsAllSpent results → answer.mark ≡ mark_where answer.solutions → IsGiven model options answer
    all_spent spent m = record {
      is_answer = inr (subst₂ (λ (g : Goal) (b : Bool). GivesCollected g b model options answer) (sym satisfy) (sym all)
          (record { results = results; are = all_limited results h limit; spent = spent; solutions = e; mark = m }));
      whole = λ n r. absurd (none_spent model parts start (IsAllResult model options) IsAllSpent results h (all_unlimited model options n r) spent);
      solve = all_solutions_solve;
    }
      where
        limit : HasLimit options
        limit = some_limit options (λ n r. none_spent model parts start (IsAllResult model options) IsAllSpent results h (all_unlimited model options n r) spent)

    all_finished : (found : List Assignment) → SolutionsIn model (kernels_of model) start found → flat_map all_collected results ≡ found → answer.mark ≡ mark_for false answer.solutions Mark.Complete →
        IsFinished model options.all answer
    all_finished [] s t m = unsatisfiable (lists_solutions order model rule f are declared [] s) (e ∙ t) (same_mark false false answer.solutions [] Mark.Complete answer.mark refl (e ∙ t) m)
    all_finished (a ∷ others) s t m =
        inr (subst₂ (λ (g : Goal) (b : Bool). Gives g b model answer) (sym satisfy) (sym all) (record {
          first = a;
          others = others;
          listed = lists_solutions order model rule f are declared (a ∷ others) s;
          solutions = e ∙ t;
          mark = same_mark false false answer.solutions (a ∷ others) Mark.Complete answer.mark refl (e ∙ t) m;
        }))

    pub all_unspent : All (λ end. IsAllSpent end → ⊥) results → answer.mark ≡ mark_for false answer.solutions Mark.Complete → IsGiven model options answer
    all_unspent unspent m =
        let done = all_finished all_list.0 all_list.1 (all_of_all one laws by_parts model options parts serve.are start results all_list.0 can h unspent all_list.1) m in
        record { is_answer = inl (record { finished = done; unspent = λ limit. searched limit }); whole = λ n r. done; solve = all_solutions_solve }
      where
        searched : HasLimit options → IsUnspentSearch model options
        searched limit = subst₂ (λ (g : Goal) (b : Bool). IsUnspentFor g b model options) (sym satisfy) (sym all) (record { results = results; are = all_limited results h limit; unspent = unspent })

  -- ---- the least cost

  module _ (objective : model.goal ≢ Goal.Satisfy) where
    collected_given : (g : Goal) (all : Bool) → g ≢ Goal.Satisfy → IsBestCollected model options answer ⊎ IsLeastCollected model options answer → GivesCollected g all model options answer
    collected_given Goal.Satisfy all o h = absurd (o refl)
    collected_given (Goal.Minimize t) all o h = h
    collected_given (Goal.Maximize t) all o h = h

    least_unspent : (g : Goal) (all : Bool) → g ≢ Goal.Satisfy → IsUnspentLeast model options → IsUnspentFor g all model options
    least_unspent Goal.Satisfy all o h = absurd (o refl)
    least_unspent (Goal.Minimize t) all o h = h
    least_unspent (Goal.Maximize t) all o h = h

    -- what the first phase gives, where a limit stopped it or nothing was collected
    module _ (results : List LeastResult) (h : AreWholeResults model options parts results) (best : Option Assignment) (is_best : IsBestOf model.goal (collected_in results) best)
        (e : answer.solutions ≡ listed best) where
      least_solutions_solve : All (IsSolution model) (collected_in results)
      least_solutions_solve = least_solve order laws cuts records model rule goal f options parts start can (order.itself start) h.are.posted results h.are.are

      best_solves : (best : Option Assignment) → IsBestOf model.goal (collected_in results) best → All (IsSolution model) (listed best)
      best_solves None b = All-nil (IsSolution model)
      best_solves (Some a) b = All-cons (IsSolution model) a [] (best_is_solution model (collected_in results) a least_solutions_solve b) (All-nil (IsSolution model))

      solved : All (IsSolution model) answer.solutions
      solved = subst (All (IsSolution model)) (sym e) (best_solves best is_best)

      pub least_spent : Any (λ result. IsLeastSpent result.1) results → answer.mark ≡ mark_where answer.solutions → IsGiven model options answer
      least_spent spent m = record {
        is_answer = inr (collected_given model.goal options.all objective
            (inl (record { results = results; are = least_limited results h.are limit; spent = spent; best = best; is_best = is_best; solutions = e; mark = m })));
        whole = λ n r. absurd (unlimited n r);
        solve = solved;
      }
        where
          unlimited : options.node_limit ≡ 0 → options.round_limit ≡ 0 → ⊥
          unlimited n r = none_spent model parts start (IsLeastResult model options h.are.posted) (λ (result : LeastResult). IsLeastSpent result.1) results h.are.are (least_unlimited model options n r h.are.posted) spent

          limit : HasLimit options
          limit = some_limit options unlimited

      pub least_nothing : All (λ result. IsLeastSpent result.1 → ⊥) results → best ≡ None → answer.mark ≡ mark_for false answer.solutions Mark.Complete → IsGiven model options answer
      least_nothing unspent none m =
          let empty : answer.solutions ≡ [] = e ∙ ap listed none in
          let nothing = nothing_solves model (collected_in results) objective (h.reach unspent) (subst (λ (o : Option Assignment). IsBestOf model.goal (collected_in results) o) none is_best) in
          let done : IsFinished model options.all answer = inl (record {
            none = nothing;
            solutions = empty;
            mark = same_mark false false answer.solutions [] Mark.Complete answer.mark refl empty m;
          }) in
          let searched : HasLimit options → IsUnspentLeast model options = (λ limit. record {
            results = results;
            are = least_limited results h.are limit;
            unspent = unspent;
            second = λ cost least. absurd (nothing least.some.assignment least.some.solves);
          }) in
          record { is_answer = inl (record { finished = done; unspent = λ limit. least_unspent model.goal options.all objective (searched limit) }); whole = λ n r. done; solve = solved }

    -- what the second phase gives
    module _ (cost : ℤ) (least : IsLeastCost model cost) (best : Assignment) (finds : HasLimit options → FindsBest model options (parts_to options.depth) best) (best_is : IsSolutionAt model cost best) (results : List FirstEnd)
        (h : AreFirstResults model options parts (cut_to model.goal cost start) results) (e : answer.solutions ≡ take 1 (flat_map first_collected results ++ best ∷ [])) where
      abbrev cut : Bounds
      cut = cut_to model.goal cost start

      inside : IsInside cut start
      inside = cut_in_start order model rule f are declared goal cost least.some

      cut_can : CanBeCut model (kernels_of model) cut
      cut_can = can_be_cut order model rule f cut inside (cut_in_range order model rule f are declared goal cost least.some)

      both_solve : All (IsSolution model) (flat_map first_collected results ++ best ∷ [])
      both_solve = All-append (IsSolution model) (flat_map first_collected results) (best ∷ []) (firsts_solve order laws cuts records model rule goal f options parts cut cut_can inside results h)
          (All-cons (IsSolution model) best [] best_is.solves (All-nil (IsSolution model)))

      second_solve : All (IsSolution model) answer.solutions
      second_solve = subst (All (IsSolution model)) (sym e) (first_of_list (IsSolution model) (flat_map first_collected results ++ best ∷ []) both_solve)

      pub second_open : IsOpen results → answer.mark ≡ Mark.Plain → IsGiven model options answer
      second_open part m = record {
        is_answer = inr (collected_given model.goal options.all objective (inr (record {
          cost = cost;
          least = least;
          best = best;
          found = finds limit;
          results = results;
          are = first_limited cut results h limit;
          is_open = part;
          solutions = e;
          mark = m;
        })));
        whole = λ n r. absurd (none_open model options n r parts cut results h part);
        solve = second_solve;
      }
        where
          limit : HasLimit options
          limit = some_limit options (λ n r. none_open model options n r parts cut results h part)

      front : (xs : List Assignment) (a : Assignment) (others : List Assignment) → take 1 xs ≡ a ∷ [] → take 1 (xs ++ best ∷ []) ≡ a ∷ []
      front [] a others t = absurd cc
      front (x ∷ xs) a others t = t

      optimum : (found : List Assignment) → SolutionsIn model (kernels_of model) cut found → take 1 (flat_map first_collected results) ≡ take 1 found → answer.mark ≡ Mark.Complete → IsOptimal model answer
      optimum [] s t m = absurd (nothing_in best (((lists_solutions_at order model rule f are declared goal cost least.some [] s).each best).1 best_is))
      optimum (a ∷ others) s t m = record {
        cost = cost;
        least = least;
        first = a;
        others = others;
        listed = lists_solutions_at order model rule f are declared goal cost least.some (a ∷ others) s;
        solutions = e ∙ front (flat_map first_collected results) a others t;
        mark = m;
      }

      pub second_closed : (IsOpen results → ⊥) → answer.mark ≡ Mark.Complete → IsGiven model options answer
      second_closed closed m =
          let list = every model (kernels_of model) cut rule cut_can.long cut_can.in_range cut_can.fit in
          let done : IsFinished model options.all answer =
          inr (optimal_given model answer model.goal options.all objective (optimum list.0 list.1 (first_of_all one laws by_parts model options parts serve.are cut results list.0 cut_can h closed list.1) m)) in
          let searched : HasLimit options → IsUnspentLeast model options = (λ limit. record {
            results = (finds limit).results;
            are = (finds limit).are;
            unspent = (finds limit).unspent;
            second = λ other k. subst (λ (c : ℤ). IsUnspentFirst model options (cut_to model.goal c start)) (same_cost model cost other least k)
                (record { results = results; are = first_limited cut results h limit; none_open = closed });
          }) in
          record { is_answer = inl (record { finished = done; unspent = λ limit. least_unspent model.goal options.all objective (searched limit) }); whole = λ n r. done; solve = second_solve }

module _ (order : InsideOrder) (one : OneList) (every : EveryList) (laws : PathLaws) (cuts : CutLaws) (whole : WholeOfParts) (are : SolutionsAreListed) (declared : InDeclarationOrder) (records : RecordsSolutions)
    (model : FznModel) (rule : IsSearchOf model) (goal : IsGoalOf model.vars model.goal) (f : IsProgramOf model (program_of model)) (options : Options) (parts : List Part) (serve : ArePartsFor options parts) (answer : Answer) where
  pub first_given : (results slice : List FirstEnd) → AreFirstResults model options parts (start_of model) results → model.goal ≡ Goal.Satisfy → options.all ≡ false → answer.solutions ≡ take 1 (flat_map first_collected results) →
      slice ≡ results → (open_part : Bool) → OnTrue open_part (IsOpen slice) → OnFalse open_part (IsOpen slice → ⊥) → answer.mark ≡ mark_for open_part answer.solutions Mark.Plain → IsGiven model options answer
  first_given results slice h satisfy first e same true s u m =
      first_open order one every laws cuts whole are declared records model rule goal f options parts serve answer results h satisfy first e (subst (λ (rs : List FirstEnd). IsOpen rs) same s) m
  first_given results slice h satisfy first e same false s u m =
      first_closed order one every laws cuts whole are declared records model rule goal f options parts serve answer results h satisfy first e (subst (λ (rs : List FirstEnd). IsOpen rs → ⊥) same u) m

  pub all_given : (results slice : List AllEnd) → AreAllResults model options parts results → model.goal ≡ Goal.Satisfy → options.all ≡ true → answer.solutions ≡ flat_map all_collected results →
      slice ≡ results → (spent : Bool) → OnTrue spent (Any IsAllSpent slice) → OnFalse spent (All (λ end. IsAllSpent end → ⊥) slice) → answer.mark ≡ mark_for spent answer.solutions Mark.Complete → IsGiven model options answer
  all_given results slice h satisfy all e same true s u m =
      all_spent order one every laws cuts whole are declared records model rule goal f options parts serve answer results h satisfy all e (subst (λ (rs : List AllEnd). Any IsAllSpent rs) same s) m
  all_given results slice h satisfy all e same false s u m =
      all_unspent order one every laws cuts whole are declared records model rule goal f options parts serve answer results h satisfy all e (subst (λ (rs : List AllEnd). All (λ end. IsAllSpent end → ⊥) rs) same u) m

  of_results_best : (ends : List LeastEnd) (h : AreWholeEnds model options parts ends) (best : Option Assignment) → IsBestOf model.goal (flat_map least_collected ends) best → IsBestOf model.goal (collected_in h.results) best
  of_results_best ends h best is_best = subst (λ (xs : List Assignment). IsBestOf model.goal xs best) (sym (collected_same ends h.results h.of_results)) is_best

  best_of_results : model.goal ≢ Goal.Satisfy → (results : List LeastResult) → AreWholeResults model options parts results → All (λ result. IsLeastSpent result.1 → ⊥) results → (best : Assignment) →
      IsFirstLeast model.goal (collected_in results) best → IsBestKnown model options parts best
  best_of_results objective results h unspent best is_best =
      let solve = least_solve order laws cuts records model rule goal f options parts (start_of model) (start_can_be_cut order model rule f) (order.itself (start_of model)) h.are.posted results h.are.are in
      record {
        found = record { results = results; are = h.are; unspent = unspent; is_best = is_best };
        solves = best_is_solution model (collected_in results) best solve is_best;
        least = λ cost costs. least_is_best model (collected_in results) best cost solve (h.reach unspent) is_best costs;
      }

  -- what the first phase gives, where a limit stopped it or nothing was collected
  pub ends_spent : (objective : model.goal ≢ Goal.Satisfy) (ends slice : List LeastEnd) → AreWholeEnds model options parts ends → (best : Option Assignment) → IsBestOf model.goal (flat_map least_collected ends) best →
      answer.solutions ≡ listed best → slice ≡ ends → Any IsLeastSpent slice → answer.mark ≡ mark_where answer.solutions → IsGiven model options answer
  ends_spent objective ends slice h best is_best e same spent m =
      least_spent order one every laws cuts whole are declared records model rule goal f options parts serve answer objective h.results h.whole best (of_results_best ends h best is_best) e
      (any_of_results ends h.results h.of_results (subst (λ (rs : List LeastEnd). Any IsLeastSpent rs) same spent)) m

  pub ends_nothing : (objective : model.goal ≢ Goal.Satisfy) (ends slice : List LeastEnd) → AreWholeEnds model options parts ends → (best : Option Assignment) → IsBestOf model.goal (flat_map least_collected ends) best →
      answer.solutions ≡ listed best → slice ≡ ends → All (λ end. IsLeastSpent end → ⊥) slice → best ≡ None → answer.mark ≡ mark_for false answer.solutions Mark.Complete → IsGiven model options answer
  ends_nothing objective ends slice h best is_best e same unspent none m =
      least_nothing order one every laws cuts whole are declared records model rule goal f options parts serve answer objective h.results h.whole best (of_results_best ends h best is_best) e
      (all_of_results ends h.results h.of_results (subst (λ (rs : List LeastEnd). All (λ end. IsLeastSpent end → ⊥) rs) same unspent)) none m

  -- what is known of the best, if no search for the least cost was stopped
  pub best_known : model.goal ≢ Goal.Satisfy → (ends slice : List LeastEnd) → AreWholeEnds model options parts ends → slice ≡ ends → All (λ end. IsLeastSpent end → ⊥) slice → (best : Assignment) →
      IsFirstLeast model.goal (flat_map least_collected ends) best → IsBestKnown model options parts best
  best_known objective ends slice h same unspent best is_best =
      best_of_results objective h.results h.whole (all_of_results ends h.results h.of_results (subst (λ (rs : List LeastEnd). All (λ end. IsLeastSpent end → ⊥) rs) same unspent)) best
      (of_results_best ends h (Some best) is_best)

  -- under a limit the first search too was one of the parts of the depth that is asked for
  found_limited : (best : Assignment) → IsBestOfParts model options best → HasLimit options → FindsBest model options (parts_to options.depth) best
  found_limited best known limit = subst (λ (ps : List Part). FindsBest model options ps best) (known.are.limited limit) known.known.found

  pub second_given : (objective : model.goal ≢ Goal.Satisfy) (cost : ℤ) (best : Assignment) → IsBestOfParts model options best → cost_of model.goal best ≡ Some cost → (results slice : List FirstEnd) →
      AreFirstResults model options parts (cut_to model.goal cost (start_of model)) results → answer.solutions ≡ take 1 (flat_map first_collected results ++ best ∷ []) → slice ≡ results → (open_part : Bool) →
      OnTrue open_part (IsOpen slice) → OnFalse open_part (IsOpen slice → ⊥) → OnTrue open_part (answer.mark ≡ Mark.Plain) → OnFalse open_part (answer.mark ≡ Mark.Complete) → IsGiven model options answer
  second_given objective cost best known costs results slice h e same true s u plain complete =
      second_open order one every laws cuts whole are declared records model rule goal f options parts serve answer objective cost (known.known.least cost costs) best (found_limited best known) (record { solves = known.known.solves; costs = costs }) results h e
      (subst (λ (rs : List FirstEnd). IsOpen rs) same s) plain
  second_given objective cost best known costs results slice h e same false s u plain complete =
      second_closed order one every laws cuts whole are declared records model rule goal f options parts serve answer objective cost (known.known.least cost costs) best (found_limited best known) (record { solves = known.known.solves; costs = costs }) results h e
      (subst (λ (rs : List FirstEnd). IsOpen rs → ⊥) same u) complete

  pub whole_solve : (ends : List LeastEnd) → AreWholeEnds model options parts ends → All (IsSolution model) (flat_map least_collected ends)
  whole_solve ends h =
      subst (All (IsSolution model)) (collected_same ends h.results h.of_results)
      (least_solve order laws cuts records model rule goal f options parts (start_of model) (start_can_be_cut order model rule f) (order.itself (start_of model)) h.whole.are.posted h.results h.whole.are.are)
