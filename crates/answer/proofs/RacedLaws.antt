-- What a race gives is the answer.
use Rattle.std.proofs.Common.{◌≡◌, ◌≢◌, ℤ, ◌<◌, ◌<ℤ◌, Bool, false, List, [], ◌∷◌, length, All, Contains, Option, None, Some, refl, sym, ap, subst, subst₂, ◌∙◌, inl, inr, arith}
use Rattle.std.proofs.lemmas.Int.{ints}
use Rattle.std.proofs.lemmas.List.Elements.{All-nil, All-cons}
use Rattle.interval.specs.Boxes.{Bounds, InsideOrder}
use Rattle.constraint_model.specs.declared.model.Goal.{Goal}
use Rattle.constraint_model.specs.declared.model.FznModel.{FznModel}
use Rattle.constraint_model.specs.Relations.{cost_of, IsSolution}
use Rattle.constraint_model.specs.WellFormed.{IsWellFormed}
use Rattle.guarded_tell.specs.declared.kernel.Kernel.{Kernel}
use Rattle.decompose.specs.declared.program.Program.{Program}
use Rattle.decompose.specs.Kernels.{kernels_of}
use Rattle.decompose.specs.Program.{start_of, IsProgramOf}
use Rattle.branching.specs.Tree.{EveryList, SolutionsIn}
use Rattle.solution_lists.specs.Solutions.{SolvesInside, SolutionsAreListed}
use Rattle.solution_lists.specs.Order.{InDeclarationOrder}
use Rattle.solution_lists.specs.Static.{BeginsWithFirst}
use Rattle.search.specs.Ends.{head_of}
use Rattle.search.specs.LeastEnds.{IsCost}
use Rattle.search.specs.Turns.{IsFirstOf, CostsAtLeast}
use Rattle.race.specs.declared.incumbent.Incumbent.{Incumbent}
use Rattle.race.specs.Leasts.{IsFirstOfCost, IsIncumbent}
use Rattle.subproblems.specs.Cuts.{CanBeCut}
use Rattle.fzn_print.specs.declared.marks.Mark.{Mark}
use Rattle.fzn_print.specs.declared.answers.Answer.{Answer}
use Rattle.answer.specs.declared.options.Options.{Options}
use Rattle.answer.specs.Answers.{HasLimit}
use Rattle.answer.specs.Cuts.{cut_to}
use Rattle.answer.specs.Least.{IsLeastCost}
use Rattle.answer.specs.Lists.{Assignment, IsSolutionAt, ListsSolutionsAt}
use Rattle.answer.specs.Finished.{Gives, IsOptimal, IsFinished}
use Rattle.answer.specs.Given.{mark_for, IsGiven}
use Rattle.answer.specs.Raced.{IsUnlimited}
use Rattle.answer.specs.Results.{program_of, listed}
use Rattle.answer.specs.Settled.{FirstOfLists}
use Rattle.answer.proofs.ObjectiveLaws.{within_length, stays_at}
use Rattle.answer.proofs.ListedLaws.{long_start, lies_in_start, start_can_be_cut, can_be_cut, cut_in_start, cut_in_range, lists_solutions, lists_solutions_at}
use Rattle.answer.proofs.GivenLaws.{optimal_given}

nothing_in : (a : Assignment) → Contains [] a → ⊥
nothing_in a h = let l = h.1 in omega arith

there_first : (a : Assignment) (xs : List Assignment) → Contains (a ∷ xs) a
there_first a xs = (0, omega arith, refl)

one_solves : (model : FznModel) (given : List Assignment) (a : Assignment) → given ≡ a ∷ [] → IsSolution model a → All (IsSolution model) given
one_solves model given a e h = subst (All (IsSolution model)) (sym e) (All-cons (IsSolution model) a [] h (All-nil (IsSolution model)))

none_solve : (model : FznModel) (given : List Assignment) → given ≡ [] → All (IsSolution model) given
none_solve model given e = subst (All (IsSolution model)) (sym e) (All-nil (IsSolution model))

same_head : (a b : Assignment) → Some a ≡ Some b → a ≡ b
same_head a b e = cc

-- what is said of the run's program is said of the model's
pub first_by_program : (model : FznModel) (program : Program) → IsProgramOf model program → (b c : Bounds) (first : Option Assignment) → b ≡ c → IsFirstOf model program.kernels b first →
    IsFirstOf model (kernels_of model) c first
first_by_program model program f b c first e h =
    subst (λ (ks : List Kernel). IsFirstOf model ks c first) f.kernels (subst (λ (d : Bounds). IsFirstOf model program.kernels d first) e h)

pub incumbent_by_program : (model : FznModel) (program : Program) → IsProgramOf model program → (best : Incumbent) → IsIncumbent model program.start best → IsIncumbent model (start_of model) best
incumbent_by_program model program f best h = subst (λ (b : Bounds). IsIncumbent model b best) f.start h

pub least_by_program : (model : FznModel) (program : Program) → IsProgramOf model program → (cost : Option ℤ) → CostsAtLeast model program.start cost → CostsAtLeast model (start_of model) cost
least_by_program model program f cost h = subst (λ (b : Bounds). CostsAtLeast model b cost) f.start h

-- the best one lies in the box that is cut to its cost
pub solves_in_cut : InsideOrder → (model : FznModel) → IsWellFormed model → (program : Program) → IsProgramOf model program → (best : Incumbent) (cut : Bounds) → IsIncumbent model program.start best →
    cut ≡ cut_to model.goal best.cost program.start → SolvesInside model cut best.values
solves_in_cut order model form program f best cut is e =
    subst (λ (b : Bounds). SolvesInside model b best.values) (sym e) (record {
      solves = is.solves.solves;
      inside = stays_at model best.values (within_length best.values model.vars is.solves.solves.within) model.goal best.cost program.start form.objective
          (subst (λ (b : Bounds). length model.vars < length b) (sym f.start) (long_start model)) is.solves.inside is.costs;
    })

module _ (order : InsideOrder) (every : EveryList) (are : SolutionsAreListed) (declared : InDeclarationOrder) (model : FznModel) (form : IsWellFormed model) (f : IsProgramOf model (program_of model))
    (options : Options) (unlimited : IsUnlimited options) (answer : Answer) where
  abbrev start : Bounds
  start = start_of model

  no_limit : HasLimit options → ⊥
  no_limit (inl limit) = limit unlimited.node_limit
  no_limit (inr limit) = limit unlimited.round_limit

  given : IsFinished model options.all answer → All (IsSolution model) answer.solutions → IsGiven model options answer
  given done solve = record {
    is_answer = inl (record { finished = done; unspent = λ limit. absurd (no_limit limit) });
    whole = λ n r. done;
    solve = solve;
  }

  -- ---- where there is no solution

  pub none_given : ((a : Assignment) → IsSolution model a → ⊥) → answer.solutions ≡ [] → answer.mark ≡ Mark.Unsatisfiable → IsGiven model options answer
  none_given none e m = given (inl (record { none = none; solutions = e; mark = m })) (none_solve model answer.solutions e)

  pub none_inside : ((a : Assignment) → SolvesInside model start a → ⊥) → answer.solutions ≡ [] → answer.mark ≡ Mark.Unsatisfiable → IsGiven model options answer
  none_inside none e m = none_given (λ a h. none a (record { solves = h; inside = lies_in_start order model form.search f a h })) e m

  -- ---- the first solution

  module _ (satisfy : model.goal ≡ Goal.Satisfy) (one : options.all ≡ false) (first : Option Assignment) (e : answer.solutions ≡ listed first) (m : answer.mark ≡ mark_for false answer.solutions Mark.Plain) where
    of_list : (all : List Assignment) → SolutionsIn model (kernels_of model) start all → first ≡ head_of all → IsGiven model options answer
    of_list [] s h =
        let empty : answer.solutions ≡ [] = e ∙ ap listed h in
        let l = lists_solutions order model form.search f are declared [] s in
        none_given (λ a k. nothing_in a ((l.each a).1 k)) empty (m ∙ ap (λ (xs : List Assignment). mark_for false xs Mark.Plain) empty)
    of_list (a ∷ others) s h =
        let alone : answer.solutions ≡ a ∷ [] = e ∙ ap listed h in
        let l = lists_solutions order model form.search f are declared (a ∷ others) s in
        given (inr (subst₂ (λ (g : Goal) (b : Bool). Gives g b model answer) (sym satisfy) (sym one) (record {
          first = a;
          others = others;
          listed = l;
          solutions = alone;
          mark = m ∙ ap (λ (xs : List Assignment). mark_for false xs Mark.Plain) alone;
        }))) (one_solves model answer.solutions a alone ((l.each a).0 (there_first a others)))

    pub raced_first_given : IsFirstOf model (kernels_of model) start first → IsGiven model options answer
    raced_first_given is_first =
        let can = start_can_be_cut order model form.search f in
        let list = every model (kernels_of model) start form.search can.long can.in_range can.fit in
        of_list list.0 list.1 (is_first list.0 list.1)

  -- ---- the first solution of least cost

  module _ (objective : model.goal ≢ Goal.Satisfy) (m : answer.mark ≡ Mark.Complete) (best : Incumbent) (is : IsIncumbent model start best) (least : CostsAtLeast model start (Some best.cost)) where
    least_cost : IsLeastCost model best.cost
    least_cost = record {
      some = record { assignment = best.values; solves = is.solves.solves; costs = is.costs };
      least = λ a other h k. least a other (record { solves = h; inside = lies_in_start order model form.search f a h }) k;
    }

    abbrev cut : Bounds
    cut = cut_to model.goal best.cost start

    cut_can : CanBeCut model (kernels_of model) cut
    cut_can = can_be_cut order model form.search f cut (cut_in_start order model form.search f are declared form.objective best.cost least_cost.some)
        (cut_in_range order model form.search f are declared form.objective best.cost least_cost.some)

    best_at : IsSolutionAt model best.cost best.values
    best_at = record { solves = is.solves.solves; costs = is.costs }

    optimal : (list : List Assignment) → ListsSolutionsAt model best.cost list → (first : Option Assignment) → first ≡ head_of list → answer.solutions ≡ listed first → IsGiven model options answer
    optimal [] l first h e = absurd (nothing_in best.values ((l.each best.values).1 best_at))
    optimal (a ∷ others) l first h e =
        let alone : answer.solutions ≡ a ∷ [] = e ∙ ap listed h in
        given (inr (optimal_given model answer model.goal options.all objective (record {
          cost = best.cost;
          least = least_cost;
          first = a;
          others = others;
          listed = l;
          solutions = alone;
          mark = m;
        }))) (one_solves model answer.solutions a alone ((l.each a).0 (there_first a others)).solves)

    cut_list : (found : List Assignment) × SolutionsIn model (kernels_of model) cut found
    cut_list = every model (kernels_of model) cut form.search cut_can.long cut_can.in_range cut_can.fit

    -- it was searched for in the box that is cut to the least cost
    pub raced_optimum_given : (first : Option Assignment) → IsFirstOf model (kernels_of model) cut first → answer.solutions ≡ listed first → IsGiven model options answer
    raced_optimum_given first is_first e =
        optimal cut_list.0 (lists_solutions_at order model form.search f are declared form.objective best.cost least_cost.some cut_list.0 cut_list.1) first (is_first cut_list.0 cut_list.1) e

    -- the best one is known to be the first
    not_less : (x y : ℤ) → x ≡ y → x <ℤ y → ⊥
    not_less x y e h = omega (arith, ints)

    best_heads : IsFirstOfCost model start best.values → (list : List Assignment) → BeginsWithFirst model (IsSolutionAt model best.cost) list → Some best.values ≡ head_of list
    best_heads first [] begins = absurd (begins best.values best_at)
    best_heads first (a ∷ others) begins =
        elim (begins.1 best.values best_at) [
          | inl e ↦ ap (λ (x : Assignment). Some x) (sym e)
          | inr before ↦ absurd (not_less best.cost best.cost refl
              (first.first a best.cost best.cost (record { solves = begins.0.solves; inside = lies_in_start order model form.search f a begins.0.solves }) before is.costs begins.0.costs))
        ]

    pub raced_settled_given : FirstOfLists → IsFirstOfCost model start best.values → answer.solutions ≡ best.values ∷ [] → IsGiven model options answer
    raced_settled_given lists first e =
        let l = lists_solutions_at order model form.search f are declared form.objective best.cost least_cost.some cut_list.0 cut_list.1 in
        optimal cut_list.0 l (Some best.values) (best_heads first cut_list.0 (lists.at model best.cost cut_list.0 first.static_order form.search l)) e
