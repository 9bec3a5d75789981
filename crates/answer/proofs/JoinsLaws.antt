-- What parts of the search tree give is the answer.
use Rattle.std.proofs.Common.{◌≡◌, ◌≢◌, ℤ, Bool, true, false, List, [], ◌∷◌, take, All, Contains, Some, sym, ap, subst, ◌∙◌, inl, inr, arith}
use Rattle.std.proofs.lemmas.List.Elements.{All-contains}
use Rattle.interval.specs.Boxes.{Bounds, InsideOrder}
use Rattle.constraint_model.specs.declared.model.Goal.{Goal}
use Rattle.constraint_model.specs.declared.model.FznModel.{FznModel}
use Rattle.constraint_model.specs.Relations.{cost_of, IsSolution}
use Rattle.constraint_model.specs.WellFormed.{IsWellFormed}
use Rattle.decompose.specs.Kernels.{kernels_of}
use Rattle.decompose.specs.Program.{start_of, IsProgramOf}
use Rattle.branching.specs.Tree.{SolutionsIn, EveryList}
use Rattle.solution_lists.specs.Solutions.{SolutionsAreListed}
use Rattle.solution_lists.specs.Order.{InDeclarationOrder}
use Rattle.subproblems.specs.Cuts.{CanBeCut}
use Rattle.fzn_print.specs.declared.marks.Mark.{Mark}
use Rattle.fzn_print.specs.declared.answers.Answer.{Answer}
use Rattle.tree_cover.specs.declared.part.Part.{Part}
use Rattle.tree_parts.specs.Whole.{joined, CostsAtLeast, EachCostsAtLeast, WholeOfParts, LeastOfParts}
use Rattle.answer.specs.Cuts.{cut_to}
use Rattle.answer.specs.Lists.{Assignment, ListsSolutions}
use Rattle.answer.specs.Least.{IsLeastCost}
use Rattle.answer.specs.Results.{program_of}
use Rattle.answer.specs.Finished.{IsFinished, Gives}
use Rattle.answer.specs.Given.{mark_for}
use Rattle.answer.specs.Parts.{AreParts}
use Rattle.answer.specs.Joins.{JoinLaws}
use Rattle.answer.proofs.GivenLaws.{optimal_given}
use Rattle.answer.proofs.ListedLaws.{start_can_be_cut, can_be_cut, lists_solutions, cut_in_start, cut_in_range, lists_solutions_at}

nothing_there : (a : Assignment) → Contains {X = Assignment} [] a → ⊥
nothing_there a h = let l = h.1 in omega arith

module _ (order : InsideOrder) (some : (model : FznModel) → IsWellFormed model → IsProgramOf model (program_of model)) (whole : WholeOfParts) (least_law : LeastOfParts)
    (every : EveryList) (are : SolutionsAreListed) (declared : InDeclarationOrder) (model : FznModel) (formed : IsWellFormed model) where
  f : IsProgramOf model (program_of model)
  f = some model formed

  can : CanBeCut model (kernels_of model) (start_of model)
  can = start_can_be_cut order model formed.search f

  listed : (found : List Assignment) → SolutionsIn model (kernels_of model) (start_of model) found → ListsSolutions model found
  listed found s = lists_solutions order model formed.search f are declared found s

  unsatisfiable : (all : Bool) (answer : Answer) → ListsSolutions model [] → answer.solutions ≡ [] → answer.mark ≡ Mark.Unsatisfiable → IsFinished model all answer
  unsatisfiable all answer l e m = inl (record { none = λ a h. nothing_there a ((l.each a).1 h); solutions = e; mark = m })

  joined_all : (answer : Answer) → model.goal ≡ Goal.Satisfy → (found : List Assignment) → SolutionsIn model (kernels_of model) (start_of model) found →
      answer.solutions ≡ found → answer.mark ≡ mark_for false answer.solutions Mark.Complete → IsFinished model true answer
  joined_all answer satisfy [] s e m = unsatisfiable true answer (listed [] s) e (m ∙ ap (λ (xs : List Assignment). mark_for false xs Mark.Complete) e)
  joined_all answer satisfy (a ∷ others) s e m =
      inr (subst (λ (g : Goal). Gives g true model answer) (sym satisfy) (record {
        first = a;
        others = others;
        listed = listed (a ∷ others) s;
        solutions = e;
        mark = m ∙ ap (λ (xs : List Assignment). mark_for false xs Mark.Complete) e;
      }))

  joined_first : (answer : Answer) → model.goal ≡ Goal.Satisfy → (found : List Assignment) → SolutionsIn model (kernels_of model) (start_of model) found →
      answer.solutions ≡ take 1 found → answer.mark ≡ mark_for false answer.solutions Mark.Plain → IsFinished model false answer
  joined_first answer satisfy [] s e m = unsatisfiable false answer (listed [] s) e (m ∙ ap (λ (xs : List Assignment). mark_for false xs Mark.Plain) e)
  joined_first answer satisfy (a ∷ others) s e m =
      inr (subst (λ (g : Goal). Gives g false model answer) (sym satisfy) (record {
        first = a;
        others = others;
        listed = listed (a ∷ others) s;
        solutions = e;
        mark = m ∙ ap (λ (xs : List Assignment). mark_for false xs Mark.Plain) e;
      }))

  joined_least : (parts : List Part) (cost : ℤ) (a : Assignment) → AreParts parts → All (EachCostsAtLeast model (kernels_of model) (start_of model) cost) parts →
      IsSolution model a → cost_of model.goal a ≡ Some cost → IsLeastCost model cost
  joined_least parts cost a are_parts h solves costs =
      let list = every model (kernels_of model) (start_of model) can.search can.long can.in_range can.fit in
      let from = least_law model (kernels_of model) (start_of model) parts cost list.0 can are_parts.each are_parts.cover h list.1 in
      let l = listed list.0 list.1 in
      record {
        some = record { assignment = a; solves = solves; costs = costs };
        least = λ b other solution costs_other. All-contains (CostsAtLeast model.goal cost) list.0 b from ((l.each b).1 solution) other costs_other;
      }

  module _ (cost : ℤ) (is_least : IsLeastCost model cost) where
    cut : Bounds
    cut = cut_to model.goal cost (start_of model)

    cut_can : CanBeCut model (kernels_of model) (cut_to model.goal cost (start_of model))
    cut_can = can_be_cut order model formed.search f (cut_to model.goal cost (start_of model)) (cut_in_start order model formed.search f are declared formed.objective cost is_least.some)
        (cut_in_range order model formed.search f are declared formed.objective cost is_least.some)

    joined_optimal : (all : Bool) (answer : Answer) → model.goal ≢ Goal.Satisfy → (found : List Assignment) → SolutionsIn model (kernels_of model) (cut_to model.goal cost (start_of model)) found →
        answer.solutions ≡ take 1 found → answer.mark ≡ Mark.Complete → IsFinished model all answer
    joined_optimal all answer objective [] s e m =
        absurd (nothing_there is_least.some.assignment
        (((lists_solutions_at order model formed.search f are declared formed.objective cost is_least.some [] s).each is_least.some.assignment).1
        (record { solves = is_least.some.solves; costs = is_least.some.costs })))
    joined_optimal all answer objective (a ∷ others) s e m = inr (optimal_given model answer model.goal all objective (record {
      cost = cost;
      least = is_least;
      first = a;
      others = others;
      listed = lists_solutions_at order model formed.search f are declared formed.objective cost is_least.some (a ∷ others) s;
      solutions = e;
      mark = m;
    }))

pub join_laws : InsideOrder → ((model : FznModel) → IsWellFormed model → IsProgramOf model (program_of model)) → WholeOfParts → LeastOfParts → EveryList → SolutionsAreListed → InDeclarationOrder → JoinLaws
join_laws order some whole least_law every are declared = record {
  all = λ model parts lists answer formed satisfy p h e m. joined_all order some whole least_law every are declared model formed answer satisfy (joined lists)
      (whole model (kernels_of model) (start_of model) parts lists (can order some whole least_law every are declared model formed) p.each p.cover h) e m;
  first = λ model parts lists answer formed satisfy p h e m. joined_first order some whole least_law every are declared model formed answer satisfy (joined lists)
      (whole model (kernels_of model) (start_of model) parts lists (can order some whole least_law every are declared model formed) p.each p.cover h) e m;
  least = λ model parts cost a formed p h solves costs. joined_least order some whole least_law every are declared model formed parts cost a p h solves costs;
  optimal = λ model all parts lists answer cost formed objective is_least p h e m. joined_optimal order some whole least_law every are declared model formed cost is_least all answer objective (joined lists)
      (whole model (kernels_of model) (cut_to model.goal cost (start_of model)) parts lists (cut_can order some whole least_law every are declared model formed cost is_least) p.each p.cover h) e m;
  none = λ model all parts lists answer formed p h nothing e m. unsatisfiable order some whole least_law every are declared model formed all answer
      (listed order some whole least_law every are declared model formed [] (subst (SolutionsIn model (kernels_of model) (start_of model)) nothing
      (whole model (kernels_of model) (start_of model) parts lists (can order some whole least_law every are declared model formed) p.each p.cover h))) e m;
}
