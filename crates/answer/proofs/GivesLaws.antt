-- Whatever an answer gives solves the model.
use Rattle.std.proofs.Common.{◌≡◌, ◌⊎◌, inl, inr, Bool, true, false, List, [], ◌∷◌, ◌++◌, get_or, flat_map, All, Contains, Option, None, Some, refl, sym, subst, arith}
use Rattle.std.proofs.lemmas.List.{get_or_default}
use Rattle.std.proofs.lemmas.List.Elements.{All-nil, All-cons, All-append}
use Rattle.interval.specs.Boxes.{InsideOrder}
use Rattle.constraint_model.specs.declared.model.Goal.{Goal}
use Rattle.constraint_model.specs.declared.model.FznModel.{FznModel}
use Rattle.constraint_model.specs.Relations.{IsSolution}
use Rattle.constraint_model.specs.WellFormed.{IsWellFormed}
use Rattle.decompose.specs.Kernels.{kernels_of}
use Rattle.decompose.specs.Program.{start_of, IsProgramOf}
use Rattle.solution_lists.specs.Solutions.{SolutionsAreListed}
use Rattle.solution_lists.specs.Order.{InDeclarationOrder}
use Rattle.subproblems.specs.Cuts.{CanBeCut, CutLaws}
use Rattle.subproblems.specs.Paths.{PathLaws}
use Rattle.search.specs.Laws.{RecordsSolutions}
use Rattle.tree_cover.specs.Covers.{parts_to}
use Rattle.answer.specs.declared.options.Options.{Options}
use Rattle.fzn_print.specs.declared.answers.Answer.{Answer}
use Rattle.answer.specs.Lists.{Assignment}
use Rattle.answer.specs.Finished.{IsFinished, Gives}
use Rattle.answer.specs.Cuts.{cut_to}
use Rattle.answer.specs.Unfinished.{IsBestOf, IsBestCollected, IsLeastCollected, GivesCollected}
use Rattle.answer.specs.Results.{program_of, listed, first_collected, LeastResult, AreLeastResults, collected_in}
use Rattle.answer.specs.Answers.{IsAnswer}
use Rattle.answer.proofs.ListedLaws.{start_can_be_cut, can_be_cut, cut_in_start, cut_in_range}
use Rattle.answer.proofs.SolveLaws.{firsts_solve, all_solve, least_solve}
use Rattle.answer.proofs.CoverLaws.{best_is_solution}
use Rattle.answer.proofs.GivenLaws.{first_of_list}

of_nothing : (P : Assignment → Type 0) (xs : List Assignment) → xs ≡ [] → All P xs
of_nothing P xs e = subst (All P) (sym e) (All-nil P)

of_one : (P : Assignment → Type 0) (xs : List Assignment) (a : Assignment) → xs ≡ a ∷ [] → P a → All P xs
of_one P xs a e h = subst (All P) (sym e) (All-cons P a [] h (All-nil P))

first_in : (a : Assignment) (others : List Assignment) → Contains (a ∷ others) a
first_in a others = (0, omega arith, refl)

all_in : (P : Assignment → Type 0) (xs : List Assignment) → ((a : Assignment) → Contains xs a → P a) → All P xs
all_in P xs each = λ k d l. each (get_or xs k d) (k, l, get_or_default xs k (get_or xs k d) d l)

-- ---- where no limit stopped a search

module _ (model : FznModel) (answer : Answer) where
  what_is_given : (goal : Goal) (all : Bool) → Gives goal all model answer → All (IsSolution model) answer.solutions
  what_is_given Goal.Satisfy false h = of_one (IsSolution model) answer.solutions h.first h.solutions ((h.listed.each h.first).0 (first_in h.first h.others))
  what_is_given Goal.Satisfy true h =
      subst (All (IsSolution model)) (sym h.solutions) (all_in (IsSolution model) (h.first ∷ h.others) (λ a there. (h.listed.each a).0 there))
  what_is_given (Goal.Minimize t) all h = of_one (IsSolution model) answer.solutions h.first h.solutions ((h.listed.each h.first).0 (first_in h.first h.others)).solves
  what_is_given (Goal.Maximize t) all h = of_one (IsSolution model) answer.solutions h.first h.solutions ((h.listed.each h.first).0 (first_in h.first h.others)).solves

  finished_solve : (all : Bool) → IsFinished model all answer → All (IsSolution model) answer.solutions
  finished_solve all (inl h) = of_nothing (IsSolution model) answer.solutions h.solutions
  finished_solve all (inr h) = what_is_given model.goal all h

-- ---- where one did

module _ (order : InsideOrder) (laws : PathLaws) (cuts : CutLaws) (are : SolutionsAreListed) (declared : InDeclarationOrder) (records : RecordsSolutions) (model : FznModel) (form : IsWellFormed model)
    (f : IsProgramOf model (program_of model)) (options : Options) (answer : Answer) where
  abbrev Solve : List Assignment → Type 0
  Solve found = All (IsSolution model) found

  can : CanBeCut model (kernels_of model) (start_of model)
  can = start_can_be_cut order model form.search f

  least_all_solve : (results : List LeastResult) → AreLeastResults model options (parts_to options.depth) results → Solve (collected_in results)
  least_all_solve results h = least_solve order laws cuts records model form.search form.objective f options (parts_to options.depth) (start_of model) can (order.itself (start_of model)) h.posted results h.are

  best_solves : (collected : List Assignment) (best : Option Assignment) → Solve collected → IsBestOf model.goal collected best → Solve (listed best)
  best_solves collected None solve b = All-nil (IsSolution model)
  best_solves collected (Some a) solve b = All-cons (IsSolution model) a [] (best_is_solution model collected a solve b) (All-nil (IsSolution model))

  least_given : IsLeastCollected model options answer → Solve answer.solutions
  least_given h =
      let cut = cut_to model.goal h.cost (start_of model) in
      let inside = cut_in_start order model form.search f are declared form.objective h.cost h.least.some in
      let cut_can = can_be_cut order model form.search f cut inside (cut_in_range order model form.search f are declared form.objective h.cost h.least.some) in
      let firsts = firsts_solve order laws cuts records model form.search form.objective f options (parts_to options.depth) cut cut_can inside h.results h.are in
      let best = best_is_solution model (collected_in h.found.results) h.best (least_all_solve h.found.results h.found.are) h.found.is_best in
      let both = All-append (IsSolution model) (flat_map first_collected h.results) (h.best ∷ []) firsts (All-cons (IsSolution model) h.best [] best (All-nil (IsSolution model))) in
      subst Solve (sym h.solutions) (first_of_list (IsSolution model) (flat_map first_collected h.results ++ h.best ∷ []) both)

  of_cost : IsBestCollected model options answer ⊎ IsLeastCollected model options answer → Solve answer.solutions
  of_cost (inl h) = subst Solve (sym h.solutions) (best_solves (collected_in h.results) h.best (least_all_solve h.results h.are) h.is_best)
  of_cost (inr h) = least_given h

  what_is_collected : (goal : Goal) (all : Bool) → GivesCollected goal all model options answer → Solve answer.solutions
  what_is_collected Goal.Satisfy false h =
      subst Solve (sym h.solutions)
      (first_of_list (IsSolution model) (flat_map first_collected h.results) (firsts_solve order laws cuts records model form.search form.objective f options (parts_to options.depth) (start_of model) can (order.itself (start_of model)) h.results h.are))
  what_is_collected Goal.Satisfy true h =
      subst Solve (sym h.solutions) (all_solve order laws cuts records model form.search form.objective f options (parts_to options.depth) (start_of model) can (order.itself (start_of model)) h.results h.are)
  what_is_collected (Goal.Minimize t) all h = of_cost h
  what_is_collected (Goal.Maximize t) all h = of_cost h

  pub answer_solves : IsAnswer model options answer → Solve answer.solutions
  answer_solves (inl h) = finished_solve model answer options.all h.finished
  answer_solves (inr h) = what_is_collected model.goal options.all h
