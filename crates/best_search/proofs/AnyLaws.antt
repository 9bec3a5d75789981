-- The first solution of the start is a solution, and where there is none the model has none.
use Rattle.std.proofs.Common.{◌≡◌, ◌<◌, ℕ, ℤ, List, [], ◌∷◌, length, map, length-append, Contains, Option, Some, None, Result, Ok, Err, refl, sym, subst, ◌∙◌, All, arith}
use Rattle.std.specs.Prelude.{IfOk}
use Rattle.std.proofs.lemmas.List.{length-map}
use Rattle.interval.specs.Boxes.{Bounds, IsInRange, IsInside, InsideOrder}
use Rattle.guarded_tell.specs.Kernels.{IsKernel}
use Rattle.constraint_model.specs.declared.model.VarDecl.{VarDecl}
use Rattle.constraint_model.specs.declared.model.FznModel.{FznModel}
use Rattle.constraint_model.specs.Relations.{IsSolution}
use Rattle.constraint_model.specs.Searches.{IsSearchOf}
use Rattle.constraint_model.specs.WellFormed.{constants_of}
use Rattle.decompose.specs.declared.program.Program.{Program}
use Rattle.decompose.specs.Program.{IsProgramOf, fixed_box, start_of}
use Rattle.branching.specs.Tree.{EveryList, SolutionsIn}
use Rattle.solution_lists.specs.Solutions.{SolvesInside, SolutionsAreListed, ListsSolutionsInside}
use Rattle.search.specs.Ends.{head_of}
use Rattle.search.specs.declared.run.Run.{Run}
use Rattle.search.specs.declared.first_turns.FirstTurn.{FirstTurn}
use Rattle.search.specs.declared.first_turns.FirstTurns.{FirstTurns}
use Rattle.search.specs.Premises.{IsRun}
use Rattle.search.specs.Turns.{IfFirstPaused, IsFirstOf, IsFirstTurn, IsFirstTurns, first_asked}
use Rattle.best_search.specs.Plans.{AreAll, IsAny}
use Rattle.best_search.specs.Searches.{IsPlain, IsPlainTurn}
use Rattle.best_search.proofs.PlanLaws.{in_start}

long_start : (model : FznModel) → length model.vars < length (start_of model)
long_start model =
    let a = length-append (map (λ (d : VarDecl). (d.low, d.high)) model.vars) (fixed_box (constants_of model)) in
    let b = length-map {B = ℤ × ℤ} model.vars (λ (d : VarDecl). (d.low, d.high)) in
    omega arith

nothing_in : (a : List ℤ) → Contains [] a → ⊥
nothing_in a h = let l = h.1 in omega arith

there_first : (a : List ℤ) (xs : List (List ℤ)) → Contains (a ∷ xs) a
there_first a xs = (0, omega arith, refl)

module _ (order : InsideOrder) (are : SolutionsAreListed) (model : FznModel) (program : Program) (f : IsProgramOf model program) (rule : IsSearchOf model) where
  pub listed : (found : List (List ℤ)) → SolutionsIn model program.kernels program.start found → ListsSolutionsInside model program.start found
  listed found s = are model program program.start found f rule f.in_range (order.itself program.start) s

  -- all solutions in the start are all of the model
  pub are_all : (found : List (List ℤ)) → SolutionsIn model program.kernels program.start found → AreAll model found
  are_all found s =
      let l = listed found s in
      record {
        each = λ a. ((λ h. ((l.each a).0 h).solves), (λ h. (l.each a).1 (in_start model program f a h)));
        once = l.once;
      }

  of_list : (all : List (List ℤ)) → SolutionsIn model program.kernels program.start all → (first : Option (List ℤ)) → first ≡ head_of all → IsAny model first
  of_list [] s first e = subst (IsAny model) (sym e) (λ a h. nothing_in a (((are_all [] s).each a).1 h))
  of_list (a ∷ others) s first e = subst (IsAny model) (sym e) (((are_all (a ∷ others) s).each a).0 (there_first a others))

  -- the first of the start
  pub first_is_any : EveryList → (first : Option (List ℤ)) → IsFirstOf model program.kernels program.start first → IsAny model first
  first_is_any every first is =
      let long : length model.vars < length program.start = subst (λ (b : Bounds). length model.vars < length b) (sym f.start) (long_start model) in
      let list = every model program.kernels program.start rule long f.in_range f.can_run in
      of_list list.0 list.1 first (is list.0 list.1)

-- a turn of the plain search
pub plain_turn_is : {L E : Type 0} (run : Run L) → IsRun run → InsideOrder → EveryList → SolutionsAreListed → (before after : FirstTurns) → IsPlain run before → (r : Result FirstTurn E) →
    IfOk r (IsFirstTurn run.model.now run.program.now.kernels (first_asked before)) → IfOk r (λ (_ : FirstTurn). first_asked after ≡ first_asked before) →
    IfOk r (λ (turn : FirstTurn). IfFirstPaused turn (IsFirstTurns run after)) → IfOk r (IsPlainTurn run after)
plain_turn_is run is order every are before after was (Ok (FirstTurn.Done answer)) turn asked turns =
    first_is_any order are run.model.now run.program.now is.program is.model.search every answer
    (subst (λ (b : Bounds). IsFirstOf run.model.now run.program.now.kernels b answer) was.same_box turn)
plain_turn_is run is order every are before after was (Ok FirstTurn.Paused) turn asked turns = record { turns = turns; same_box = asked ∙ was.same_box }
plain_turn_is run is order every are before after was (Err e) turn asked turns = tt
