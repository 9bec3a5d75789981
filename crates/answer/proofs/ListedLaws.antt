-- The lists of solutions of the start, and of the start with its objective cut, are those of the model's solutions, and of
-- those that cost so much.
use Rattle.std.proofs.Common.{◌≡◌, ◌↔◌, ℕ, ℤ, ◌<◌, ◌≤ℤ◌, List, length, map, length-append, refl, sym, subst, ◌∙◌, arith, All}
use Rattle.std.proofs.lemmas.Int.{ints}
use Rattle.std.proofs.lemmas.List.{length-map}
use Rattle.interval.specs.Boxes.{Bounds, low_of, high_of, IsInside, IsInRange, IsProper, InsideOrder}
use Rattle.guarded_tell.specs.Kernels.{IsKernel}
use Rattle.constraint_model.specs.declared.model.VarDecl.{VarDecl}
use Rattle.constraint_model.specs.declared.model.FznModel.{FznModel}
use Rattle.constraint_model.specs.Relations.{IsSolution}
use Rattle.constraint_model.specs.Searches.{IsSearchOf}
use Rattle.constraint_model.specs.WellFormed.{constants_of, IsGoalOf}
use Rattle.decompose.specs.declared.program.Program.{Program}
use Rattle.decompose.specs.Kernels.{kernels_of}
use Rattle.decompose.specs.Program.{fixed_box, extended, start_of, IsProgramOf}
use Rattle.branching.specs.Tree.{SolutionsIn}
use Rattle.solution_lists.specs.Solutions.{LiesIn, SolvesInside, SolutionsAreListed, ListsSolutionsInside}
use Rattle.solution_lists.specs.Order.{InDeclarationOrder}
use Rattle.subproblems.specs.Cuts.{CanBeCut}
use Rattle.search.specs.LeastEnds.{IsCost}
use Rattle.answer.specs.Cuts.{cut_to}
use Rattle.answer.specs.Lists.{Assignment, ListsInOrder, ListsSolutions, IsSolutionAt, ListsSolutionsAt}
use Rattle.answer.specs.Results.{program_of}
use Rattle.answer.proofs.ObjectiveLaws.{low_fixed, high_fixed, cut_inside, within_length, stays_at, costs_at}

-- the program of a model is the one that the definitions name
pub same_program : (model : FznModel) (program : Program) → IsProgramOf model program → program ≡ program_of model
same_program model program f = λ i. record { start = f.start i; kernels = f.kernels i }

pub is_program : (model : FznModel) (program : Program) → IsProgramOf model program → IsProgramOf model (program_of model)
is_program model program f = subst (IsProgramOf model) (same_program model program f) f

equal_le : (x y : ℤ) → x ≡ y → x ≤ℤ y
equal_le x y e = omega (arith, ints)

pub long_start : (model : FznModel) → length model.vars < length (start_of model)
long_start model =
    let a = length-append (map (λ (d : VarDecl). (d.low, d.high)) model.vars) (fixed_box (constants_of model)) in
    let b = length-map {B = ℤ × ℤ} model.vars (λ (d : VarDecl). (d.low, d.high)) in
    omega arith

module _ (order : InsideOrder) (model : FznModel) (rule : IsSearchOf model) (f : IsProgramOf model (program_of model)) where
  -- what solves the model lies in the start
  pub lies_in_start : (a : List ℤ) → IsSolution model a → LiesIn model a (start_of model)
  lies_in_start a h = (f.points (extended model a)).1 (record { assignment = a; within = h.within; is_extension = refl })

  -- a box inside the start in range can be cut
  pub can_be_cut : (b : Bounds) → IsInside b (start_of model) → IsInRange b → CanBeCut model (kernels_of model) b
  can_be_cut b i range = record {
    search = rule;
    in_range = range;
    long = let e = i.same_length in let l = long_start model in omega arith;
    fit = subst (λ (n : ℕ). All (IsKernel n) (kernels_of model)) (sym i.same_length) f.can_run;
  }

  pub start_can_be_cut : CanBeCut model (kernels_of model) (start_of model)
  start_can_be_cut = can_be_cut (start_of model) (order.itself (start_of model)) f.in_range

  module _ (are : SolutionsAreListed) (declared : InDeclarationOrder) where
    listed_in : (b : Bounds) (IsOne : Assignment → Type 0) (found : List Assignment) → IsInside b (start_of model) → IsInRange b →
        ((a : Assignment) → SolvesInside model b a ↔ IsOne a) → SolutionsIn model (kernels_of model) b found → ListsInOrder model b IsOne found
    listed_in b IsOne found i range each s =
        let l : ListsSolutionsInside model b found = are model (program_of model) b found f rule range i s in
        record {
          in_order = s;
          each = λ a. ((λ c. (each a).0 ((l.each a).0 c)), (λ h. (l.each a).1 ((each a).1 h)));
          once = l.once;
          plain = λ alone. declared model (kernels_of model) b found alone (can_be_cut b i range).long s;
        }

    -- the list of the start has the model's solutions
    pub lists_solutions : (found : List Assignment) → SolutionsIn model (kernels_of model) (start_of model) found → ListsSolutions model found
    lists_solutions found s =
        listed_in (start_of model) (IsSolution model) found (order.itself (start_of model)) f.in_range
        (λ a. ((λ h. h.solves), (λ h. record { solves = h; inside = lies_in_start a h }))) s

    -- ---- the start with its objective cut to the cost of some solution

    module _ (goal : IsGoalOf model.vars model.goal) (cost : ℤ) (some : IsCost model cost) where
      abbrev cut : Bounds
      cut = cut_to model.goal cost (start_of model)

      pub lies_in_cut : (a : Assignment) → IsSolutionAt model cost a → LiesIn model a cut
      lies_in_cut a h = stays_at model a (within_length a model.vars h.solves.within) model.goal cost (start_of model) goal (long_start model) (lies_in_start a h.solves) h.costs

      pub cut_in_start : IsInside cut (start_of model)
      cut_in_start = cut_inside order model.goal cost (start_of model)

      proper_numbers : (xs : List ℤ) → IsProper (fixed_box xs)
      proper_numbers xs v h = equal_le (low_of (fixed_box xs) v) (high_of (fixed_box xs) v) (low_fixed xs v ∙ sym (high_fixed xs v))

      pub cut_in_range : IsInRange cut
      cut_in_range =
          let some_there = lies_in_cut some.assignment (record { solves = some.solves; costs = some.costs }) in
          order.in_range cut (start_of model) (order.outer_is_proper (fixed_box (extended model some.assignment)) cut (proper_numbers (extended model some.assignment)) some_there)
          f.in_range cut_in_start

      pub lists_solutions_at : (found : List Assignment) → SolutionsIn model (kernels_of model) cut found → ListsSolutionsAt model cost found
      lists_solutions_at found s =
          listed_in cut (IsSolutionAt model cost) found cut_in_start cut_in_range
          (λ a. (
            (λ h. record {
              solves = h.solves;
              costs = costs_at model a (within_length a model.vars h.solves.within) model.goal cost (start_of model) some.assignment goal (long_start model) some.costs h.inside;
            }),
            (λ h. record { solves = h.solves; inside = lies_in_cut a h }),
          )) s
