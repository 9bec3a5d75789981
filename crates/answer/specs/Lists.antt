-- Lists of a model's solutions in the order of its search tree.
--
-- Source: the FlatZinc chapter of the MiniZinc Handbook, its search annotations.
use Rattle.std.specs.Prelude.{◌≡◌, ◌↔◌, ℤ, List, Some, AllPairs, Contains}
use Rattle.interval.specs.Boxes.{Bounds}
use Rattle.constraint_model.specs.declared.model.FznModel.{FznModel}
use Rattle.constraint_model.specs.Relations.{cost_of, IsSolution}
use Rattle.decompose.specs.Kernels.{kernels_of}
use Rattle.decompose.specs.Program.{start_of}
use Rattle.branching.specs.Tree.{SolutionsIn, AreDistinct}
use Rattle.solution_lists.specs.Order.{IsBefore, IsPlainSearch}
use Rattle.answer.specs.Cuts.{cut_to}

-- a value for each declared variable, in order
abbrev pub Assignment : Type 0
Assignment = List ℤ

-- The list has the solutions that lie in a box in the order of the search tree, that of propagation and branching alone.
-- These are the assignments that meet `IsOne`, each of them once; and where no search annotation asks for anything they are
-- in the lexicographic order of the declarations.
pub record ListsInOrder (model : FznModel) (b : Bounds) (IsOne : Assignment → Type 0) (found : List Assignment) : Type 0 where
  pub in_order : SolutionsIn model (kernels_of model) b found
  pub each : (a : Assignment) → Contains found a ↔ IsOne a
  pub once : AreDistinct found
  pub plain : IsPlainSearch model → AllPairs IsBefore found

-- the model's solutions in order
abbrev pub ListsSolutions : FznModel → List Assignment → Type 0
ListsSolutions model found = ListsInOrder model (start_of model) (IsSolution model) found

-- a solution that costs so much
pub record IsSolutionAt (model : FznModel) (cost : ℤ) (a : Assignment) : Type 0 where
  pub solves : IsSolution model a
  pub costs : cost_of model.goal a ≡ Some cost

-- the model's solutions that cost so much in order: those in its start with the objective cut to that value
abbrev pub ListsSolutionsAt : FznModel → ℤ → List Assignment → Type 0
ListsSolutionsAt model cost found = ListsInOrder model (cut_to model.goal cost (start_of model)) (IsSolutionAt model cost) found
