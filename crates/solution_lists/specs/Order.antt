-- The order of the declarations, in which solutions are found where no search annotation asks for another.
--
-- Source: the FlatZinc chapter of the MiniZinc Handbook, its search annotations `input_order` and `indomain_min`: of the
-- first variables that differ, the lesser value comes first.
use Rattle.std.specs.Prelude.{◌≡◌, ◌⊎◌, ℕ, ◌<◌, ℤ, pos, ◌<ℤ◌, List, [], ◌∷◌, length, slice_index_or, AllPairs}
use Rattle.interval.specs.Boxes.{Bounds}
use Rattle.guarded_tell.specs.declared.kernel.Kernel.{Kernel}
use Rattle.constraint_model.specs.declared.model.FznModel.{FznModel}
use Rattle.constraint_model.specs.Relations.{IsSolution}
use Rattle.constraint_model.specs.Searches.{last_phase}
use Rattle.decompose.specs.declared.program.Program.{Program}
use Rattle.decompose.specs.Program.{IsProgramOf}
use Rattle.branching.specs.Tree.{SolutionsIn}

-- the value of the variable at a place
abbrev pub value_at : List ℤ → ℕ → ℤ
value_at a v = slice_index_or a v (pos 0)

-- a comes before b: at the first variable where they differ, a has the lesser value
pub record IsBefore (a b : List ℤ) : Type 0 where
  pub place : ℕ
  pub in_list : place < length a
  pub same_before : (v : ℕ) → v < place → value_at a v ≡ value_at b v
  pub lesser : value_at a place <ℤ value_at b place

-- the model is searched by the last phase alone: its declared variables in order, the least value first
abbrev pub IsPlainSearch : FznModel → Type 0
IsPlainSearch model = model.search ≡ last_phase (length model.vars) ∷ []

-- then each solution in the list of a box comes before every later one
abbrev pub InDeclarationOrder : Type 0
InDeclarationOrder = (model : FznModel) (kernels : List Kernel) (b : Bounds) (found : List (List ℤ)) → IsPlainSearch model →
    length model.vars < length b → SolutionsIn model kernels b found → AllPairs IsBefore found

-- a solution before which no other comes
pub record IsLeastSolution (model : FznModel) (a : List ℤ) : Type 0 where
  pub solves : IsSolution model a
  pub least : (b : List ℤ) → IsSolution model b → (a ≡ b) ⊎ IsBefore a b

-- the list begins with the least solution, or is empty where there is none
abbrev pub BeginsWithLeast : FznModel → List (List ℤ) → Type 0
BeginsWithLeast model [] = (a : List ℤ) → IsSolution model a → ⊥
BeginsWithLeast model (a ∷ others) = IsLeastSolution model a

-- so the list of the program's start begins with the least solution of the model
abbrev pub LeastComesFirst : Type 0
LeastComesFirst = (model : FznModel) (program : Program) (found : List (List ℤ)) → IsProgramOf model program → IsPlainSearch model →
    SolutionsIn model program.kernels program.start found → BeginsWithLeast model found
