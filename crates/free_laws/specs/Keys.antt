-- The first solution of a static order by its keys.
use Rattle.std.specs.Prelude.{◌≡◌, ℕ, ◌<◌, ℤ, ◌≤ℤ◌, List, ◌∷◌, length}
use Rattle.interval.specs.Boxes.{Bounds, IsInRange, IsInside}
use Rattle.constraint_model.specs.declared.model.FznModel.{FznModel}
use Rattle.constraint_model.specs.Searches.{IsSearchOf}
use Rattle.decompose.specs.declared.program.Program.{Program}
use Rattle.decompose.specs.Program.{IsProgramOf}
use Rattle.branching.specs.Tree.{SolutionsIn}
use Rattle.solution_lists.specs.Solutions.{SolvesInside}
use Rattle.solution_lists.specs.Order.{value_at}
use Rattle.solution_lists.specs.Static.{IsStaticSearch, keys_of}

-- the key at a place
abbrev pub key_at : FznModel → List ℤ → ℕ → ℤ
key_at model a i = value_at (keys_of model a) i

-- a has the first i keys of s
abbrev pub HasKeys : FznModel → List ℤ → ℕ → List ℤ → Type 0
HasKeys model s i a = (j : ℕ) → j < i → key_at model a j ≡ key_at model s j

-- of those that have the first i keys of s none has a lesser key i
abbrev pub IsLeastAt : FznModel → (List ℤ → Type 0) → List ℤ → ℕ → Type 0
IsLeastAt model IsOne s i = (a : List ℤ) → IsOne a → HasKeys model s i a → key_at model s i ≤ℤ key_at model a i

-- s is one of these, and its keys are the least, one after another
pub record IsLeastByKeys (model : FznModel) (IsOne : List ℤ → Type 0) (s : List ℤ) : Type 0 where
  pub is_one : IsOne s
  pub least : (i : ℕ) → i < length (keys_of model s) → IsLeastAt model IsOne s i

-- so it is the head of the list of the box
abbrev pub FirstByKeys : Type 0
FirstByKeys = (model : FznModel) (program : Program) (b : Bounds) (found : List (List ℤ)) (s : List ℤ) → IsProgramOf model program →
    IsStaticSearch model → IsSearchOf model → IsInRange b → IsInside b program.start → SolutionsIn model program.kernels b found →
    IsLeastByKeys model (SolvesInside model b) s → (others : List (List ℤ)) × (found ≡ s ∷ others)
