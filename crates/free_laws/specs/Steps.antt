-- How a search in a free order finds the least cost and the least keys: by boxes in which it found that there is no solution.
use Rattle.std.specs.Prelude.{◌≡◌, ℕ, ◌<◌, ℤ, ◌<ℤ◌, List, ◌∷◌, length}
use Rattle.interval.specs.Boxes.{Bounds, IsInRange, IsInside}
use Rattle.constraint_model.specs.declared.model.FznModel.{FznModel}
use Rattle.constraint_model.specs.Searches.{IsSearchOf}
use Rattle.decompose.specs.declared.program.Program.{Program}
use Rattle.decompose.specs.Program.{IsProgramOf}
use Rattle.branching.specs.Tree.{SolutionsIn}
use Rattle.solution_lists.specs.Solutions.{LiesIn, SolvesInside}
use Rattle.solution_lists.specs.Static.{IsStaticSearch, keys_of}
use Rattle.nogoods.specs.Nogoods.{HasNone}
use Rattle.free_laws.specs.Keys.{key_at, HasKeys}

-- a box of the space without a solution has none of the model's solutions
abbrev pub NoneSolves : Type 0
NoneSolves = (model : FznModel) (program : Program) (space b : Bounds) → IsProgramOf model program → IsInside space program.start →
    IsInside b space → HasNone program.kernels space b → (a : List ℤ) → SolvesInside model b a → ⊥

-- The search is done with key i of s: there is a box without a solution in which each solution of b lies that has the first i keys
-- of s and a lesser key i. That is the box of s's first keys under the assumption that key i is lesser.
pub record IsKeyDone (model : FznModel) (program : Program) (b : Bounds) (s : List ℤ) (i : ℕ) : Type 0 where
  pub space : Bounds
  pub part : Bounds
  pub in_space : IsInside space program.start
  pub inside : IsInside part space
  pub none : HasNone program.kernels space part
  pub holds : (a : List ℤ) → SolvesInside model b a → HasKeys model s i a → key_at model a i <ℤ key_at model s i → LiesIn model a part

-- once it is done with each key, s is the head of the list of the box
abbrev pub KeysDone : Type 0
KeysDone = (model : FznModel) (program : Program) (b : Bounds) (found : List (List ℤ)) (s : List ℤ) → IsProgramOf model program →
    IsStaticSearch model → IsSearchOf model → IsInRange b → IsInside b program.start → SolutionsIn model program.kernels b found →
    SolvesInside model b s → ((i : ℕ) → i < length (keys_of model s) → IsKeyDone model program b s i) →
    (others : List (List ℤ)) × (found ≡ s ∷ others)
