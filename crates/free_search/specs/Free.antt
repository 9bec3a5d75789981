-- What is known of a free search that goes on.
use Rattle.std.specs.Prelude.{ℤ, List}
use Rattle.interval.specs.Boxes.{Bounds, IsInside}
use Rattle.constraint_model.specs.declared.model.FznModel.{FznModel}
use Rattle.solution_lists.specs.Solutions.{LiesIn, SolvesInside}
use Rattle.nogoods.specs.Learners.{Serves}
use Rattle.search.specs.declared.run.Run.{Run}
use Rattle.free_search.specs.declared.free.FreeSearch.{FreeSearch}

-- the box lies in two others, and holds what lies in both
pub record IsMeet (first second met : Bounds) : Type 0 where
  pub in_first : IsInside met first
  pub in_second : IsInside met second
  pub holds : (b : Bounds) → IsInside b first → IsInside b second → IsInside b met

-- the box lies in another, and holds all of the model's solutions there
pub record HoldsAll (model : FznModel) (outer b : Bounds) : Type 0 where
  pub inside : IsInside b outer
  pub holds : (a : List ℤ) → SolvesInside model outer a → LiesIn model a b

-- its space lies in the start of the run's program and holds all of the model's solutions there, and what it keeps are
-- nogoods of that space
pub record IsFreeSearch {L : Type 0} (run : Run L) (free : FreeSearch) : Type 0 where
  pub space : HoldsAll run.model.now run.program.now.start free.space
  pub serves : Serves run.program.now.kernels free.space free.learner
