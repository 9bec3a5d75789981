-- What the solutions in a box are to a model, where the box is inside the start of the model's program.
use Rattle.std.specs.Prelude.{◌↔◌, ℤ, List, Contains}
use Rattle.interval.specs.Boxes.{Bounds, IsInRange, IsInside, IsPoint, IsProper}
use Rattle.constraint_model.specs.declared.model.FznModel.{FznModel}
use Rattle.constraint_model.specs.Relations.{IsSolution}
use Rattle.decompose.specs.Program.{fixed_box, extended, IsProgramOf}
use Rattle.decompose.specs.declared.program.Program.{Program}
use Rattle.constraint_model.specs.Searches.{IsSearchOf}
use Rattle.branching.specs.Tree.{AreFixed, SolutionsIn, IsSolutionIn, AreDistinct}

-- the assignment's numbers, with those of the constants, lie in the box
abbrev pub LiesIn : FznModel → List ℤ → Bounds → Type 0
LiesIn model a b = IsInside (fixed_box (extended model a)) b

-- a solution of the model that lies in the box
pub record SolvesInside (model : FznModel) (b : Bounds) (a : List ℤ) : Type 0 where
  pub solves : IsSolution model a
  pub inside : LiesIn model a b

-- the list has each solution of the model that lies in the box once, and nothing else
pub record ListsSolutionsInside (model : FznModel) (b : Bounds) (found : List (List ℤ)) : Type 0 where
  pub each : (a : List ℤ) → Contains found a ↔ SolvesInside model b a
  pub once : AreDistinct found

-- a proper box inside the program's start that fixes each declared variable is a point
abbrev pub FixedIsPoint : Type 0
FixedIsPoint = (model : FznModel) (program : Program) (b : Bounds) → IsProgramOf model program → IsInside b program.start →
    IsProper b → AreFixed model b → IsPoint b

-- the numbers of the closed points in a box inside the program's start are the model's solutions there
abbrev pub PointSolves : Type 0
PointSolves = (model : FznModel) (program : Program) (b : Bounds) (a : List ℤ) → IsProgramOf model program →
    IsInside b program.start → IsSolutionIn model program.kernels b a ↔ SolvesInside model b a

-- the list of solutions in a box inside the program's start is a list of the model's solutions there
abbrev pub SolutionsAreListed : Type 0
SolutionsAreListed = (model : FznModel) (program : Program) (b : Bounds) (found : List (List ℤ)) → IsProgramOf model program →
    IsSearchOf model → IsInRange b → IsInside b program.start → SolutionsIn model program.kernels b found →
    ListsSolutionsInside model b found
