-- A portfolio: run 0 of a crew is that of a search of the whole in a free order, and run k + 1 that of the part at place k.
use Rattle.std.specs.Prelude.{◌≡◌, ℕ, zero, suc, ℤ, List, length, Option, Some, IfSome, Contains}
use Rattle.interval.specs.Boxes.{Bounds}
use Rattle.constraint_model.specs.declared.model.FznModel.{FznModel}
use Rattle.decompose.specs.Kernels.{kernels_of}
use Rattle.subproblems.specs.Paths.{SolutionsOf}
use Rattle.search.specs.Turns.{CostsAtLeast}
use Rattle.tree_cover.specs.declared.part.Part.{Part}
use Rattle.race.specs.Leasts.{IsIncumbent}
use Rattle.portfolio.specs.declared.told.FirstTold.{FirstTold}
use Rattle.portfolio.specs.declared.told.CostTold.{CostTold}
use Rattle.portfolio.specs.Told.{TellsFirst, TellsCosts}
use Rattle.answer.specs.Lists.{Assignment}
use Rattle.answer.specs.Places.{StandsAt, PartLeadsTo}

-- each run tells what is so of its number
pub record AreTellingRuns {E : Type 0} (Tells : ℕ → E → Type 0) (runs : List (ℕ × E)) : Type 0 where
  pub each : (number : ℕ) (told : E) → Contains runs (number, told) → Tells number told

-- so it is of their ends in order, that of the whole first
pub record AreTellingEnds {E : Type 0} (Tells : ℕ → E → Type 0) (parts : ℕ) (ends : List E) : Type 0 where
  pub count : length ends ≡ suc parts
  pub each : (number : ℕ) (told : E) → StandsAt ends number told → Tells number told

-- ---- the first solution

-- it is told of the list of solutions of what was led to, a box or nothing
abbrev pub TellsFirstOf : FznModel → Option Bounds → FirstTold → Type 0
TellsFirstOf model path told = (found : List Assignment) → SolutionsOf model (kernels_of model) path found → TellsFirst found told

-- so it is of the whole, or of what the part of the number leads to
abbrev pub TellsHead : FznModel → List Part → Bounds → ℕ → FirstTold → Type 0
TellsHead model parts b zero told = TellsFirstOf model (Some b) told
TellsHead model parts b (suc place) told = (path : Option Bounds) → PartLeadsTo model (kernels_of model) parts b place path → TellsFirstOf model path told

-- ---- the least cost

-- the best one is a solution, and each in what the part at the place leads to costs at least the bound, if there is one
pub record TellsCostAt (model : FznModel) (parts : List Part) (b : Bounds) (place : ℕ) (told : CostTold) : Type 0 where
  pub best : IfSome told.best (IsIncumbent model b)
  pub bound : (sub : Bounds) → PartLeadsTo model (kernels_of model) parts b place (Some sub) → IfSome told.bound (λ bound. CostsAtLeast model sub bound.at_least)

abbrev pub TellsCost : FznModel → List Part → Bounds → ℕ → CostTold → Type 0
TellsCost model parts b zero told = TellsCosts model b b told
TellsCost model parts b (suc place) told = TellsCostAt model parts b place told
