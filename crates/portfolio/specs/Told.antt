-- What the searches of a portfolio tell, each of its box, and what follows for the whole.
use Rattle.std.specs.Prelude.{◌≡◌, ℤ, List, flat_map, Option, Some, All, IfSome}
use Rattle.interval.specs.Boxes.{Bounds}
use Rattle.constraint_model.specs.declared.model.FznModel.{FznModel}
use Rattle.branching.specs.Tree.{SolutionsIn}
use Rattle.search.specs.declared.run.Run.{Run}
use Rattle.search.specs.Costs.{IsAtMost}
use Rattle.search.specs.Ends.{head_of}
use Rattle.search.specs.Turns.{CostsAtLeast}
use Rattle.race.specs.declared.incumbent.Incumbent.{Incumbent}
use Rattle.race.specs.Leasts.{IsIncumbent, IsLeastIn}
use Rattle.portfolio.specs.declared.told.FirstTold.{FirstTold}
use Rattle.portfolio.specs.declared.told.FirstTold.TheVariants.{Known, Unknown}
use Rattle.portfolio.specs.declared.told.Bound.{Bound}
use Rattle.portfolio.specs.declared.told.CostTold.{CostTold}
use Rattle.portfolio.specs.declared.told.LeastTold.{LeastTold}

-- ---- the first solution

-- what is told is the first of the list, or that it is empty; or nothing is told
abbrev pub TellsFirst : List (List ℤ) → FirstTold → Type 0
TellsFirst solutions (Known answer) = answer ≡ head_of solutions
TellsFirst solutions Unknown = Unit {0}

-- so it is of the list of the box that the run searches
abbrev pub TellsFirstIn : {L : Type 0} → Run L → Bounds → FirstTold → Type 0
TellsFirstIn run b told = (solutions : List (List ℤ)) → SolutionsIn run.model.now run.program.now.kernels b solutions → TellsFirst solutions told

-- lists one behind the other
abbrev pub joined : List (List (List ℤ)) → List (List ℤ)
joined lists = flat_map (λ (solutions : List (List ℤ)). solutions) lists

-- ---- the least cost

-- each solution in the box `sub` costs at least the bound, if there is one; and the best one is a solution in the box `b`
pub record TellsCosts (model : FznModel) (b sub : Bounds) (told : CostTold) : Type 0 where
  pub bound : IfSome told.bound (λ bound. CostsAtLeast model sub bound.at_least)
  pub best : IfSome told.best (IsIncumbent model b)

-- there is a bound, and what isn't below it isn't below this one
pub record IsBoundedFrom (least : Option ℤ) (told : CostTold) : Type 0 where
  pub own : Bound
  pub is : told.bound ≡ Some own
  pub lower : (cost : ℤ) → IsAtMost own.at_least cost → IsAtMost least cost

-- what bounds each of them bounds the costs of all solutions in the box
abbrev pub BoundTogether : FznModel → Bounds → List CostTold → Type 0
BoundTogether model b parts = (least : Option ℤ) → All (IsBoundedFrom least) parts → CostsAtLeast model b least

-- a solution of least cost in the box, or that it has none; or nothing is told
abbrev pub TellsLeast : FznModel → Bounds → LeastTold → Type 0
TellsLeast model b (LeastTold.Known best) = IsLeastIn model b best
TellsLeast model b LeastTold.Unknown = Unit {0}
