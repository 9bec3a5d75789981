-- What is known of the runs that workers have made so far: with what their seats have seen and posted. The number of a run is
-- the place of its part in the list of parts.
use Rattle.std.specs.Prelude.{◌≡◌, ◌≢◌, ℕ, ◌<◌, ℤ, List, [], map, take, Option, Some, None, All, Any, Contains}
use Rattle.interval.specs.Boxes.{Bounds}
use Rattle.constraint_model.specs.declared.model.Goal.{Goal}
use Rattle.constraint_model.specs.declared.model.FznModel.{FznModel}
use Rattle.constraint_model.specs.Relations.{cost_of, IsSolution}
use Rattle.decompose.specs.Kernels.{kernels_of}
use Rattle.branching.specs.Tree.{SolutionsIn}
use Rattle.best_bound.specs.Lists.{Among}
use Rattle.search.specs.declared.ends.FirstEnd.{FirstEnd}
use Rattle.search.specs.declared.ends.AllEnd.{AllEnd}
use Rattle.search.specs.declared.ends.LeastEnd.{LeastEnd}
use Rattle.search.specs.Ends.{EndsSpent, IsFirstDone}
use Rattle.search.specs.LeastEnds.{CostAtLeast, OnDone}
use Rattle.tree_cover.specs.declared.part.Part.{Part}
use Rattle.answer.specs.declared.options.Options.{Options}
use Rattle.answer.specs.Lists.{Assignment}
use Rattle.answer.specs.Places.{StandsAt, PartLeadsTo, HasResult}
use Rattle.answer.specs.Results.{first_of, IsAllResult, LeastResult, IsLeastResult, recorded_in, ComesInTurn, least_collected, collected_in, IsLeastSpent, CostsAtMost, AreLeastResults}

-- ---- for the first solution

-- what the part with this number leads to from a box has a solution: its list isn't empty
pub record HasSolution (model : FznModel) (parts : List Part) (b : Bounds) (number : ℕ) : Type 0 where
  pub sub : Bounds
  pub leads : PartLeadsTo model (kernels_of model) parts b number (Some sub)
  pub solutions : List Assignment
  pub listed : SolutionsIn model (kernels_of model) sub solutions
  pub some : solutions ≢ []

-- The end of the run of a number by a seat that has seen these numbers. A seat sees more and more: what one run saw least is
-- still among them.
abbrev pub IsFirstRun : FznModel → Options → List ℕ → ℕ → Option Bounds → FirstEnd → Type 0
IsFirstRun model options seen number path (FirstEnd.Cut lesser) = (lesser < number) × Among seen lesser
IsFirstRun model options seen number None (FirstEnd.Done answer) = answer ≡ None
IsFirstRun model options seen number None (FirstEnd.Spent nodes why) = ⊥
IsFirstRun model options seen number (Some sub) (FirstEnd.Done answer) = IsFirstDone (first_of model options sub) answer
IsFirstRun model options seen number (Some sub) (FirstEnd.Spent nodes why) = EndsSpent (first_of model options sub) why nodes []

-- each number was run, and those that were posted have a solution
pub record AreFirstRuns (model : FznModel) (options : Options) (parts : List Part) (b : Bounds) (seen posted : List ℕ) (runs : List (ℕ × FirstEnd)) : Type 0 where
  pub each : (number : ℕ) (end : FirstEnd) → Contains runs (number, end) → HasResult model parts b (IsFirstRun model options seen) number end
  pub solved : (number : ℕ) → Among posted number → (a : Assignment) × Contains runs (number, FirstEnd.Done (Some a))

-- ---- for all solutions

pub record AreAllRuns (model : FznModel) (options : Options) (parts : List Part) (b : Bounds) (runs : List (ℕ × AllEnd)) : Type 0 where
  pub each : (number : ℕ) (end : AllEnd) → Contains runs (number, end) → HasResult model parts b (IsAllResult model options) number end

-- ---- for the least cost

-- each solution in what a part leads to costs at least one of these costs, if the search is at its end
abbrev pub IsCovered : FznModel → List ℤ → Option Bounds → LeastEnd → Type 0
IsCovered model seen None end = Unit {0}
IsCovered model seen (Some sub) end = OnDone end (CostAtLeast model sub seen)

-- the result of the run of a number by a seat that has seen these costs
abbrev pub IsLeastRun : FznModel → Options → List ℤ → ℕ → Option Bounds → LeastResult → Type 0
IsLeastRun model options seen number path result = IsLeastResult model options seen number path result × IsCovered model seen path result.1

-- a run, without what it recorded
abbrev pub run_of : ℕ × LeastResult → ℕ × LeastEnd
run_of result = (result.0, result.1.1)

-- one of these runs recorded a solution of this cost
pub record IsRecordedBy (goal : Goal) (results : List (ℕ × LeastResult)) (cost : ℤ) : Type 0 where
  pub number : ℕ
  pub result : LeastResult
  pub there : Contains results (number, result)
  pub recorded : Any (λ a. cost_of goal a ≡ Some cost) result.0

-- one of these runs gives a solution that costs so much at most
pub record IsReachedBy (goal : Goal) (results : List (ℕ × LeastResult)) (cost : ℤ) : Type 0 where
  pub number : ℕ
  pub result : LeastResult
  pub there : Contains results (number, result)
  pub reached : Any (CostsAtMost goal cost) (least_collected result.1)

-- each run's search began with the least cost that those before it recorded
abbrev pub AreRunsInTurn : FznModel → Options → List Part → Bounds → List (ℕ × LeastResult) → Type 0
AreRunsInTurn model options parts b results = (place : ℕ) (run : ℕ × LeastResult) → StandsAt results place run →
    ComesInTurn model options parts b (map (λ earlier. earlier.1) (take place results)) run.0 run.1

-- each number was run; of each cost that was posted a run recorded a solution, and gives one that costs so much at most; the
-- cost of each solution that was recorded was posted; and one worker made the runs in turn
pub record AreLeastRuns (model : FznModel) (options : Options) (parts : List Part) (b : Bounds) (seen posted : List ℤ) (runs : List (ℕ × LeastEnd)) : Type 0 where
  pub results : List (ℕ × LeastResult)
  pub of_runs : map run_of results ≡ runs
  pub each : (number : ℕ) (result : LeastResult) → Contains results (number, result) → HasResult model parts b (IsLeastRun model options seen) number result
  pub recorded : (cost : ℤ) → Among posted cost → IsRecordedBy model.goal results cost
  pub reached : (cost : ℤ) → Among posted cost → IsReachedBy model.goal results cost
  pub posts : (a : Assignment) (cost : ℤ) → Contains (recorded_in (map (λ run. run.1) results)) a → cost_of model.goal a ≡ Some cost → Among posted cost
  pub in_turn : options.workers ≡ 1 → AreRunsInTurn model options parts b results

-- of each solution's cost there is one among these that costs so much at most
abbrev pub ReachAll : FznModel → List Assignment → Type 0
ReachAll model collected = (a : Assignment) (cost : ℤ) → IsSolution model a → cost_of model.goal a ≡ Some cost → Any (CostsAtMost model.goal cost) collected

-- what is known of the results for the least cost: they are such, and where no search was stopped they reach all costs
pub record AreWholeResults (model : FznModel) (options : Options) (parts : List Part) (results : List LeastResult) : Type 0 where
  pub are : AreLeastResults model options parts results
  pub reach : All (λ result. IsLeastSpent result.1 → ⊥) results → ReachAll model (collected_in results)

-- and so it is of their ends
pub record AreWholeEnds (model : FznModel) (options : Options) (parts : List Part) (ends : List LeastEnd) : Type 0 where
  pub results : List LeastResult
  pub of_results : map (λ result. result.1) results ≡ ends
  pub whole : AreWholeResults model options parts results
