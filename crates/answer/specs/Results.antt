-- What the searches of the parts of the search tree give, where each has its own limits: one result for each part, at its place.
use Rattle.std.specs.Prelude.{◌≡◌, ℕ, ◌<◌, ℤ, ◌≤ℤ◌, List, [], ◌∷◌, take, flat_map, Option, Some, None, All, Any, Contains}
use Rattle.interval.specs.Boxes.{Bounds}
use Rattle.constraint_model.specs.declared.model.Goal.{Goal}
use Rattle.constraint_model.specs.declared.model.FznModel.{FznModel}
use Rattle.constraint_model.specs.Relations.{cost_of}
use Rattle.decompose.specs.declared.program.Program.{Program}
use Rattle.decompose.specs.Kernels.{kernels_of}
use Rattle.decompose.specs.Program.{start_of}
use Rattle.search.specs.declared.kind.Kind.{Kind}
use Rattle.search.specs.declared.ends.Why.{Why}
use Rattle.search.specs.declared.ends.FirstEnd.{FirstEnd}
use Rattle.search.specs.declared.ends.AllEnd.{AllEnd}
use Rattle.search.specs.Machine.{Search}
use Rattle.search.specs.Ends.{search_of, EndsSpent, IsFirstDone, IsAllEnd}
use Rattle.search.specs.declared.ends.LeastEnd.{LeastEnd}
use Rattle.search.specs.LeastEnds.{least_of, EndsLeast}
use Rattle.tree_cover.specs.declared.part.Part.{Part}
use Rattle.answer.specs.declared.options.Options.{Options}
use Rattle.answer.specs.Lists.{Assignment}
use Rattle.answer.specs.Places.{StandsAt, HasResult, AreResults}

-- the program of a model
abbrev pub program_of : FznModel → Program
program_of model = record { start = start_of model; kernels = kernels_of model }

-- a list of one solution, or of none
abbrev pub listed : Option Assignment → List Assignment
listed None = []
listed (Some a) = a ∷ []

-- ---- for the first solution

abbrev pub first_of : FznModel → Options → Bounds → Search
first_of model options sub = search_of model (program_of model) options.node_limit options.round_limit options.lanes Kind.First sub

-- The result of the part at a place: none where it leads to no subproblem, else an end of its limited search; or the part was
-- cancelled, whatever it leads to, since the result at a lesser place is a solution.
abbrev pub IsFirstResult : FznModel → Options → List FirstEnd → ℕ → Option Bounds → FirstEnd → Type 0
IsFirstResult model options results place path (FirstEnd.Cut lesser) =
    (a : Assignment) × (lesser < place) × StandsAt results lesser (FirstEnd.Done (Some a))
IsFirstResult model options results place None (FirstEnd.Done answer) = answer ≡ None
IsFirstResult model options results place None (FirstEnd.Spent nodes why) = ⊥
IsFirstResult model options results place (Some sub) (FirstEnd.Done answer) = IsFirstDone (first_of model options sub) answer
IsFirstResult model options results place (Some sub) (FirstEnd.Spent nodes why) = EndsSpent (first_of model options sub) why nodes []

abbrev pub AreFirstResults : FznModel → Options → List Part → Bounds → List FirstEnd → Type 0
AreFirstResults model options parts b results = AreResults model parts b (IsFirstResult model options results) results

-- the solutions that it collected
abbrev pub first_collected : FirstEnd → List Assignment
first_collected (FirstEnd.Done answer) = listed answer
first_collected (FirstEnd.Spent nodes why) = []
first_collected (FirstEnd.Cut lesser) = []

-- a limit stopped the search
abbrev pub IsFirstSpent : FirstEnd → Type 0
IsFirstSpent (FirstEnd.Done answer) = ⊥
IsFirstSpent (FirstEnd.Spent nodes why) = Unit {0}
IsFirstSpent (FirstEnd.Cut lesser) = ⊥

-- neither that, nor did it give a solution
abbrev pub IsIdle : FirstEnd → Type 0
IsIdle (FirstEnd.Done None) = Unit {0}
IsIdle (FirstEnd.Done (Some a)) = ⊥
IsIdle (FirstEnd.Spent nodes why) = ⊥
IsIdle (FirstEnd.Cut lesser) = Unit {0}

-- a limit stopped the search at the place, and none at a lesser place gave a solution
pub record IsOpenAt (results : List FirstEnd) (place : ℕ) : Type 0 where
  pub nodes : ℕ
  pub why : Why
  pub stopped : StandsAt results place (FirstEnd.Spent nodes why)
  pub none_before : (lesser : ℕ) (a : Assignment) → lesser < place → StandsAt results lesser (FirstEnd.Done (Some a)) → ⊥

-- so it is at some place: it isn't known whether a solution comes before those that were collected
abbrev pub IsOpen : List FirstEnd → Type 0
IsOpen results = (place : ℕ) × IsOpenAt results place

-- ---- for all solutions

abbrev pub all_of : FznModel → Options → Bounds → Search
all_of model options sub = search_of model (program_of model) options.node_limit options.round_limit options.lanes Kind.All sub

abbrev pub IsAllResult : FznModel → Options → ℕ → Option Bounds → AllEnd → Type 0
IsAllResult model options place None end = end ≡ AllEnd.Done []
IsAllResult model options place (Some sub) end = IsAllEnd (all_of model options sub) end

abbrev pub AreAllResults : FznModel → Options → List Part → List AllEnd → Type 0
AreAllResults model options parts results = AreResults model parts (start_of model) (IsAllResult model options) results

abbrev pub all_collected : AllEnd → List Assignment
all_collected (AllEnd.Done found) = found
all_collected (AllEnd.Spent nodes why found) = found

abbrev pub IsAllSpent : AllEnd → Type 0
IsAllSpent (AllEnd.Done found) = ⊥
IsAllSpent (AllEnd.Spent nodes why found) = Unit {0}

-- ---- for the least cost

-- what a search recorded, and its end
abbrev pub LeastResult : Type 0
LeastResult = List Assignment × LeastEnd

-- a result of the limited search that may use these posted costs
abbrev pub IsLeastResult : FznModel → Options → List ℤ → ℕ → Option Bounds → LeastResult → Type 0
IsLeastResult model options posted place None result = result ≡ ([], LeastEnd.Done None)
IsLeastResult model options posted place (Some sub) result =
    EndsLeast (least_of model (program_of model) options.node_limit options.round_limit options.lanes None posted sub) result.0 result.1

-- a result of the limited search that begins with this cost known, and may use no other but those that it records
abbrev pub IsResultFrom : FznModel → Options → Option ℤ → ℕ → Option Bounds → LeastResult → Type 0
IsResultFrom model options known place None result = result ≡ ([], LeastEnd.Done None)
IsResultFrom model options known place (Some sub) result =
    EndsLeast (least_of model (program_of model) options.node_limit options.round_limit options.lanes known [] sub) result.0 result.1

-- the solutions that were recorded, of results
abbrev pub recorded_in : List LeastResult → List Assignment
recorded_in results = flat_map (λ result. result.0) results

-- the least cost of these solutions, or none where there are none
abbrev pub IsLeastOf : Goal → List Assignment → Option ℤ → Type 0
IsLeastOf goal recorded None = recorded ≡ []
IsLeastOf goal recorded (Some cost) =
    Any (λ a. cost_of goal a ≡ Some cost) recorded × All (λ a. (other : ℤ) → cost_of goal a ≡ Some other → cost ≤ℤ other) recorded

-- the result at a place whose search begins with the least cost that was recorded before it
pub record ComesInTurn (model : FznModel) (options : Options) (parts : List Part) (b : Bounds) (earlier : List LeastResult) (place : ℕ) (result : LeastResult) : Type 0 where
  pub known : Option ℤ
  pub is_known : IsLeastOf model.goal (recorded_in earlier) known
  pub has_result : HasResult model parts b (IsResultFrom model options known) place result

-- the search at each place begins with the least cost that those at lesser places recorded
abbrev pub AreInTurn : FznModel → Options → List Part → List LeastResult → Type 0
AreInTurn model options parts results = (place : ℕ) (result : LeastResult) → StandsAt results place result →
    ComesInTurn model options parts (start_of model) (take place results) place result

-- the solutions that are collected of an end, and of results
abbrev pub least_collected : LeastEnd → List Assignment
least_collected (LeastEnd.Done answer) = listed answer
least_collected (LeastEnd.Spent nodes why so_far) = listed so_far

abbrev pub collected_in : List LeastResult → List Assignment
collected_in results = flat_map (λ result. least_collected result.1) results

abbrev pub IsLeastSpent : LeastEnd → Type 0
IsLeastSpent (LeastEnd.Done answer) = ⊥
IsLeastSpent (LeastEnd.Spent nodes why so_far) = Unit {0}

-- the solution costs so much at most
abbrev pub CostsAtMost : Goal → ℤ → Assignment → Type 0
CostsAtMost goal most a = (cost : ℤ) × (cost_of goal a ≡ Some cost) × (cost ≤ℤ most)

-- the searches may use the costs of what one of them recorded; one worker makes them in turn
pub record AreLeastResults (model : FznModel) (options : Options) (parts : List Part) (results : List LeastResult) : Type 0 where
  pub posted : List ℤ
  pub recorded : (cost : ℤ) → Contains posted cost → Any (λ result. Any (λ a. cost_of model.goal a ≡ Some cost) result.0) results
  pub are : AreResults model parts (start_of model) (IsLeastResult model options posted) results
  pub in_turn : options.workers ≡ 1 → AreInTurn model options parts results
