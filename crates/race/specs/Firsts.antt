-- What is known of a race for the first solution of a box.
use Rattle.std.specs.Prelude.{◌≡◌, ℤ, List, Option, IfSome}
use Rattle.interval.specs.Boxes.{Bounds}
use Rattle.solution_lists.specs.Solutions.{SolvesInside}
use Rattle.search.specs.declared.run.Run.{Run}
use Rattle.search.specs.declared.first_turns.FirstTurns.{FirstTurns}
use Rattle.search.specs.Turns.{IsFirstOf, IsFirstTurns, first_asked}
use Rattle.free_search.specs.declared.free.FreeSearch.{FreeSearch}
use Rattle.free_search.specs.Free.{IsFreeSearch}
use Rattle.first_keys.specs.declared.keys.Keys.{Keys}
use Rattle.first_keys.specs.Least.{IsKeys, asked}
use Rattle.race.specs.declared.task.Task.{Task}
use Rattle.race.specs.declared.road.Road.{Road}
use Rattle.race.specs.declared.road.Road.TheVariants.{Unmade, Looking, Keyed}
use Rattle.race.specs.declared.road.RoadTurn.{RoadTurn}
use Rattle.race.specs.declared.road.RoadTurn.TheVariants.{Answered, Goes, Over}

-- it is the first of all solutions in the box that the run searches, or none where there is none
abbrev pub IsFirstIn : {L : Type 0} → Run L → Bounds → Option (List ℤ) → Type 0
IsFirstIn run b answer = IsFirstOf run.model.now run.program.now.kernels b answer

-- the plain search is one of the box
pub record IsPlain {L : Type 0} (task : Task L) (plain : FirstTurns) : Type 0 where
  pub turns : IsFirstTurns task.run.now plain
  pub same_box : first_asked plain ≡ task.sub.now

-- these are a search and keys of the run, and the keys are those of the box
pub record AreKeyed {L : Type 0} (task : Task L) (free : FreeSearch) (keys : Keys) : Type 0 where
  pub is_free : IsFreeSearch task.run.now free
  pub are_keys : IsKeys task.run.now keys
  pub same_box : asked keys ≡ task.sub.now

-- what is known is a solution in the box, the search is one of the run, or it has such keys
abbrev pub IsRoad : {L : Type 0} → Task L → Road → Type 0
IsRoad task (Unmade known) = IfSome known (SolvesInside task.run.now.model.now task.sub.now)
IsRoad task (Looking free) = IsFreeSearch task.run.now free
IsRoad task (Keyed free keys) = AreKeyed task free keys

-- an answer is the first solution, and what goes on is such a road
abbrev pub IsTurn : {L : Type 0} → Task L → RoadTurn → Type 0
IsTurn task (Answered answer) = IsFirstIn task.run.now task.sub.now answer
IsTurn task (Goes road) = IsRoad task road
IsTurn task Over = Unit {0}
