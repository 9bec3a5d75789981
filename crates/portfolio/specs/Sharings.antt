-- What the searches of a portfolio share where the least cost is sought.
use Rattle.std.specs.Prelude.{◌≡◌, ◌≢◌, ◌↔◌, ℤ, IfSome}
use Rattle.interval.specs.Boxes.{Bounds}
use Rattle.constraint_model.specs.declared.model.Goal.{Goal}
use Rattle.constraint_model.specs.declared.model.FznModel.{FznModel}
use Rattle.solution_lists.specs.Solutions.{SolvesInside}
use Rattle.search.specs.declared.least_turns.LeastTurns.{LeastTurns}
use Rattle.search.specs.Premises.{IsRun}
use Rattle.search.specs.Turns.{IsLeastTurns, least_asked, found_last}
use Rattle.search.specs.LeastEnds.{IsCost}
use Rattle.portfolio.specs.declared.sharing.Sharing.{Sharing}

-- the run is one without limits, and its model has an objective
pub record IsSharing {L C : Type 0} (sharing : Sharing L C) : Type 0 where
  pub run : IsRun sharing.run.now
  pub node_limit : sharing.run.now.node_limit ≡ 0
  pub round_limit : sharing.run.now.round_limit ≡ 0
  pub objective : sharing.run.now.model.now.goal ≢ Goal.Satisfy

-- it says of each number whether a solution of the model costs so much
abbrev pub SaysWhichCost : FznModel → (ℤ → Type 0) → Type 0
SaysWhichCost model is_cost = (cost : ℤ) → is_cost cost ↔ IsCost model cost

-- a search of a box in the start, kept over its turns; what it found last is a solution there
pub record IsBoxSearch {L C : Type 0} (sharing : Sharing L C) (sub : Bounds) (turns : LeastTurns) : Type 0 where
  pub is_search : IsLeastTurns sharing.run.now turns
  pub same_box : least_asked turns ≡ sub
  pub solves : IfSome (found_last turns) (SolvesInside sharing.run.now.model.now sharing.run.now.program.now.start)
