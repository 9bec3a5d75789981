-- The one worker of a crew, which runs the numbers in turn with the first seat itself. The definition takes what the job says
-- of what a worker keeps (`owns`) and of runs (`stands`).
use Rattle.std.specs.Prelude.{ℕ, ◌≡◌, List, length}
use Rattle.std.specs.List.{enumerate_from}
use Rattle.crew.specs.declared.in_turn.SoleWorker.{SoleWorker}

-- it has run the numbers below this one, in turn, and its ends are those of these runs
pub record HasRunBelow {S W E : Type 0} (owns : W → Type 0) (stands : S → List (ℕ × E) → Type 0) (number : ℕ) (worker : SoleWorker W E) (seat : S) : Type 0 where
  pub own : owns worker.own
  pub length_is : length worker.ends ≡ number
  pub stand : stands seat (enumerate_from 0 worker.ends)
