-- What jobs say of seats, of what a worker keeps, and of runs.
use Rattle.std.specs.Prelude.{◌≡◌, ◌≢◌, ◌↔◌, ℕ, ℤ, List, length}
use Rattle.best_bound.specs.declared.seat.FoundSeat.{FoundSeat}
use Rattle.best_bound.specs.declared.seat.BestSeat.{BestSeat}
use Rattle.best_bound.specs.Seats.{IsFoundSeatOf, found_parts, numbers_seen, numbers_posted, IsBestSeatOf, best_parts, costs_seen, costs_posted}
use Rattle.constraint_model.specs.declared.model.Goal.{Goal}
use Rattle.search.specs.declared.ends.FirstEnd.{FirstEnd}
use Rattle.search.specs.declared.ends.AllEnd.{AllEnd}
use Rattle.search.specs.declared.ends.LeastEnd.{LeastEnd}
use Rattle.search.specs.LeastEnds.{IsCost}
use Rattle.answer.specs.declared.plan.Plan.{Plan}
use Rattle.answer.specs.declared.plan.Own.{Own}
use Rattle.answer.specs.Owned.{IsOwnFrom}
use Rattle.answer.specs.declared.first_job.FirstJob.{FirstJob}
use Rattle.answer.specs.declared.all_job.AllJob.{AllJob}
use Rattle.answer.specs.declared.least_job.LeastJob.{LeastJob}
use Rattle.answer.specs.Plans.{IsPlan, model_of, kernels_in}
use Rattle.answer.specs.Runs.{HasSolution, AreFirstRuns, AreAllRuns, AreLeastRuns}

-- how many numbers there are: one for each part
abbrev pub numbers_of : {L : Type 0} → Plan L → ℕ
numbers_of plan = length plan.parts.now

-- a worker may keep a walk of its own from the box, and what runs over boxes of the start's variables may use
abbrev pub Owns : {L : Type 0} → Plan L → Own → Type 0
Owns plan own = IsOwnFrom (model_of plan) (kernels_in plan) plan.start.now plan.run.now.lanes (length plan.run.now.program.now.start) own

-- ---- for the first solution

-- it says of each number whether what its part leads to has a solution
abbrev pub SaysWhichSolve : {L : Type 0} → Plan L → (ℕ → Type 0) → Type 0
SaysWhichSolve plan has_solution = (number : ℕ) → has_solution number ↔ HasSolution (model_of plan) plan.parts.now plan.start.now number

abbrev pub FirstFits : {L M : Type 0} → FirstJob L M → FoundSeat → Type 0
FirstFits job seat = IsPlan job.plan.now × IsFoundSeatOf job.found.now seat

abbrev pub FirstParts : FoundSeat → ℕ → Type 0
FirstParts seat n = found_parts seat ≡ n

abbrev pub FirstStands : {L M : Type 0} → FirstJob L M → FoundSeat → List (ℕ × FirstEnd) → Type 0
FirstStands job seat runs = AreFirstRuns (model_of job.plan.now) job.plan.now.options job.plan.now.parts.now job.plan.now.start.now (numbers_seen seat) (numbers_posted seat) runs

-- ---- for all solutions

abbrev pub AllFits : {L : Type 0} → AllJob L → Unit {0} → Type 0
AllFits job seat = IsPlan job.plan.now

abbrev pub AllParts : Unit {0} → ℕ → Type 0
AllParts seat n = Unit {0}

abbrev pub AllStands : {L : Type 0} → AllJob L → Unit {0} → List (ℕ × AllEnd) → Type 0
AllStands job seat runs = AreAllRuns (model_of job.plan.now) job.plan.now.options job.plan.now.parts.now job.plan.now.start.now runs

-- ---- for the least cost

-- it says of each number whether a solution of the model costs so much
abbrev pub SaysWhichCost : {L : Type 0} → Plan L → (ℤ → Type 0) → Type 0
SaysWhichCost plan is_cost = (cost : ℤ) → is_cost cost ↔ IsCost (model_of plan) cost

-- the job's model has an objective, and one worker has all parts
pub record LeastFits {L M : Type 0} (job : LeastJob L M) (seat : BestSeat) : Type 0 where
  pub plan : IsPlan job.plan.now
  pub seat_of : IsBestSeatOf job.best.now seat
  pub objective : (model_of job.plan.now).goal ≢ Goal.Satisfy
  pub sole : job.plan.now.options.workers ≡ 1 → best_parts seat ≡ 1024

-- several workers share it: what one run records is known to those that are made beside it
abbrev pub MaySplit : {L M : Type 0} → LeastJob L M → Type 0
MaySplit job = job.plan.now.options.workers ≢ 1

abbrev pub LeastParts : BestSeat → ℕ → Type 0
LeastParts seat n = best_parts seat ≡ n

abbrev pub LeastStands : {L M : Type 0} → LeastJob L M → BestSeat → List (ℕ × LeastEnd) → Type 0
LeastStands job seat runs = AreLeastRuns (model_of job.plan.now) job.plan.now.options job.plan.now.parts.now job.plan.now.start.now (costs_seen seat) (costs_posted seat) runs
