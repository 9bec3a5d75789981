-- What the jobs of a portfolio say of seats and of runs.
use Rattle.std.specs.Prelude.{◌≡◌, ◌≢◌, ℕ, suc, List, IfSome}
use Rattle.best_bound.specs.declared.seat.FoundSeat.{FoundSeat}
use Rattle.best_bound.specs.declared.seat.BestSeat.{BestSeat}
use Rattle.best_bound.specs.Seats.{IsFoundSeatOf, IsBestSeatOf}
use Rattle.constraint_model.specs.declared.model.Goal.{Goal}
use Rattle.solution_lists.specs.Solutions.{SolvesInside}
use Rattle.portfolio.specs.declared.told.FirstTold.{FirstTold}
use Rattle.portfolio.specs.declared.told.CostTold.{CostTold}
use Rattle.answer.specs.declared.plan.Plan.{Plan}
use Rattle.answer.specs.declared.head_job.HeadJob.{HeadJob}
use Rattle.answer.specs.declared.cost_job.CostJob.{CostJob}
use Rattle.answer.specs.Plans.{IsPlan, model_of}
use Rattle.answer.specs.Jobs.{numbers_of}
use Rattle.answer.specs.Raced.{IsUnlimited}
use Rattle.answer.specs.Portfolios.{AreTellingRuns, TellsHead, TellsCost}

-- how many numbers there are: one for the search of the whole, and one for each part
abbrev pub all_numbers_of : {L : Type 0} → Plan L → ℕ
all_numbers_of plan = suc (numbers_of plan)

-- ---- for the first solution

-- the plan is one, and a solution that is known lies in its box
pub record HeadFits {L : Type 0} (job : HeadJob L) (seat : FoundSeat) : Type 0 where
  pub plan : IsPlan job.plan.now
  pub known : IfSome job.known (λ a. SolvesInside (model_of job.plan.now) job.plan.now.start.now a.now)
  pub seat_of : IsFoundSeatOf job.found.now seat

abbrev pub HeadStands : {L : Type 0} → HeadJob L → FoundSeat → List (ℕ × FirstTold) → Type 0
HeadStands job seat runs = AreTellingRuns (TellsHead (model_of job.plan.now) job.plan.now.parts.now job.plan.now.start.now) runs

-- ---- for the least cost

-- the plan is one of the whole tree without limits, and its model has an objective
pub record CostFits {L M : Type 0} (job : CostJob L M) (seat : BestSeat) : Type 0 where
  pub plan : IsPlan job.plan.now
  pub whole : job.plan.now.start.now ≡ job.plan.now.run.now.program.now.start
  pub unlimited : IsUnlimited job.plan.now.options
  pub objective : (model_of job.plan.now).goal ≢ Goal.Satisfy
  pub seat_of : IsBestSeatOf job.best.now seat

abbrev pub CostStands : {L M : Type 0} → CostJob L M → BestSeat → List (ℕ × CostTold) → Type 0
CostStands job seat runs = AreTellingRuns (TellsCost (model_of job.plan.now) job.plan.now.parts.now job.plan.now.start.now) runs
