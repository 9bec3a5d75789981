use Rattle.search.specs.LeastEnds.{IsCost}
use Rattle.answer.specs.Plans.{model_of}
use Rattle.answer.proofs.cost_job.cost_ends.Given as goal

-- what may be posted are the costs of the plan's model
abbrev pub ghosts-ends_of : goal.ghosts-ends_of
ghosts-ends_of g a = record { is_cost = λ cost. IsCost (model_of a.plan.now) cost }
