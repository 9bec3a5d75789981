use Rattle.answer.specs.Plans.{model_of}
use Rattle.answer.specs.Runs.{HasSolution}
use Rattle.answer.proofs.first_job.first_ends.Given as goal

-- what may be posted are the numbers that lead to a solution
abbrev pub ghosts-ends_of : goal.ghosts-ends_of
ghosts-ends_of g a = record { has_solution = λ number. HasSolution (model_of a.plan.now) a.plan.now.parts.now a.plan.now.start.now number }
