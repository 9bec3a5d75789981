use Rattle.nogoods.specs.Learners.{Serves}
use Rattle.solution_lists.specs.Solutions.{SolvesInside}
use Rattle.free_search.proofs.least.least_value.Given as goal

-- the best is a solution, and what is kept are nogoods
abbrev pub invariant-loop : goal.invariant-loop
invariant-loop g l = record {
  best : SolvesInside l.run.model.now l.base l.best;
  serves : Serves l.run.program.now.kernels l.space l.learner;
}
