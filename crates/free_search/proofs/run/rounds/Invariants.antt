use Rattle.std.proofs.Common.{◌≡◌, length}
use Rattle.narrowing.specs.Narrowers.{Fits}
use Rattle.nogoods.specs.Learners.{Serves}
use Rattle.free_search.specs.Ready.{count_of}
use Rattle.free_search.proofs.run.rounds.Given as goal

-- another round can begin, and what is kept are nogoods
abbrev pub invariant-loop : goal.invariant-loop
invariant-loop g l = record {
  fits : Fits l.searcher.narrower l.task.run.now.program.now.kernels (count_of l.searcher);
  same_count : count_of l.searcher ≡ length l.task.space.now;
  serves : Serves l.task.run.now.program.now.kernels l.task.space.now l.learner;
}
