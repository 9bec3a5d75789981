use Rattle.std.proofs.Common.{◌≡◌, length}
use Rattle.nogoods.specs.Learners.{Serves}
use Rattle.free_search.specs.Ready.{IsReady, count_of}
use Rattle.free_search.proofs.node.nodes.Given as goal

-- the current box can be narrowed, and what is kept are nogoods
abbrev pub invariant-loop : goal.invariant-loop
invariant-loop g l = record {
  ready : IsReady l.task.run.now.program.now.kernels l.searcher;
  same_count : count_of l.searcher ≡ length l.task.space.now;
  serves : Serves l.task.run.now.program.now.kernels l.task.space.now l.learner;
}
