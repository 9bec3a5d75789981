use Rattle.std.proofs.Common.{◌≡◌}
use Rattle.free_search.specs.Ready.{IsSettled, count_of}
use Rattle.free_search.proofs.node.go_back_to.Given as goal

-- the current box is closed
abbrev pub invariant-loop : goal.invariant-loop
invariant-loop g l = record {
  settled : IsSettled l.run.program.now.kernels l.searcher;
  same_count : count_of l.searcher ≡ count_of l.initial.searcher;
}
