use Rattle.std.proofs.Common.{◌≡◌}
use Rattle.free_search.specs.Ready.{IsReady, count_of}
use Rattle.free_search.proofs.run.assume.Given as goal

-- the current box can be narrowed
abbrev pub invariant-loop-v : goal.invariant-loop-v
invariant-loop-v g l = record {
  ready : IsReady l.run.program.now.kernels l.searcher;
  same_count : count_of l.searcher ≡ count_of l.initial.searcher;
}
