use Rattle.subproblem_walk.specs.Walks.{IsWalkFrom}
use Rattle.search_tests.proofs.paths.assert_walk.Given as goal

abbrev pub invariant-loop-depth : goal.invariant-loop-depth
invariant-loop-depth g l = IsWalkFrom l.cut.model l.cut.program.kernels l.cut.program.start l.walk
