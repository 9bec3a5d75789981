use Rattle.subproblem_walk.specs.Walks.{IsWalkFrom}
use Rattle.search_tests.proofs.paths.assert_below.Given as goal

abbrev pub invariant-loop-number : goal.invariant-loop-number
invariant-loop-number g l = IsWalkFrom l.cut.model l.cut.program.kernels l.cut.program.start l.walk
