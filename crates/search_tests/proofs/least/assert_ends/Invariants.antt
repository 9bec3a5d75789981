use Rattle.best_bound.specs.Seats.{IsBestSeatOf}
use Rattle.search_tests.proofs.least.assert_ends.Given as goal

abbrev pub invariant-loop-node_limit : goal.invariant-loop-node_limit
invariant-loop-node_limit g l = IsBestSeatOf l.best l.seat
