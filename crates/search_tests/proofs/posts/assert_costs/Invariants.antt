use Rattle.best_bound.specs.Seats.{IsBestSeatOf}
use Rattle.search_tests.proofs.posts.assert_costs.Given as goal

abbrev pub invariant-loop-cost : goal.invariant-loop-cost
invariant-loop-cost g l = record {
  seat : IsBestSeatOf l.best l.seat;
  other : IsBestSeatOf l.best l.other;
}
