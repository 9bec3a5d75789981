use Rattle.best_bound.specs.Seats.{IsFoundSeatOf}
use Rattle.search_tests.proofs.posts.assert_numbers.Given as goal

abbrev pub invariant-loop-number : goal.invariant-loop-number
invariant-loop-number g l = record {
  seat : IsFoundSeatOf l.found l.seat;
  other : IsFoundSeatOf l.found l.other;
}
