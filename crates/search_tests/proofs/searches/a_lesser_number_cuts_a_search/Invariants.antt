use Rattle.best_bound.specs.Seats.{IsFoundSeatOf}
use Rattle.search_tests.proofs.searches.a_lesser_number_cuts_a_search.Given as goal

abbrev pub invariant-loop-limits : goal.invariant-loop-limits
invariant-loop-limits g l = record {
  seat : IsFoundSeatOf l.found l.seat;
  other : IsFoundSeatOf l.found l.other;
}
