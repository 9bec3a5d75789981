use Rattle.std.proofs.Common.{◌≡◌}
use Rattle.best_bound.specs.Seats.{IsBestSeatOf, best_parts}
use Rattle.portfolio.specs.Sharings.{IsBoxSearch}
use Rattle.portfolio.proofs.box_costs.go_on.Given as goal

-- the search can go on, with the seat
abbrev pub invariant-loop : goal.invariant-loop
invariant-loop g l = record {
  search : IsBoxSearch l.sharing l.sub l.turns;
  seat : IsBestSeatOf l.sharing.best.now l.seat;
  parts : best_parts l.seat ≡ best_parts l.initial.seat;
}
