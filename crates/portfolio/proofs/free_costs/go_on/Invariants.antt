use Rattle.std.proofs.Common.{◌≡◌}
use Rattle.best_bound.specs.Seats.{IsBestSeatOf, best_parts}
use Rattle.free_search.specs.Free.{IsFreeSearch}
use Rattle.portfolio.specs.Told.{TellsCosts}
use Rattle.portfolio.proofs.free_costs.go_on.Given as goal

-- the free search can go on, with the seat, and what was told so far is so
abbrev pub invariant-loop : goal.invariant-loop
invariant-loop g l = record {
  free : IsFreeSearch l.sharing.run.now l.free;
  seat : IsBestSeatOf l.sharing.best.now l.seat;
  parts : best_parts l.seat ≡ best_parts l.initial.seat;
  told : TellsCosts l.sharing.run.now.model.now l.sharing.run.now.program.now.start l.sharing.run.now.program.now.start l.told;
}
