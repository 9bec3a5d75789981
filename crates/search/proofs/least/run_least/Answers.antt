use Rattle.std.proofs.Common.{subst}
use Rattle.interval.specs.Boxes.{Bounds}
use Rattle.best_bound.specs.Seats.{costs_seen, costs_posted}
use Rattle.search.specs.LeastEnds.{least_in, CostAtLeast, OnDone}
use Rattle.search.proofs.LeastRunLaws.{on_any_err, broken_at_start}
use Rattle.search.proofs.least.run_least.Goals as goal

pub returns-in_err-alone-clause-err : goal.returns-in_err-alone-clause-err
returns-in_err-alone-clause-err g c = on_any_err _ (broken_at_start (least_in c.args.run.now (costs_seen c.args.seat.now) c.args.sub.now) (costs_posted c.args.seat.now))

pub returns-clause-least : goal.returns-clause-least
returns-clause-least g c =
    subst (λ (b : Bounds). OnDone c.in_ok-over.over.end (CostAtLeast c.args.run.now.model.now b (costs_seen c.run_least_from.new.seat))) c.in_ok-alone.ensures c.in_ok-over.ensures.least
