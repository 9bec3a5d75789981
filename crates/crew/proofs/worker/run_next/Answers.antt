use Rattle.std.proofs.Common.{arith}
use Rattle.crew.proofs.Made.{on_err, of_err, some_drawn}
use Rattle.crew.proofs.worker.run_next.Goals as goal

pub returns-in_err-end-clause-made : goal.returns-in_err-end-clause-made
returns-in_err-end-clause-made g c = λ kept.
    on_err _ _ (some_drawn _ _ _ _ _ c.in-Some.number c.requires.may_draw.run.all c.in-Some.ensures.drawn
    (of_err _ _ _ c.in_err-end.was (kept _ _ _ _ _ _ (omega (arith, c.in-Some.ensures.below, c.requires.count)) c.requires.may_draw.own c.requires.seat.seat_fits c.run.ensures _ c.requires.may_draw.run.stand)))
