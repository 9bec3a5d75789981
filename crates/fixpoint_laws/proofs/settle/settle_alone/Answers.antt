use Rattle.std.proofs.Common.{◌<◌, ◌^◌, arith, subst, sym, refl}
use Rattle.interval.specs.Boxes.{Bounds, width_sum_of}
use Rattle.fixpoint_laws.specs.Fixpoints.{IsClosed, IsGreatest}
use Rattle.fixpoint_laws.proofs.Running.{rounds_more, fixed, failed}
use Rattle.fixpoint_laws.proofs.Settling.{goes_on}
use Rattle.fixpoint_laws.proofs.Widths.{widths_fit}
use Rattle.fixpoint_laws.proofs.settle.settle_alone.Goals as goal

pub overflow_add-rounds : goal.overflow_add-rounds
overflow_add-rounds c =
    let fits : width_sum_of c.args.b.now < 2 ^ 100 = widths_fit c.args.b.now c.len-length.ensures.in_range in
    grind (arith, c.rounds.invariant.goes.widths)

pub returns-then-not-run_round-clause-fixed : goal.returns-then-not-run_round-clause-fixed
returns-then-not-run_round-clause-fixed c =
    let closed : IsClosed c.rounds.b c.args.kernels.now = c.if-not-run_round.ensures.closed c.rounds.invariant.goes.proper in
    subst (λ (x : Bounds). IsGreatest x c.args.b.now c.args.kernels.now) (sym c.if-not-run_round.ensures.still)
    (fixed c.law_inside_order.ensures c.args.kernels.now c.args.b.now c.rounds.b c.rounds.invariant.goes.run closed)

pub returns-then-is_crossed-2-clause-failed : goal.returns-then-is_crossed-2-clause-failed
returns-then-is_crossed-2-clause-failed c =
    failed c.law_inside_order.ensures c.args.kernels.now c.args.b.now c.run_round.new.b
    (rounds_more c.law_inside_order.ensures c.args.kernels.now c.args.b.now c.rounds.b c.run_round.new.b c.rounds.invariant.goes.run c.if-not-run_round.ensures.run)
    (c.if-is_crossed-2.ensures.crossed.0 refl)

pub rounds-preserved : goal.rounds-preserved
rounds-preserved c = record {
  spare_length = omega (arith, c.run_round.ensures.length, c.rounds.invariant.goes.run.inside.same_length);
  goes = goes_on c.law_inside_order.ensures c.args.kernels.now c.args.b.now c.rounds.b c.rounds.rounds c.rounds.invariant.goes c.run_round.new.b
      c.if-not-run_round.ensures.run c.if-not-run_round.ensures.moved (c.if-is_crossed-2.ensures.proper.0 refl);
}

pub rounds-smaller : goal.rounds-smaller
rounds-smaller c =
    c.law_inside_order.ensures.narrower c.run_round.new.b c.rounds.b (c.if-is_crossed-2.ensures.proper.0 refl) c.if-not-run_round.ensures.run.inside c.if-not-run_round.ensures.moved
