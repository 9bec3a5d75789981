use Rattle.std.proofs.Common.{◌<◌, ◌^◌, refl, sym, arith}
use Rattle.std.proofs.lemmas.Bool.{true≢false}
use Rattle.interval.specs.Boxes.{width_sum_of}
use Rattle.moved_fixpoint.proofs.Settling.{rest_at_end, stacks_through, ended_fixed, ended_failed, ended_spent, falls, goes_first, goes_on, turns_on}
use Rattle.moved_fixpoint.specs.Sweeps.{is_forth}
use Rattle.moved_fixpoint.proofs.Widths.{widths_fit}
use Rattle.moved_fixpoint.proofs.settle.run_rounds.Goals as goal

pub overflow_add-rounds : goal.overflow_add-rounds
overflow_add-rounds c =
    let fits : width_sum_of c.args.b.now.current < 2 ^ 100 = widths_fit c.args.b.now.current c.len-length.ensures.in_range in
    grind (arith, c.rounds.invariant.goes.widths)

pub rounds-init : goal.rounds-init
unfolding is_forth
rounds-init c = record {
  stack = refl;
  fit = c.requires.rests;
  stacks = record { open_stack = refl; alert_stack = refl };
  goes = goes_first c.law_inside_order.ensures c.law_rounds_lead.ensures c.args.kernels.now c.args.round_limit c.args.b.now.current _ _ c.requires.proper c.requires.set c.requires.at_rest;
  turn = refl;
}

pub returns-in-Still-clause-ends : goal.returns-in-Still-clause-ends
returns-in-Still-clause-ends c =
    ended_fixed c.law_inside_order.ensures c.law_rounds_lead.ensures c.args.kernels.now c.args.round_limit c.args.b.now.current
    c.rounds.rounds c.rounds.b.current _ _ c.rounds.invariant.goes c.rounds.up c.rounds.invariant.turn _ _ _ c.in-Still.ensures.round c.in-Still.ensures.swept

pub returns-in-Crossed-clause-ends : goal.returns-in-Crossed-clause-ends
returns-in-Crossed-clause-ends c =
    ended_failed c.law_inside_order.ensures c.law_rounds_lead.ensures c.args.kernels.now c.args.round_limit c.args.b.now.current
    c.rounds.rounds c.rounds.b.current _ _ c.rounds.invariant.goes c.rounds.up c.rounds.invariant.turn _ _ _ c.in-Crossed.ensures.round c.in-Crossed.ensures.swept

pub returns-then-are_spent-clause-ends : goal.returns-then-are_spent-clause-ends
returns-then-are_spent-clause-ends c =
    let spent = c.if-are_spent.ensures.0 refl in
    ended_spent c.law_inside_order.ensures c.law_rounds_lead.ensures c.args.kernels.now c.args.round_limit c.args.b.now.current
    c.rounds.rounds c.rounds.b.current _ _ c.rounds.invariant.goes c.rounds.up c.rounds.invariant.turn _ _ _ c.in-Moved.ensures.round c.in-Moved.ensures.swept spent.0 spent.1

pub rounds-smaller : goal.rounds-smaller
rounds-smaller c =
    falls c.law_inside_order.ensures c.law_rounds_lead.ensures c.args.kernels.now c.args.round_limit c.args.b.now.current
    c.rounds.rounds c.rounds.b.current _ _ c.rounds.invariant.goes c.rounds.up c.rounds.invariant.turn _ _ _ c.in-Moved.ensures.round c.in-Moved.ensures.swept

pub rounds-preserved : goal.rounds-preserved
rounds-preserved c = record {
  stack = cc;
  fit = c.in-Moved.ensures.rests;
  stacks = stacks_through c.args.sets.now.rests c.rounds.sets.rests _ c.rounds.invariant.stacks c.in-Moved.ensures.stacks;
  goes =
      goes_on c.law_inside_order.ensures c.law_rounds_lead.ensures c.args.kernels.now c.args.round_limit c.args.b.now.current
      c.rounds.rounds c.rounds.b.current _ _ c.rounds.invariant.goes c.rounds.up c.rounds.invariant.turn _ _ _ c.in-Moved.ensures.round c.in-Moved.ensures.swept
      (λ ne e. true≢false (sym (c.if-are_spent.ensures.1 (ne, e))));
  turn = turns_on c.rounds.up c.rounds.rounds c.rounds.invariant.turn;
}

pub returns-in-Still-clause-resting : goal.returns-in-Still-clause-resting
returns-in-Still-clause-resting c = rest_at_end c.args.kernels.now c.rounds.b.current _ _ _ c.in-Still.ensures.round
