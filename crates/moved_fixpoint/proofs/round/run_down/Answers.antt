use Rattle.std.proofs.Common.{◌-◌, ◌∙◌, length, refl, sym, arith}
use Rattle.std.proofs.lemmas.Bool.{true≢false}
use Rattle.moved_fixpoint.proofs.Rounding.{stands_over, stands_first, stands_last, stands_down, passed_down, run_count}
use Rattle.moved_fixpoint.proofs.Settling.{stacks_through}
use Rattle.moved_fixpoint.proofs.Sweeping.{back_passed, back_first, back_run, back_over, back_last}
use Rattle.moved_fixpoint.proofs.round.run_down.Goals as goal

pub kernels-init : goal.kernels-init
kernels-init c = record {
  stack = refl;
  fit = c.requires.rests;
  stacks = record { open_stack = refl; alert_stack = refl };
  within = c.next_back-left.ensures.at_most;
  counted = omega (arith, c.next_back-left.ensures.at_most);
  going = tt;
  stands =
      passed_down c.law_inside_order.ensures c.law_tell_place.ensures c.law_local.ensures.tells c.args.kernels.now c.args.b.now.current c.requires.kernels
      c.args.b.now.current c.args.sets.now.asked c.args.sets.now.rests _ (length c.args.kernels.now) c.next_back-left.result
      (stands_first c.law_inside_order.ensures c.args.kernels.now c.args.b.now.current (length c.args.kernels.now) c.args.sets.now.asked c.args.sets.now.rests c.requires.proper c.requires.set c.requires.at_rest)
      c.next_back-left.ensures.passed;
  swept =
      back_passed c.args.kernels.now _ _ _ c.args.b.now.current c.args.sets.now.asked c.args.sets.now.rests _
      (stands_first c.law_inside_order.ensures c.args.kernels.now c.args.b.now.current (length c.args.kernels.now) c.args.sets.now.asked c.args.sets.now.rests c.requires.proper c.requires.set c.requires.at_rest)
      tt c.args.b.now.current (length c.args.kernels.now) c.next_back-left.result c.next_back-left.ensures.at_most (omega arith) c.next_back-left.ensures.passed
      (back_first c.args.kernels.now c.args.b.now.current);
}

pub returns-then-not-goes_on-clause-round : goal.returns-then-not-goes_on-clause-round
returns-then-not-goes_on-clause-round c = stands_over _ _ _ _ _ _ _ _
    (stands_down c.law_inside_order.ensures c.law_tell_place.ensures c.law_local.ensures.tells c.args.kernels.now c.args.b.now.current c.requires.kernels
    _ _ _ _ _ c.kernels.invariant.stands c.kernels-test.true c.kernels.invariant.within _ _ _ _ c.run_kernel-progress.ensures.run)
    (λ g. true≢false (sym (c.if-not-goes_on.ensures.1 g)))

pub next_back-left-requires-in-kernels : goal.next_back-left-requires-in-kernels
next_back-left-requires-in-kernels c =
    omega (arith, c.kernels.invariant.within, run_count _ (c.kernels.left - 1) _ _ _ _ _ _ _ _ (omega (arith, c.kernels-test.true, c.kernels.invariant.within)) c.run_kernel-progress.ensures.run, c.kernels.invariant.stands.same_count)

pub kernels-preserved : goal.kernels-preserved
kernels-preserved c = record {
  stack = c.run_kernel-progress.ensures.stack ∙ c.kernels.invariant.stack;
  within = omega (arith, c.next_back-left-in-kernels.ensures.at_most, c.kernels.invariant.within);
  fit = c.run_kernel-progress.ensures.rests;
  stacks = stacks_through c.args.sets.now.rests c.kernels.sets.rests _ c.kernels.invariant.stacks c.run_kernel-progress.ensures.stacks;
  counted = omega (arith, c.kernels.invariant.counted, c.kernels-test.true, c.next_back-left-in-kernels.ensures.at_most);
  going = c.if-not-goes_on.ensures.0 refl;
  stands =
      passed_down c.law_inside_order.ensures c.law_tell_place.ensures c.law_local.ensures.tells c.args.kernels.now c.args.b.now.current c.requires.kernels
      _ _ _ _ (c.kernels.left - 1) c.next_back-left-in-kernels.result
      (stands_down c.law_inside_order.ensures c.law_tell_place.ensures c.law_local.ensures.tells c.args.kernels.now c.args.b.now.current c.requires.kernels
      _ _ _ _ _ c.kernels.invariant.stands c.kernels-test.true c.kernels.invariant.within _ _ _ _ c.run_kernel-progress.ensures.run)
      c.next_back-left-in-kernels.ensures.passed;
  swept =
      back_passed c.args.kernels.now _ _ _ _ _ _ _
      (stands_down c.law_inside_order.ensures c.law_tell_place.ensures c.law_local.ensures.tells c.args.kernels.now c.args.b.now.current c.requires.kernels
      _ _ _ _ _ c.kernels.invariant.stands c.kernels-test.true c.kernels.invariant.within _ _ _ _ c.run_kernel-progress.ensures.run)
      (c.if-not-goes_on.ensures.0 refl) c.args.b.now.current (c.kernels.left - 1) c.next_back-left-in-kernels.result c.next_back-left-in-kernels.ensures.at_most
      (omega (arith, c.kernels.invariant.within)) c.next_back-left-in-kernels.ensures.passed
      (back_run c.args.kernels.now c.kernels.left c.kernels-test.true c.kernels.invariant.within _ _ _ _ _ _ _ _ c.run_kernel-progress.ensures.run c.kernels.invariant.going
      c.args.b.now.current c.kernels.invariant.swept (c.if-not-goes_on.ensures.0 refl));
}

pub returns-clause-round : goal.returns-clause-round
returns-clause-round c = stands_last _ _ _ _ _ _ _ _ c.kernels.invariant.stands (omega (arith, c.kernels-test.false)) (omega arith)

pub returns-then-not-goes_on-clause-swept : goal.returns-then-not-goes_on-clause-swept
returns-then-not-goes_on-clause-swept c =
    back_over c.args.kernels.now c.kernels.left c.kernels-test.true c.kernels.invariant.within _ _ _ _ _ _ _ _ c.run_kernel-progress.ensures.run c.kernels.invariant.going
    c.args.b.now.current c.kernels.invariant.swept (λ g. true≢false (sym (c.if-not-goes_on.ensures.1 g)))

pub returns-clause-swept : goal.returns-clause-swept
returns-clause-swept c =
    back_last c.args.kernels.now c.args.b.now.current c.kernels.b.current c.kernels.left c.kernels.progress (omega (arith, c.kernels-test.false)) c.kernels.invariant.going c.kernels.invariant.swept
