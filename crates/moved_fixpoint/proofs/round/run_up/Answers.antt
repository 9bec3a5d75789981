use Rattle.std.proofs.Common.{◌+◌, ◌∙◌, refl, sym, arith}
use Rattle.std.proofs.lemmas.Bool.{true≢false}
use Rattle.moved_fixpoint.proofs.Rounding.{stands_over, stands_first, stands_last, stands_up, passed_up, run_count}
use Rattle.moved_fixpoint.proofs.Settling.{stacks_through}
use Rattle.moved_fixpoint.proofs.Sweeping.{forth_passed, forth_run, forth_over, forth_last}
use Rattle.moved_fixpoint.proofs.round.run_up.Goals as goal

pub kernels-init : goal.kernels-init
kernels-init c = record {
  stack = refl;
  fit = c.requires.rests;
  stacks = record { open_stack = refl; alert_stack = refl };
  within = omega (arith, c.next-place.ensures.at_most, c.requires.set);
  counted = omega arith;
  going = tt;
  stands =
      passed_up c.law_inside_order.ensures c.law_tell_place.ensures c.law_local.ensures.tells c.args.kernels.now c.args.b.now.current c.requires.kernels
      c.args.b.now.current c.args.sets.now.asked c.args.sets.now.rests _ 0 c.next-place.result
      (stands_first c.law_inside_order.ensures c.args.kernels.now c.args.b.now.current 0 c.args.sets.now.asked c.args.sets.now.rests c.requires.proper c.requires.set c.requires.at_rest)
      c.next-place.ensures.passed;
  swept =
      forth_passed c.args.kernels.now _ _ _ c.args.b.now.current c.args.sets.now.asked c.args.sets.now.rests _
      (stands_first c.law_inside_order.ensures c.args.kernels.now c.args.b.now.current 0 c.args.sets.now.asked c.args.sets.now.rests c.requires.proper c.requires.set c.requires.at_rest)
      tt 0 c.next-place.result c.next-place.ensures.at_least (omega (arith, c.next-place.ensures.at_most, c.requires.set)) c.next-place.ensures.passed;
}

pub returns-then-not-goes_on-clause-round : goal.returns-then-not-goes_on-clause-round
returns-then-not-goes_on-clause-round c = stands_over _ _ _ _ _ _ _ _
    (stands_up c.law_inside_order.ensures c.law_tell_place.ensures c.law_local.ensures.tells c.args.kernels.now c.args.b.now.current c.requires.kernels
    _ _ _ _ _ c.kernels.invariant.stands c.kernels-test.true _ _ _ _ c.run_kernel-progress.ensures.run)
    (λ g. true≢false (sym (c.if-not-goes_on.ensures.1 g)))

pub next-place-requires-in-kernels : goal.next-place-requires-in-kernels
next-place-requires-in-kernels c =
    omega (arith, c.kernels-test.true, run_count _ _ _ _ _ _ _ _ _ _ c.kernels-test.true c.run_kernel-progress.ensures.run, c.kernels.invariant.stands.same_count)

pub kernels-preserved : goal.kernels-preserved
kernels-preserved c = record {
  stack = c.run_kernel-progress.ensures.stack ∙ c.kernels.invariant.stack;
  within = omega (arith, c.next-place-in-kernels.ensures.at_most, run_count _ _ _ _ _ _ _ _ _ _ c.kernels-test.true c.run_kernel-progress.ensures.run, c.kernels.invariant.stands.same_count);
  fit = c.run_kernel-progress.ensures.rests;
  stacks = stacks_through c.args.sets.now.rests c.kernels.sets.rests _ c.kernels.invariant.stacks c.run_kernel-progress.ensures.stacks;
  counted = omega (arith, c.kernels.invariant.counted, c.next-place-in-kernels.ensures.at_least);
  going = c.if-not-goes_on.ensures.0 refl;
  stands =
      passed_up c.law_inside_order.ensures c.law_tell_place.ensures c.law_local.ensures.tells c.args.kernels.now c.args.b.now.current c.requires.kernels
      _ _ _ _ (c.kernels.place + 1) c.next-place-in-kernels.result
      (stands_up c.law_inside_order.ensures c.law_tell_place.ensures c.law_local.ensures.tells c.args.kernels.now c.args.b.now.current c.requires.kernels
      _ _ _ _ _ c.kernels.invariant.stands c.kernels-test.true _ _ _ _ c.run_kernel-progress.ensures.run)
      c.next-place-in-kernels.ensures.passed;
  swept =
      c.kernels.invariant.swept
      ∙ forth_run c.args.kernels.now c.kernels.place c.kernels-test.true _ _ _ _ _ _ _ _ c.run_kernel-progress.ensures.run c.kernels.invariant.going (c.if-not-goes_on.ensures.0 refl)
      ∙ forth_passed c.args.kernels.now _ _ _ _ _ _ _
      (stands_up c.law_inside_order.ensures c.law_tell_place.ensures c.law_local.ensures.tells c.args.kernels.now c.args.b.now.current c.requires.kernels
      _ _ _ _ _ c.kernels.invariant.stands c.kernels-test.true _ _ _ _ c.run_kernel-progress.ensures.run)
      (c.if-not-goes_on.ensures.0 refl) (c.kernels.place + 1) c.next-place-in-kernels.result c.next-place-in-kernels.ensures.at_least
      (omega (arith, c.next-place-in-kernels.ensures.at_most, run_count _ _ _ _ _ _ _ _ _ _ c.kernels-test.true c.run_kernel-progress.ensures.run, c.kernels.invariant.stands.same_count))
      c.next-place-in-kernels.ensures.passed;
}

pub returns-clause-round : goal.returns-clause-round
returns-clause-round c = stands_last _ _ _ _ _ _ _ _ c.kernels.invariant.stands (omega arith) (omega (arith, c.kernels-test.false))

pub returns-then-not-goes_on-clause-swept : goal.returns-then-not-goes_on-clause-swept
returns-then-not-goes_on-clause-swept c =
    forth_over c.args.kernels.now c.kernels.place c.kernels-test.true _ _ _ _ _ _ _ _ c.run_kernel-progress.ensures.run c.kernels.invariant.going
    c.args.b.now.current c.kernels.invariant.swept (λ g. true≢false (sym (c.if-not-goes_on.ensures.1 g)))

pub returns-clause-swept : goal.returns-clause-swept
returns-clause-swept c =
    forth_last c.args.kernels.now c.args.b.now.current c.kernels.b.current c.kernels.place c.kernels.progress (omega (arith, c.kernels-test.false)) c.kernels.invariant.going c.kernels.invariant.swept
