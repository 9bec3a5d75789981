use Rattle.std.proofs.Common.{ℕ, ap, length, sym, subst, ◌∙◌}
use Rattle.interval.specs.Boxes.{Bounds}
use Rattle.moved_fixpoint.specs.Moved.{Fit}
use Rattle.moved_fixpoint.specs.Resting.{FitRests}
use Rattle.fixpoint_tests.proofs.Marking.{all_marked, marked_fit, is_true}
use Rattle.fixpoint_tests.proofs.walks.walk.Goals as goal

pub loop-init : goal.loop-init
loop-init c =
    let pairs = ap (λ (b : Bounds). length b) c.in_ok-b.ensures.current ∙ c.in_ok-first.ensures in
    record {
      pairs = pairs;
      sets = marked_fit 40 _ _ _ _ _ c.mark_all.ensures c.in_ok-sets.ensures.fit.moved_count c.in_ok-sets.ensures.fit;
      rests = c.in_ok-sets.ensures.fit_rests;
      quiet = all_marked c.law_quiet_unless_moved.ensures 40 _ _ _ _ c.mark_all.ensures c.in_ok-sets.ensures.fit.moved_count pairs c.requires;
    }

pub loop-preserved : goal.loop-preserved
loop-preserved c = record {
  pairs = c.in_ok-put_one.ensures.length;
  sets = c.in_ok-put_one.ensures.sets (length c.args.kernels.now)
      (subst (λ (n : ℕ). Fit n (length c.args.kernels.now) c.settle_awake.new.sets.moved c.settle_awake.new.sets.asking.asked) c.loop.invariant.pairs c.in_ok-ended.ensures.sets);
  rests = subst (FitRests (length c.args.kernels.now)) (sym c.in_ok-put_one.ensures.rests) c.in_ok-ended.ensures.rests;
  quiet = c.in_ok-put_one.ensures.quiet c.args.kernels.now c.requires
      (c.law_quiet_unless_moved.ensures.closed c.settle_awake.new.b.current c.args.kernels.now c.settle_awake.new.sets.moved
      (c.in_ok-ended.ensures.closed (is_true c.in_ok-ended.ended.fixed c.if-not-ended.false)));
}
