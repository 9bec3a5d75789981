use Rattle.std.proofs.Common.{length, ap, ◌∙◌}
use Rattle.fixpoint_tests.proofs.Marking.{all_awake, all_marked}
use Rattle.fixpoint_tests.proofs.asking.settle_all.Goals as goal

pub settle_moved-requires-clause-quiet : goal.settle_moved-requires-clause-quiet
settle_moved-requires-clause-quiet c = all_marked c.law_quiet_unless_moved.ensures 4 _ _ _ _ c.mark_all.ensures
    (ap length c.wake_all.ensures.moved ∙ c.in_ok-sets.ensures.fit.moved_count) c.requires.length c.requires.kernels

pub settle_moved-requires-clause-knows : goal.settle_moved-requires-clause-knows
settle_moved-requires-clause-knows c = all_awake c.law_known_unless_moved.ensures c.args.kernels.now c.args.b.now.current c.wake_all.new.self.asking.asked c.mark_all.new.self c.in_ok-sets.sets.asking.rests c.wake_all.new.self.asking.rests
    c.in_ok-sets.ensures.fit_rests c.wake_all.ensures.rests_count c.wake_all.ensures.awake
