use Rattle.std.proofs.Common.{sym, subst}
use Rattle.moved_fixpoint.specs.Moved.{Set, AreMovedOrQuiet}
use Rattle.fixpoint_tests.proofs.Marking.{all_awake}
use Rattle.fixpoint_tests.proofs.walks.settle_awake.Goals as goal

pub settle_both-requires-clause-quiet : goal.settle_both-requires-clause-quiet
settle_both-requires-clause-quiet c = subst (λ (s : Set). AreMovedOrQuiet s c.args.b.now.current c.args.kernels.now) (sym c.wake_all.ensures.moved) c.requires.quiet

pub settle_both-requires-clause-knows : goal.settle_both-requires-clause-knows
settle_both-requires-clause-knows c = all_awake c.law_known_unless_moved.ensures c.args.kernels.now c.args.b.now.current c.wake_all.new.self.asking.asked c.wake_all.new.self.moved c.args.sets.now.asking.rests c.wake_all.new.self.asking.rests
    c.requires.rests c.wake_all.ensures.rests_count c.wake_all.ensures.awake
