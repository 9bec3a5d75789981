use Rattle.std.proofs.Common.{length}
use Rattle.fixpoint_tests.proofs.TreeLaws.{settled_for}
use Rattle.fixpoint_tests.proofs.trees.settle_here.Goals as goal

pub returns-clause-are_for : goal.returns-clause-are_for
returns-clause-are_for c = settled_for c.args.kernels.now c.args.masks.now (length c.args.b.now.current) (length c.settle_both.new.b.current) c.args.sets.now c.settle_both.new.sets
    c.in_ok-ended.ensures.length c.in_ok-ended.ensures.sets c.in_ok-ended.ensures.rests c.requires.are_for
