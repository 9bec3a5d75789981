use Rattle.std.proofs.Common.{sym, ◌∙◌}
use Rattle.fixpoint_tests.proofs.Marking.{put_quiet, put_fits}
use Rattle.fixpoint_tests.proofs.walks.put_one.Goals as goal

pub returns-clause-quiet : goal.returns-clause-quiet
returns-clause-quiet c = λ kernels all quiet. put_quiet c.law_quiet_unless_moved.ensures 40 c.args.b.now.current _ kernels c.args.sets.now.moved _ c.below-v.result _ _
    c.requires.length all c.mark.ensures c.in_ok-put.ensures.current c.below-v.ensures (c.requires.sets ∙ sym c.requires.length) quiet

pub returns-clause-sets : goal.returns-clause-sets
returns-clause-sets c = λ kernels fit. put_fits 40 kernels _ c.args.sets.now.moved _ c.below-v.result c.mark.ensures fit
