use Rattle.fixpoint_tests.proofs.SmallKernels.{set_made}
use Rattle.fixpoint_tests.proofs.drawn.in_set.Goals as goal

pub returns : goal.returns
returns c = set_made c.lit-lit.result c.var-x.result c.in_ok-ranges.ranges c.lit-lit.ensures c.var-x.ensures c.in_ok-ranges.ensures
