use Rattle.fixpoint_tests.proofs.SmallKernels.{absolute_made}
use Rattle.fixpoint_tests.proofs.drawn.absolute.Goals as goal

pub returns : goal.returns
returns c = absolute_made c.var-x.result c.var-y.result c.var-x.ensures c.var-y.ensures
