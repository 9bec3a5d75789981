use Rattle.fixpoint_tests.proofs.SmallKernels.{element_made}
use Rattle.fixpoint_tests.proofs.drawn.element.Goals as goal

pub returns : goal.returns
returns c = element_made c.var-x.result c.in_ok-entries.entries c.var-c.result c.var-x.ensures c.var-c.ensures c.in_ok-entries.ensures.below c.in_ok-entries.ensures.three
