use Rattle.fixpoint_tests.proofs.SmallKernels.{greatest_made, least_made}
use Rattle.fixpoint_tests.proofs.drawn.extreme.Goals as goal

pub returns-then-below-eq0 : goal.returns-then-below-eq0
returns-then-below-eq0 c = greatest_made c.var-m.result c.in_ok-xs.xs c.var-m.ensures c.in_ok-xs.ensures.below c.in_ok-xs.ensures.three

pub returns-else-below-eq0 : goal.returns-else-below-eq0
returns-else-below-eq0 c = least_made c.var-m.result c.in_ok-xs.xs c.var-m.ensures c.in_ok-xs.ensures.below c.in_ok-xs.ensures.three
