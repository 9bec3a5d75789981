use Rattle.fixpoint_tests.proofs.SmallKernels.{product_made, quotient_made, remainder_made}
use Rattle.fixpoint_tests.proofs.drawn.product.Goals as goal

pub returns-in-0 : goal.returns-in-0
returns-in-0 c = product_made c.var-x.result c.var-y.result c.var-z.result c.var-x.ensures c.var-y.ensures c.var-z.ensures

pub returns-in-1 : goal.returns-in-1
returns-in-1 c = quotient_made c.var-x.result c.var-y.result c.var-z.result c.var-x.ensures c.var-y.ensures c.var-z.ensures

pub returns-in_default : goal.returns-in_default
returns-in_default c = remainder_made c.var-x.result c.var-y.result c.var-z.result c.var-x.ensures c.var-y.ensures c.var-z.ensures
