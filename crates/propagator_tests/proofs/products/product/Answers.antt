use Rattle.propagator_tests.proofs.Examples.{product_kernel}
use Rattle.propagator_tests.proofs.products.product.Goals as goal

pub returns : goal.returns
returns c = product_kernel
