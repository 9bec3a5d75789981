use Rattle.propagator_tests.proofs.Examples.{absolute_kernel}
use Rattle.propagator_tests.proofs.arithmetic.absolute_value.Goals as goal

pub returns : goal.returns
returns c = absolute_kernel
