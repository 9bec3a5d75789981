use Rattle.propagator_tests.proofs.Examples.{kernel_on_four, proper_in_four}
use Rattle.propagator_tests.proofs.said.is_said.Goals as goal

pub sole_tell-requires-clause-kernel : goal.sole_tell-requires-clause-kernel
sole_tell-requires-clause-kernel c = kernel_on_four c.args.kernel.now c.args.b.now c.requires.kernel c.requires.four

pub sole_tell-requires-clause-proper : goal.sole_tell-requires-clause-proper
sole_tell-requires-clause-proper c = proper_in_four c.args.kernel.now c.args.b.now c.requires.kernel c.requires.four c.requires.proper
