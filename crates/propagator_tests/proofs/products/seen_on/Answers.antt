use Rattle.propagator_tests.proofs.Examples.{kernel_on_four, proper_in_four}
use Rattle.propagator_tests.proofs.products.seen_on.Goals as goal

pub seen_visit-requires-clause-kernel : goal.seen_visit-requires-clause-kernel
seen_visit-requires-clause-kernel c = kernel_on_four c.args.kernel.now c.args.b.now c.requires.kernel c.requires.four

pub seen_visit-requires-clause-proper : goal.seen_visit-requires-clause-proper
seen_visit-requires-clause-proper c = proper_in_four c.args.kernel.now c.args.b.now c.requires.kernel c.requires.four c.requires.proper
