use Rattle.propagator_tests.proofs.Examples.{may_hear_any, kernel_on_four, proper_in_four}
use Rattle.propagator_tests.proofs.four_variables.tells_on.Goals as goal

pub visit_tells-requires-clause-kernel : goal.visit_tells-requires-clause-kernel
visit_tells-requires-clause-kernel c = kernel_on_four c.args.kernel.now c.args.b.now c.requires.kernel c.requires.four

pub visit_tells-requires-clause-proper : goal.visit_tells-requires-clause-proper
visit_tells-requires-clause-proper c = proper_in_four c.args.kernel.now c.args.b.now c.requires.kernel c.requires.four c.requires.proper

pub visit_tells-requires-clause-hearer : goal.visit_tells-requires-clause-hearer
visit_tells-requires-clause-hearer c = may_hear_any _ _ _
