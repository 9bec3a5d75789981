use Rattle.propagator_tests.proofs.Examples.{may_hear_any, kernel_on_four, proper_in_four}
use Rattle.propagator_tests.proofs.four_variables.narrowing_on.Goals as goal

pub visit_narrowing-requires-clause-kernel : goal.visit_narrowing-requires-clause-kernel
visit_narrowing-requires-clause-kernel c = kernel_on_four c.args.kernel.now c.args.b.now c.requires.kernel c.requires.four

pub visit_narrowing-requires-clause-proper : goal.visit_narrowing-requires-clause-proper
visit_narrowing-requires-clause-proper c = proper_in_four c.args.kernel.now c.args.b.now c.requires.kernel c.requires.four c.requires.proper

pub visit_narrowing-requires-clause-hearer : goal.visit_narrowing-requires-clause-hearer
visit_narrowing-requires-clause-hearer c = may_hear_any _ _ _
