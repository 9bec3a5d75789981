use Rattle.domain_tests.proofs.Examples.{may_hear_any, kernel_on_four, proper_in_four}
use Rattle.domain_tests.proofs.drops.drops_on.Goals as goal

pub visit_drops-requires-clause-kernel : goal.visit_drops-requires-clause-kernel
visit_drops-requires-clause-kernel c = kernel_on_four c.args.kernel.now c.args.m.now c.requires.kernel c.requires.four

pub visit_drops-requires-clause-proper : goal.visit_drops-requires-clause-proper
visit_drops-requires-clause-proper c = proper_in_four c.args.kernel.now c.args.m.now c.requires.kernel c.requires.four c.requires.proper

pub visit_drops-requires-clause-hearer : goal.visit_drops-requires-clause-hearer
visit_drops-requires-clause-hearer c = may_hear_any _ _ _
