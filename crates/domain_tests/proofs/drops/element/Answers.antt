use Rattle.std.proofs.Common.{◌∙◌}
use Rattle.domain_tests.proofs.Examples.{element_made}
use Rattle.domain_tests.proofs.drops.element.Goals as goal

pub returns : goal.returns
returns c = element_made c.in_ok-entries.entries (c.in_ok-entries.ensures ∙ c.in_ok-vec.ensures.items)
