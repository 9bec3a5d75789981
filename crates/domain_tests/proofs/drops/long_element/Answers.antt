use Rattle.std.proofs.Common.{◌∙◌}
use Rattle.domain_tests.proofs.Examples.{long_element_made}
use Rattle.domain_tests.proofs.drops.long_element.Goals as goal

pub returns : goal.returns
returns c = long_element_made c.in_ok-entries.entries (c.in_ok-entries.ensures ∙ c.in_ok-long_list.ensures)
