use Rattle.std.proofs.Common.{◌∙◌}
use Rattle.propagator_tests.proofs.Examples.{no_literals_made}
use Rattle.propagator_tests.proofs.lists.no_literals.Goals as goal

pub returns : goal.returns
returns c = no_literals_made c.from_list.result (c.from_list.ensures ∙ c.empty.ensures)
