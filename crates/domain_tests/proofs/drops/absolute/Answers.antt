use Rattle.domain_tests.proofs.Examples.{absolute_made}
use Rattle.domain_tests.proofs.drops.absolute.Goals as goal

pub returns : goal.returns
returns c = absolute_made
