use Rattle.propagator_tests.proofs.Examples.{none_different_made}
use Rattle.propagator_tests.proofs.global_constraints.none_different.Goals as goal

pub returns : goal.returns
returns c = none_different_made c.empty.result c.empty.ensures
