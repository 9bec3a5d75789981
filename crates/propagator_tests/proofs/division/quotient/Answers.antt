use Rattle.propagator_tests.proofs.Examples.{quotient_kernel}
use Rattle.propagator_tests.proofs.division.quotient.Goals as goal

pub returns : goal.returns
returns c = quotient_kernel c.args.x c.args.y c.args.z c.requires.x c.requires.y c.requires.z
