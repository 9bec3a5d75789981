use Rattle.propagator_tests.proofs.Examples.{remainder_kernel}
use Rattle.propagator_tests.proofs.division.remainder.Goals as goal

pub returns : goal.returns
returns c = remainder_kernel c.args.x c.args.y c.args.z c.requires.x c.requires.y c.requires.z
