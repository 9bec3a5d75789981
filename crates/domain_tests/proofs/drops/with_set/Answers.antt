use Rattle.domain_tests.proofs.Examples.{coded_set}
use Rattle.domain_tests.proofs.drops.with_set.Goals as goal

pub put-requires-clause-in_range : goal.put-requires-clause-in_range
put-requires-clause-in_range g c = coded_set c.args.base c.args.set c.ranges.set.fits
