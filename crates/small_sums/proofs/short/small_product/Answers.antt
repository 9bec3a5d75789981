-- The product fits 64 bits.
use Rattle.small_sums.proofs.ShortLaws.{coded_fits, coded_is}
use Rattle.small_sums.proofs.short.small_product.Goals as goal

pub overflow_mul-result : goal.overflow_mul-result
overflow_mul-result c = coded_fits c.args.a c.args.z c.ranges.a c.ranges.z c.requires

pub returns-clause-value : goal.returns-clause-value
returns-clause-value c = coded_is c.args.a c.args.z c.ranges.a c.ranges.z c.requires

pub returns-clause-in_range : goal.returns-clause-in_range
returns-clause-in_range c = rw (coded_is c.args.a c.args.z c.ranges.a c.ranges.z c.requires) c.requires
