-- The product fits 64 bits.
use Rattle.short_tells.proofs.GrowthLaws.{coded_fits, coded_is}
use Rattle.short_tells.proofs.short_terms.short_product.Goals as goal

pub overflow_mul-result : goal.overflow_mul-result
overflow_mul-result c = coded_fits c.args.y c.args.z c.ranges.y c.ranges.z c.requires

pub returns : goal.returns
returns c = coded_is c.args.y c.args.z c.ranges.y c.ranges.z c.requires
