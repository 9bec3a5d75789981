use Rattle.bit_domain.proofs.BitLaws.{least_is}
use Rattle.bit_domain.proofs.bits.least.Goals as goal

pub returns : goal.returns
returns c = least_is c.args.set c.requires c.ranges.set.fits
