use Rattle.bit_domain.proofs.BitLaws.{greatest_is}
use Rattle.bit_domain.proofs.bits.greatest.Goals as goal

pub returns : goal.returns
returns c = greatest_is c.args.set c.requires c.ranges.set.fits
