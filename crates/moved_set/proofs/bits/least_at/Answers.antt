use Rattle.std.proofs.Common.{arith}
use Rattle.moved_set.proofs.BitLaws.{least_at}
use Rattle.moved_set.proofs.bits.least_at.Goals as goal

pub returns : goal.returns
returns c = least_at c.args.bits c.args.place c.args.count c.min.result c.requires.some c.ranges.bits.fits (omega arith)
