use Rattle.moved_set.proofs.BitLaws.{eight_none}
use Rattle.moved_set.proofs.bits.are_eight_zeros.Goals as goal

pub returns : goal.returns
returns c = eight_none c.args.words.now c.args.place
