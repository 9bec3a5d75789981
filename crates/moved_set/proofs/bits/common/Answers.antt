use Rattle.moved_set.proofs.AskedLaws.{common_bits}
use Rattle.moved_set.proofs.bits.common.Goals as goal

pub returns-clause-hits : goal.returns-clause-hits
returns-clause-hits c = λ j. common_bits c.args.words.now c.args.mask j
