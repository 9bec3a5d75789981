-- Its bounds.
use Rattle.small_sums.proofs.PairLaws.{plain_term}
use Rattle.small_sums.proofs.pairs.plain.Goals as goal

pub returns : goal.returns
returns c = plain_term c.args.b.now c.args.var c.low.result c.high.result c.low.ensures.in_range c.high.ensures.in_range c.low.ensures.value c.high.ensures.value c.requires.proper
