-- The opposites of its bounds.
use Rattle.small_sums.proofs.PairLaws.{opposite_term}
use Rattle.small_sums.proofs.pairs.opposite.Goals as goal

pub returns : goal.returns
returns c = opposite_term c.args.b.now c.args.var c.low.result c.high.result c.low.ensures.in_range c.high.ensures.in_range c.low.ensures.value c.high.ensures.value c.requires.proper
