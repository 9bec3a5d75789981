use Rattle.std.proofs.Common.{rules}
use Rattle.fzn_model.proofs.Turns.{range_goes}
use Rattle.fzn_model.proofs.searches.numbers_below.Goals as goal

pub loop-number-preserved : goal.loop-number-preserved
loop-number-preserved c = range_goes c.loop-number.number _ _ c.loop-number.invariant (search rules)
