use Rattle.extreme_tells.proofs.MaximumLaws.{max_closed_holds, max_holds_closed}
use Rattle.extreme_tells.proofs.laws.law_maximum_point.Goals as goal

pub returns : goal.returns
returns c = λ m xs b variables point numbers. (
  max_closed_holds c.law_clamp_order.ensures b m xs variables point numbers,
  max_holds_closed c.law_clamp_order.ensures b m xs variables point numbers,
)
