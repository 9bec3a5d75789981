use Rattle.extreme_tells.proofs.MinimumLaws.{min_closed_holds, min_holds_closed}
use Rattle.extreme_tells.proofs.laws.law_minimum_point.Goals as goal

pub returns : goal.returns
returns c = λ m xs b variables point numbers. (
  min_closed_holds c.law_clamp_order.ensures b m xs variables point numbers,
  min_holds_closed c.law_clamp_order.ensures b m xs variables point numbers,
)
