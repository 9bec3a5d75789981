use Rattle.set_tells.proofs.InSetLaws.{in_set_closed_holds, in_set_holds_closed}
use Rattle.set_tells.proofs.laws.law_in_set_point.Goals as goal

pub returns : goal.returns
returns c = λ l x ranges b variables point numbers. (
  in_set_closed_holds c.law_clamp_order.ensures b l x ranges variables point numbers,
  in_set_holds_closed c.law_clamp_order.ensures b l x ranges variables point numbers,
)
