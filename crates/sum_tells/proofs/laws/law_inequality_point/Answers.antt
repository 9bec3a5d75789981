use Rattle.sum_tells.proofs.LePoint.{le_closed_holds, le_holds_closed}
use Rattle.sum_tells.proofs.laws.law_inequality_point.Goals as goal

pub returns : goal.returns
returns c = λ l coeffs vars limit same b variables point numbers. (
  le_closed_holds c.law_quotient_order.ensures c.law_clamp_order.ensures b l coeffs vars limit same variables point numbers,
  le_holds_closed c.law_quotient_order.ensures c.law_clamp_order.ensures b l coeffs vars limit same variables point numbers,
)
