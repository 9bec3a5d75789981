use Rattle.sum_tells.proofs.EqualityPoint.{eq_closed_holds, eq_holds_closed}
use Rattle.sum_tells.proofs.laws.law_equation_point.Goals as goal

pub returns : goal.returns
returns c = λ l coeffs vars limit same b variables point numbers. (
  eq_closed_holds c.law_quotient_order.ensures c.law_clamp_order.ensures b l coeffs vars limit same variables point numbers,
  eq_holds_closed c.law_quotient_order.ensures c.law_clamp_order.ensures b l coeffs vars limit same variables point numbers,
)
