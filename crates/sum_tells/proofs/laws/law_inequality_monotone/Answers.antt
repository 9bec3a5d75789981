use Rattle.sum_tells.proofs.LeLaws.{le_monotone}
use Rattle.sum_tells.proofs.laws.law_inequality_monotone.Goals as goal

pub returns : goal.returns
returns c = λ l coeffs vars limit same outer inner variables range proper inside closed.
    le_monotone inner outer c.law_quotient_order.ensures c.law_clamp_order.ensures l coeffs vars limit same proper inside closed
