use Rattle.arithmetic_tells.proofs.DivisionLaws.{div_monotone}
use Rattle.arithmetic_tells.proofs.laws.law_quotient_monotone.Goals as goal

pub returns : goal.returns
returns c = λ x y z outer inner variables range proper inside closed.
    div_monotone inner outer c.law_quotient_order.ensures c.law_clamp_order.ensures c.law_corner_order.ensures x y z proper inside closed
