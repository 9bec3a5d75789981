use Rattle.arithmetic_tells.proofs.TimesLaws.{times_monotone}
use Rattle.arithmetic_tells.proofs.laws.law_product_monotone.Goals as goal

pub returns : goal.returns
returns c = λ x y z outer inner variables range proper inside closed.
    times_monotone inner outer c.law_quotient_order.ensures c.law_clamp_order.ensures c.law_corner_order.ensures x y z proper inside closed
