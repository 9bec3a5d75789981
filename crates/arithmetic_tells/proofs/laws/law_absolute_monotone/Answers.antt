use Rattle.arithmetic_tells.proofs.AbsoluteLaws.{abs_monotone}
use Rattle.arithmetic_tells.proofs.laws.law_absolute_monotone.Goals as goal

pub returns : goal.returns
returns c = λ x y outer inner variables range proper inside closed. abs_monotone inner outer c.law_quotient_order.ensures c.law_clamp_order.ensures x y proper inside closed
