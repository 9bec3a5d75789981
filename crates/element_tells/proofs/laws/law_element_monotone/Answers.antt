use Rattle.element_tells.proofs.ElementLaws.{element_monotone}
use Rattle.element_tells.proofs.laws.law_element_monotone.Goals as goal

pub returns : goal.returns
returns c = λ x entries z short outer inner variables range proper inside closed. element_monotone c.law_clamp_order.ensures x z entries inner outer short proper inside closed
