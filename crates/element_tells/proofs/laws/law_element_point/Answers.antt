use Rattle.element_tells.proofs.ElementLaws.{element_closed_holds, element_holds_closed}
use Rattle.element_tells.proofs.laws.law_element_point.Goals as goal

pub returns : goal.returns
returns c = λ x entries z b variables point numbers. (
  element_closed_holds c.law_clamp_order.ensures b x z entries variables point numbers,
  element_holds_closed c.law_clamp_order.ensures b x z entries variables point numbers,
)
