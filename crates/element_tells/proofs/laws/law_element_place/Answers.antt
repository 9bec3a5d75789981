use Rattle.std.proofs.Common.{length}
use Rattle.element_tells.proofs.ElementLaws.{element_placed}
use Rattle.element_tells.proofs.laws.law_element_place.Goals as goal

pub returns : goal.returns
returns c = λ x entries z b variables i d h. let p = element_placed c.law_clamp_order.ensures (length b) x z entries b variables i d h in (p.named, p.in_box, p.bound)
