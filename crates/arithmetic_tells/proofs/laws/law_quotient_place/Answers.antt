use Rattle.std.proofs.Common.{length}
use Rattle.arithmetic_tells.proofs.DivisionLaws.{div_placed}
use Rattle.arithmetic_tells.proofs.laws.law_quotient_place.Goals as goal

pub returns : goal.returns
returns c = λ x y z b variables i d h. let p = div_placed c.law_clamp_order.ensures (length b) x y z b variables i d h in (p.named, p.in_box, p.bound)
