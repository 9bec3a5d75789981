use Rattle.std.proofs.Common.{length}
use Rattle.arithmetic_tells.proofs.RemainderLaws.{mod_placed}
use Rattle.arithmetic_tells.proofs.laws.law_remainder_place.Goals as goal

pub returns : goal.returns
returns c = λ x y z b variables i d h. let p = mod_placed c.law_clamp_order.ensures (length b) x y z b variables i d h in (p.named, p.in_box, p.bound)
