use Rattle.std.proofs.Common.{length}
use Rattle.arithmetic_tells.proofs.AbsoluteLaws.{abs_placed}
use Rattle.arithmetic_tells.proofs.laws.law_absolute_place.Goals as goal

pub returns : goal.returns
returns c = λ x y b variables i d h. let p = abs_placed c.law_clamp_order.ensures (length b) x y b variables i d h in (p.named, p.in_box, p.bound)
