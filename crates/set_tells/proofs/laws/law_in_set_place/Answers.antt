use Rattle.std.proofs.Common.{length}
use Rattle.set_tells.proofs.InSetLaws.{in_set_placed}
use Rattle.set_tells.proofs.laws.law_in_set_place.Goals as goal

pub returns : goal.returns
returns c = λ l x ranges b variables i d h. let p = in_set_placed c.law_clamp_order.ensures (length b) l x ranges b variables i d h in (p.named, p.in_box, p.bound)
