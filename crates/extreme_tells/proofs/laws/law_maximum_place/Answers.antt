use Rattle.std.proofs.Common.{length}
use Rattle.extreme_tells.proofs.MaximumLaws.{max_placed}
use Rattle.extreme_tells.proofs.laws.law_maximum_place.Goals as goal

pub returns : goal.returns
returns c = λ m xs b variables i d h. let p = max_placed c.law_clamp_order.ensures (length b) m xs b variables i d h in (p.named, p.in_box, p.bound)
