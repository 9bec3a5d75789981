use Rattle.std.proofs.Common.{length}
use Rattle.extreme_tells.proofs.MinimumLaws.{min_placed}
use Rattle.extreme_tells.proofs.laws.law_minimum_place.Goals as goal

pub returns : goal.returns
returns c = λ m xs b variables i d h. let p = min_placed c.law_clamp_order.ensures (length b) m xs b variables i d h in (p.named, p.in_box, p.bound)
