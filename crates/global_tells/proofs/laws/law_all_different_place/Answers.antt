use Rattle.std.proofs.Common.{length}
use Rattle.global_tells.proofs.AllDifferentPlace.{all_different_placed}
use Rattle.global_tells.proofs.laws.law_all_different_place.Goals as goal

pub returns : goal.returns
returns c = λ xs b variables. all_different_placed c.law_clamp_order.ensures (length b) xs variables b
