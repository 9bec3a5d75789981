use Rattle.std.proofs.Common.{length}
use Rattle.clause_tells.proofs.ClauseLaws.{clause_placed}
use Rattle.clause_tells.proofs.laws.law_clause_place.Goals as goal

pub returns : goal.returns
returns c = λ lits b variables i d h. let p = clause_placed c.law_clamp_order.ensures (length b) lits b variables i d h in (p.named, p.in_box, p.bound)
