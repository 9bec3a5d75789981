use Rattle.clause_tells.proofs.ClauseLaws.{clause_closed_holds, clause_holds_closed}
use Rattle.clause_tells.proofs.laws.law_clause_point.Goals as goal

pub returns : goal.returns
returns c = λ lits b variables point numbers. (
  clause_closed_holds c.law_clamp_order.ensures b lits variables point numbers,
  clause_holds_closed c.law_clamp_order.ensures b lits variables point,
)
