use Rattle.clause_tells.proofs.ClauseLaws.{clause_monotone}
use Rattle.clause_tells.proofs.laws.law_clause_monotone.Goals as goal

pub returns : goal.returns
returns c = λ lits outer inner variables range proper inside closed. clause_monotone inner outer lits proper inside closed
