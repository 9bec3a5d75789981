use Rattle.clause_tells.proofs.ClauseLaws.{clause_local, clause_local_relation}
use Rattle.clause_tells.proofs.laws.law_clause_local.Goals as goal

pub returns-clause-tells : goal.returns-clause-tells
returns-clause-tells c = clause_local

pub returns-clause-relation : goal.returns-clause-relation
returns-clause-relation c = clause_local_relation
