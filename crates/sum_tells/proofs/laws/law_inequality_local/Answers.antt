use Rattle.sum_tells.proofs.LePlace.{le_local, le_local_relation}
use Rattle.sum_tells.proofs.laws.law_inequality_local.Goals as goal

pub returns-clause-tells : goal.returns-clause-tells
returns-clause-tells c = le_local

pub returns-clause-relation : goal.returns-clause-relation
returns-clause-relation c = le_local_relation
