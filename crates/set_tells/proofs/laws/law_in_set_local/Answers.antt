use Rattle.set_tells.proofs.InSetLaws.{in_set_local, in_set_local_relation}
use Rattle.set_tells.proofs.laws.law_in_set_local.Goals as goal

pub returns-clause-tells : goal.returns-clause-tells
returns-clause-tells c = in_set_local

pub returns-clause-relation : goal.returns-clause-relation
returns-clause-relation c = in_set_local_relation
