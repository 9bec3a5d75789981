use Rattle.extreme_tells.proofs.MaximumLaws.{max_local, max_local_relation}
use Rattle.extreme_tells.proofs.laws.law_maximum_local.Goals as goal

pub returns-clause-tells : goal.returns-clause-tells
returns-clause-tells c = max_local

pub returns-clause-relation : goal.returns-clause-relation
returns-clause-relation c = max_local_relation
