use Rattle.global_tells.proofs.AllDifferentPlace.{all_different_local, all_different_local_relation}
use Rattle.global_tells.proofs.laws.law_all_different_local.Goals as goal

pub returns-clause-tells : goal.returns-clause-tells
returns-clause-tells c = all_different_local

pub returns-clause-relation : goal.returns-clause-relation
returns-clause-relation c = all_different_local_relation
