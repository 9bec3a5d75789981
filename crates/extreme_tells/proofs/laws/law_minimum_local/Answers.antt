use Rattle.extreme_tells.proofs.MinimumLaws.{min_local, min_local_relation}
use Rattle.extreme_tells.proofs.laws.law_minimum_local.Goals as goal

pub returns-clause-tells : goal.returns-clause-tells
returns-clause-tells c = min_local

pub returns-clause-relation : goal.returns-clause-relation
returns-clause-relation c = min_local_relation
