use Rattle.sum_tells.proofs.EqualityPlace.{eq_local, eq_local_relation}
use Rattle.sum_tells.proofs.laws.law_equation_local.Goals as goal

pub returns-clause-tells : goal.returns-clause-tells
returns-clause-tells c = eq_local

pub returns-clause-relation : goal.returns-clause-relation
returns-clause-relation c = eq_local_relation
