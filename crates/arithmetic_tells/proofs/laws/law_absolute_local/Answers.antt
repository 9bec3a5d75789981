use Rattle.arithmetic_tells.proofs.AbsoluteLaws.{abs_local, abs_local_relation}
use Rattle.arithmetic_tells.proofs.laws.law_absolute_local.Goals as goal

pub returns-clause-tells : goal.returns-clause-tells
returns-clause-tells c = abs_local

pub returns-clause-relation : goal.returns-clause-relation
returns-clause-relation c = abs_local_relation
