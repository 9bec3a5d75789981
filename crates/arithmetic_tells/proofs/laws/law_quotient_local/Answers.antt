use Rattle.arithmetic_tells.proofs.DivisionLaws.{div_local, div_local_relation}
use Rattle.arithmetic_tells.proofs.laws.law_quotient_local.Goals as goal

pub returns-clause-tells : goal.returns-clause-tells
returns-clause-tells c = div_local

pub returns-clause-relation : goal.returns-clause-relation
returns-clause-relation c = div_local_relation
