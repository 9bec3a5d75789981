use Rattle.arithmetic_tells.proofs.RemainderLaws.{mod_local, mod_local_relation}
use Rattle.arithmetic_tells.proofs.laws.law_remainder_local.Goals as goal

pub returns-clause-tells : goal.returns-clause-tells
returns-clause-tells c = mod_local

pub returns-clause-relation : goal.returns-clause-relation
returns-clause-relation c = mod_local_relation
