use Rattle.arithmetic_tells.proofs.TimesLaws.{times_local, times_local_relation}
use Rattle.arithmetic_tells.proofs.laws.law_product_local.Goals as goal

pub returns-clause-tells : goal.returns-clause-tells
returns-clause-tells c = times_local

pub returns-clause-relation : goal.returns-clause-relation
returns-clause-relation c = times_local_relation
