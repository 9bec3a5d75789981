use Rattle.element_tells.proofs.ElementLaws.{element_local, element_local_relation}
use Rattle.element_tells.proofs.laws.law_element_local.Goals as goal

pub returns-clause-tells : goal.returns-clause-tells
returns-clause-tells c = λ x entries z. element_local x z entries

pub returns-clause-relation : goal.returns-clause-relation
returns-clause-relation c = λ x entries z. element_local_relation x z entries
