use Rattle.bit_domain.proofs.DomLaws.{has_between, hull_between}
use Rattle.bit_domain.proofs.laws.law_between.Goals as goal

pub returns-clause-numbers : goal.returns-clause-numbers
returns-clause-numbers c = has_between

pub returns-clause-hull : goal.returns-clause-hull
returns-clause-hull c = hull_between
