use Rattle.bit_domain.proofs.DomLaws.{within_hull, has_hull, hull_in_range}
use Rattle.bit_domain.proofs.laws.law_hull.Goals as goal

pub returns-clause-within : goal.returns-clause-within
returns-clause-within c = within_hull

pub returns-clause-ends : goal.returns-clause-ends
returns-clause-ends c = has_hull

pub returns-clause-in_range : goal.returns-clause-in_range
returns-clause-in_range c = hull_in_range
