use Rattle.std.proofs.Common.{refl}
use Rattle.bit_domain.proofs.DomLaws.{subset_from_numbers, inside_in_range}
use Rattle.bit_domain.proofs.laws.law_inside.Goals as goal

pub returns-clause-bits : goal.returns-clause-bits
returns-clause-bits c = λ base inner outer h. (refl, subset_from_numbers base inner outer h)

pub returns-clause-in_range : goal.returns-clause-in_range
returns-clause-in_range c = inside_in_range
