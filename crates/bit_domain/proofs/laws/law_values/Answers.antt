use Rattle.bit_domain.proofs.DomLaws.{values_has}
use Rattle.bit_domain.proofs.laws.law_values.Goals as goal

pub returns : goal.returns
returns c = values_has
