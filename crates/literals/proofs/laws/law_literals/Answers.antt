use Rattle.literals.proofs.LiteralLaws.{literal_laws}
use Rattle.literals.proofs.laws.law_literals.Goals as goal

pub returns : goal.returns
returns c = literal_laws
