use Rattle.model_text.proofs.LongLaws.{long_has_fault}
use Rattle.model_text.proofs.laws.law_long_text.Goals as goal

pub returns : goal.returns
returns c = long_has_fault
