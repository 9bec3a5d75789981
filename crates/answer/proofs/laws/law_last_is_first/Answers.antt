use Rattle.answer.proofs.SettledLaws.{last_is_first}
use Rattle.answer.proofs.laws.law_last_is_first.Goals as goal

pub returns : goal.returns
returns c = last_is_first c.law_finds_first.ensures c.law_records_solutions.ensures
