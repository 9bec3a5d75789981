use Rattle.answer.proofs.OneFinished.{one_finished}
use Rattle.answer.proofs.laws.law_one_finished.Goals as goal

pub returns : goal.returns
returns c = λ model all answer other rule h k. one_finished c.law_one_list.ensures model rule all answer other h k
