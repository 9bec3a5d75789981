use Rattle.answer.proofs.AnswerLaws.{gives_one}
use Rattle.answer.proofs.laws.law_gives_one.Goals as goal

pub returns : goal.returns
returns c = λ model options answer o h. gives_one model options answer o h
