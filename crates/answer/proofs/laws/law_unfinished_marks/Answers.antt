use Rattle.answer.proofs.AnswerLaws.{unfinished_marks}
use Rattle.answer.proofs.laws.law_unfinished_marks.Goals as goal

pub returns : goal.returns
returns c = λ model options answer h. unfinished_marks model options answer h
