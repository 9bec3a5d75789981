use Rattle.answer.proofs.AnswerLaws.{gives_smallest}
use Rattle.answer.proofs.laws.law_gives_smallest.Goals as goal

pub returns : goal.returns
returns c = λ model answer a plain satisfy h e. gives_smallest model answer a plain e satisfy h
