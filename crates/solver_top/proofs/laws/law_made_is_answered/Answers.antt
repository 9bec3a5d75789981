use Rattle.solver_top.proofs.KnownLaws.{known_is}
use Rattle.solver_top.proofs.MadeLaws.{models, no_fault, lines_say}
use Rattle.solver_top.proofs.laws.law_made_is_answered.Goals as goal

pub returns-clause-model : goal.returns-clause-model
returns-clause-model c = models c.law_made_has_a_model.ensures

pub returns-clause-no_fault : goal.returns-clause-no_fault
returns-clause-no_fault c = no_fault c.law_made_has_a_model.ensures c.law_one_text.ensures.never_both

pub returns-clause-line : goal.returns-clause-line
returns-clause-line c = lines_say c.law_made_has_a_model.ensures c.law_one_text.ensures.one_model (known_is c.law_unfinished_marks.ensures)
