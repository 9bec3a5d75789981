use Rattle.solver_top.proofs.OutcomeLaws.{memory_cause}
use Rattle.solver_top.proofs.solving.answer_of_words.Goals as goal

pub returns-in-Err-NoMemory-clause-cause : goal.returns-in-Err-NoMemory-clause-cause
returns-in-Err-NoMemory-clause-cause g c = memory_cause _ _ _ _
