use Rattle.decompose.proofs.ProgramLaws.{one_program}
use Rattle.decompose.proofs.program.law_one_program.Goals as goal

pub returns : goal.returns
returns c = one_program
