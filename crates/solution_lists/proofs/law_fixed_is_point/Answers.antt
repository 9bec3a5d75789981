use Rattle.solution_lists.proofs.StartLaws.{fixed_is_point}
use Rattle.solution_lists.proofs.law_fixed_is_point.Goals as goal

pub returns : goal.returns
returns c = fixed_is_point
