use Rattle.solution_lists.proofs.PointLaws.{solutions_listed}
use Rattle.solution_lists.proofs.law_solutions_listed.Goals as goal

pub returns : goal.returns
returns c = solutions_listed c.law_point_solves.ensures c.law_each_once.ensures
