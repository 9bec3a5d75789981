use Rattle.solution_lists.proofs.PointLaws.{point_solves}
use Rattle.solution_lists.proofs.law_point_solves.Goals as goal

pub returns : goal.returns
returns c = point_solves c.law_inside_order.ensures c.law_point.ensures
