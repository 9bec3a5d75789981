use Rattle.branching.proofs.PointCounting.{point_counts}
use Rattle.branching.proofs.laws.law_points.Goals as goal

pub returns : goal.returns
returns c = point_counts c.law_quotient_order.ensures
