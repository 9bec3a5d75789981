use Rattle.interval.proofs.CornerLaws.{corner_order}
use Rattle.interval.proofs.corners.law_corner_order.Goals as goal

pub returns : goal.returns
returns c = corner_order
