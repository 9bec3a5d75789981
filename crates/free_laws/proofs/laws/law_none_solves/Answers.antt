use Rattle.free_laws.proofs.StepProofs.{none_solves}
use Rattle.free_laws.proofs.laws.law_none_solves.Goals as goal

pub returns : goal.returns
returns c = none_solves c.law_inside_order.ensures c.law_point_solves.ensures
