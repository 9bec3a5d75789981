use Rattle.search.proofs.LeastLaws.{records_below}
use Rattle.search.proofs.laws.law_records_below.Goals as goal

pub returns : goal.returns
returns c = records_below c.law_inside_order.ensures c.law_branches.ensures c.law_fixed_is_point.ensures c.law_point_solves.ensures
