use Rattle.search.proofs.LeastLaws.{costs_fall}
use Rattle.search.proofs.laws.law_costs_fall.Goals as goal

pub returns : goal.returns
returns c = costs_fall c.law_inside_order.ensures c.law_branches.ensures c.law_fixed_is_point.ensures c.law_point_solves.ensures
