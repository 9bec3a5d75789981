use Rattle.search.proofs.LeastLaws.{finds_least}
use Rattle.search.proofs.laws.law_finds_least.Goals as goal

pub returns : goal.returns
returns c = finds_least c.law_inside_order.ensures c.law_branches.ensures c.law_fixed_is_point.ensures c.law_point_solves.ensures
