use Rattle.search.proofs.LimitLaws.{limit_laws}
use Rattle.search.proofs.laws.law_limits.Goals as goal

pub returns : goal.returns
returns c = limit_laws c.law_inside_order.ensures c.law_branches.ensures c.law_points.ensures c.law_rounds_lead.ensures
