use Rattle.branching.proofs.ListLaws.{each_once}
use Rattle.branching.proofs.laws.law_each_once.Goals as goal

pub returns : goal.returns
returns c = each_once c.law_inside_order.ensures c.law_tightens_one.ensures c.law_quotient_order.ensures
