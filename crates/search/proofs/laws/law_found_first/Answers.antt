use Rattle.search.proofs.RunLaws.{prefix_laws}
use Rattle.search.proofs.laws.law_found_first.Goals as goal

pub returns : goal.returns
returns c = prefix_laws c.law_inside_order.ensures c.law_branches.ensures c.law_every_list.ensures
