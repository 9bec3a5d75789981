use Rattle.branching.proofs.TreeLaws.{every_list}
use Rattle.branching.proofs.laws.law_every_list.Goals as goal

pub returns : goal.returns
returns c = every_list c.law_inside_order.ensures c.law_tightens_one.ensures c.law_quotient_order.ensures c.law_one_fixpoint.ensures
