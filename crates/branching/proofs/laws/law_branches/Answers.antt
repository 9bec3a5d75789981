use Rattle.branching.proofs.TreeLaws.{branch_laws}
use Rattle.branching.proofs.laws.law_branches.Goals as goal

pub returns : goal.returns
returns c = branch_laws c.law_inside_order.ensures c.law_tightens_one.ensures c.law_quotient_order.ensures
