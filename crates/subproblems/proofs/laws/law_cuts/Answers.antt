use Rattle.subproblems.proofs.CutLemmas.{cut_laws}
use Rattle.subproblems.proofs.laws.law_cuts.Goals as goal

pub returns : goal.returns
returns c = cut_laws c.law_inside_order.ensures c.law_one_fixpoint.ensures c.law_branches.ensures
