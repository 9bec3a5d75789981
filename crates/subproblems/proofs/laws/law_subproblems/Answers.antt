use Rattle.subproblems.proofs.SubproblemLemmas.{subproblem_laws}
use Rattle.subproblems.proofs.laws.law_subproblems.Goals as goal

pub returns : goal.returns
returns c = subproblem_laws c.law_inside_order.ensures c.law_cuts.ensures
