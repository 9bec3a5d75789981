use Rattle.subproblems.proofs.DeeperLemmas.{deeper_laws}
use Rattle.subproblems.proofs.laws.law_deeper.Goals as goal

pub returns : goal.returns
returns c = deeper_laws c.law_inside_order.ensures c.law_cuts.ensures c.law_paths.ensures c.law_one_list.ensures
