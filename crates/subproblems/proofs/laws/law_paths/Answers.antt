use Rattle.subproblems.proofs.PathLemmas.{path_laws}
use Rattle.subproblems.proofs.laws.law_paths.Goals as goal

pub returns : goal.returns
returns c = path_laws c.law_inside_order.ensures c.law_cuts.ensures c.law_subproblems.ensures
