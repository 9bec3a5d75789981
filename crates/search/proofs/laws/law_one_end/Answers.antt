use Rattle.search.proofs.EndLaws.{end_laws}
use Rattle.search.proofs.laws.law_one_end.Goals as goal

pub returns : goal.returns
returns c = end_laws c.law_one_fixpoint.ensures c.law_branches.ensures
