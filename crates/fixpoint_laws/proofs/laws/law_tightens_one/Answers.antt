use Rattle.fixpoint_laws.proofs.Pair.{tightens_one}
use Rattle.fixpoint_laws.proofs.laws.law_tightens_one.Goals as goal

pub returns : goal.returns
returns c = tightens_one
