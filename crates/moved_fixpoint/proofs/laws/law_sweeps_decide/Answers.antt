use Rattle.moved_fixpoint.proofs.SweepLaws.{sweeps_decide}
use Rattle.moved_fixpoint.proofs.laws.law_sweeps_decide.Goals as goal

pub returns : goal.returns
returns c = sweeps_decide
