use Rattle.free_laws.proofs.AssumptionProofs.{assumption_laws}
use Rattle.free_laws.proofs.laws.law_assumptions.Goals as goal

pub returns : goal.returns
returns c = assumption_laws c.law_literals.ensures c.law_nogoods.ensures
