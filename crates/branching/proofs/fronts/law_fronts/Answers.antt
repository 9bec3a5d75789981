use Rattle.branching.proofs.FrontLaws.{fronts_stay}
use Rattle.branching.proofs.fronts.law_fronts.Goals as goal

pub returns : goal.returns
returns c = fronts_stay
