use Rattle.search.proofs.LaneLaws.{lane_laws}
use Rattle.search.proofs.laws.law_lanes_are_free.Goals as goal

pub returns : goal.returns
returns c = lane_laws
