use Rattle.narrowing.proofs.RestNoting.{known_where_rests}
use Rattle.narrowing.proofs.laws.law_known_where_rests.Goals as goal

pub returns : goal.returns
returns c = known_where_rests c.law_known_unless_moved.ensures
