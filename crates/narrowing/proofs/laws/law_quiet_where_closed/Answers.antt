use Rattle.narrowing.proofs.Noting.{quiet_where_closed}
use Rattle.narrowing.proofs.laws.law_quiet_where_closed.Goals as goal

pub returns : goal.returns
returns c = quiet_where_closed c.law_quiet_unless_moved.ensures
