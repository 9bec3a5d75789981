use Rattle.moved_fixpoint.proofs.QuietLaws.{quiet_unless_moved}
use Rattle.moved_fixpoint.proofs.laws.law_quiet_unless_moved.Goals as goal

pub returns : goal.returns
returns c = quiet_unless_moved c.law_tell_place.ensures c.law_local.ensures.tells
