use Rattle.moved_fixpoint.proofs.KnownLaws.{known_unless_moved}
use Rattle.moved_fixpoint.proofs.laws.law_known_unless_moved.Goals as goal

pub returns : goal.returns
returns c = known_unless_moved c.law_inside_order.ensures
