use Rattle.fixpoint_laws.proofs.Existence.{greatest_is_computed}
use Rattle.fixpoint_laws.proofs.laws.law_greatest_is_computed.Goals as goal

pub returns : goal.returns
returns c = greatest_is_computed c.law_inside_order.ensures c.law_monotone.ensures c.law_tell_place.ensures
