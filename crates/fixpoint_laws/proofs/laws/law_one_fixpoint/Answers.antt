use Rattle.fixpoint_laws.proofs.Existence.{one_fixpoint}
use Rattle.fixpoint_laws.proofs.laws.law_one_fixpoint.Goals as goal

pub returns : goal.returns
returns c = one_fixpoint c.law_inside_order.ensures c.law_greatest_is_computed.ensures
