use Rattle.fixpoint_laws.proofs.Leading.{rounds_lead}
use Rattle.fixpoint_laws.proofs.laws.law_rounds_lead.Goals as goal

pub returns : goal.returns
returns c = rounds_lead c.law_inside_order.ensures
