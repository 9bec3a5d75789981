use Rattle.nogoods.proofs.NogoodLaws.{nogood_laws}
use Rattle.nogoods.proofs.laws.law_nogoods.Goals as goal

pub returns : goal.returns
returns c = nogood_laws c.law_inside_order.ensures c.law_literals.ensures c.law_monotone.ensures
