use Rattle.kernel_visits.proofs.SideLaws.{sided_law}
use Rattle.kernel_visits.proofs.sides.law_sided.Goals as goal

pub returns : goal.returns
returns c k b kernel proper sided low = sided_law c.law_clamp_order.ensures k b kernel.numbers sided low
