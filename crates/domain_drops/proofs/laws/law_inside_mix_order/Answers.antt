use Rattle.domain_drops.proofs.MixOrder.{order_of}
use Rattle.domain_drops.proofs.laws.law_inside_mix_order.Goals as goal

pub returns : goal.returns
returns c = order_of (record { within = c.law_hull.ensures.within; ends = c.law_hull.ensures.ends; bounds = c.law_hull.ensures.in_range; numbers = c.law_inside.ensures.numbers; in_range = c.law_inside.ensures.in_range })
