use Rattle.mix_rounds.proofs.Existence.{greatest_is_computed}
use Rattle.mix_rounds.proofs.laws.law_greatest_mix_is_computed.Goals as goal

pub returns : goal.returns
returns c = greatest_is_computed c.law_monotone.ensures c.law_tell_place.ensures c.law_hull_inside.ensures.inside c.law_hull_inside.ensures.in_range c.law_hull.ensures.within c.law_hull.ensures.ends
    c.law_drop.ensures c.law_drop_place.ensures c.law_inside_mix_order.ensures c.law_weight.ensures.lighter
