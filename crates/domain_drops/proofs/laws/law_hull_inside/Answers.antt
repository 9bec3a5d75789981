use Rattle.domain_drops.proofs.HullLaws.{Domains, hull_in_range, hull_inside}
use Rattle.domain_drops.proofs.laws.law_hull_inside.Goals as goal

pub returns-clause-in_range : goal.returns-clause-in_range
returns-clause-in_range c =
    let domains : Domains = record { within = c.law_hull.ensures.within; ends = c.law_hull.ensures.ends; bounds = c.law_hull.ensures.in_range; numbers = c.law_inside.ensures.numbers; in_range = c.law_inside.ensures.in_range } in
    hull_in_range domains

pub returns-clause-inside : goal.returns-clause-inside
returns-clause-inside c =
    let domains : Domains = record { within = c.law_hull.ensures.within; ends = c.law_hull.ensures.ends; bounds = c.law_hull.ensures.in_range; numbers = c.law_inside.ensures.numbers; in_range = c.law_inside.ensures.in_range } in
    hull_inside domains
