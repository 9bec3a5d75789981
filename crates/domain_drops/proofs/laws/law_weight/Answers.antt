use Rattle.domain_drops.proofs.WeightLaws.{Sizes, not_heavier, lighter, weight_bounded}
use Rattle.domain_drops.proofs.laws.law_weight.Goals as goal

pub returns-clause-not_heavier : goal.returns-clause-not_heavier
returns-clause-not_heavier c =
    let sizes : Sizes = record { bounded = c.law_members.ensures.bounded; fewer = c.law_members.ensures.fewer; same = c.law_members.ensures.same; in_range = c.law_inside.ensures.in_range } in
    not_heavier sizes

pub returns-clause-lighter : goal.returns-clause-lighter
returns-clause-lighter c =
    let sizes : Sizes = record { bounded = c.law_members.ensures.bounded; fewer = c.law_members.ensures.fewer; same = c.law_members.ensures.same; in_range = c.law_inside.ensures.in_range } in
    lighter sizes

pub returns-clause-bounded : goal.returns-clause-bounded
returns-clause-bounded c =
    let sizes : Sizes = record { bounded = c.law_members.ensures.bounded; fewer = c.law_members.ensures.fewer; same = c.law_members.ensures.same; in_range = c.law_inside.ensures.in_range } in
    weight_bounded sizes
