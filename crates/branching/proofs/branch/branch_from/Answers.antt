use Rattle.branching.proofs.PartLaws.{parts_by}
use Rattle.branching.proofs.FrontLaws.{farthest_is_front}
use Rattle.branching.proofs.branch.branch_from.Goals as goal

pub returns-clause-parts : goal.returns-clause-parts
returns-clause-parts c =
    parts_by c.args.model.now c.args.b.now _ _ c.in_ok-chosen.chosen.val_sel c.in_ok-chosen.chosen.var c.pair_of-pair.result
    c.in_ok-chosen.ensures.choice c.pair_of-pair.ensures c.parted.ensures.left c.parted.ensures.right
    c.law_inside_order.ensures c.law_tightens_one.ensures c.law_quotient_order.ensures c.len-length.ensures.in_range c.requires.proper c.requires.length

pub returns-clause-front : goal.returns-clause-front
returns-clause-front c = farthest_is_front c.args.model.now c.args.b.now c.in_ok-chosen.reached c.in_ok-chosen.ensures.front
