use Rattle.std.proofs.Common.{◌<◌, length, arith}
use Rattle.portfolio.proofs.TogetherLaws.{bounded_more, bounded_all}
use Rattle.portfolio.proofs.together.bound_of_parts.Goals as goal

pub loop-part-preserved : goal.loop-part-preserved
loop-part-preserved c =
    let below : c.loop-part.part-index < length c.args.told.now = omega arith in
    bounded_more c.args.told.now c.loop-part.part-index c.part-item.result c.in-Some.bound c.loop-part.at_least c.lower-at_least.result below c.part-item.is c.in-Some.is
    c.lower-at_least.ensures.first c.lower-at_least.ensures.second c.loop-part.invariant

pub returns : goal.returns
returns c = bounded_all c.args.told.now c.loop-part.part-index c.loop-part.at_least (omega arith) c.loop-part.invariant
