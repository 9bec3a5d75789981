use Rattle.std.proofs.Common.{◌<◌, length, arith}
use Rattle.answer.proofs.OpenLaws.{idle_more, idle_closed, item_stands}
use Rattle.answer.proofs.collecting.is_open.Goals as goal

pub loop-end-preserved : goal.loop-end-preserved
loop-end-preserved c =
    let below : c.loop-end.end-index < length c.args.ends.now = omega arith in
    idle_more c.args.ends.now c.loop-end.end-index c.end-item.result c.loop-end.invariant (item_stands c.args.ends.now c.loop-end.end-index c.end-item.result below c.end-item.is) c.if-not-is_idle.ensures.idle

pub returns-clause-none_open : goal.returns-clause-none_open
returns-clause-none_open c = idle_closed c.args.ends.now c.loop-end.end-index c.loop-end.invariant (omega arith)
