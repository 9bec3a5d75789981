use Rattle.std.proofs.Common.{length, ap, arith}
use Rattle.interval.specs.Limits.{box_limit}
use Rattle.mix_store.proofs.Appending.{place-short}
use Rattle.mix_store.proofs.make.layout_of.Goals as goal

pub overflow_cast-as_slice : goal.overflow_cast-as_slice
unfolding box_limit
overflow_cast-as_slice c =
    let e = ap length c.as_slice.ensures.value in
    let w = ap length c.loop-v.invariant.words_are in
    let p = place-short c.args.start.now c.loop-v.v in
    let s = c.len-v-end.ensures.in_range.short in
    grind arith
