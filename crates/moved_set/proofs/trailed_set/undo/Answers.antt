use Rattle.std.proofs.Common.{length, ap, arith}
use Rattle.moved_set.proofs.LayerLaws.{undone_none, undone_step}
use Rattle.moved_set.proofs.trailed_set.undo.Goals as goal

pub loop-place-init : goal.loop-place-init
loop-place-init c =
    let value = ap length c.as_slice-place.ensures.value in
    record {
      from = omega arith;
      within = omega arith;
      undone = undone_none c.args.trail.now.items c.args.words.now (length c.as_slice-place.result.now) value;
    }

pub index-change-requires : goal.index-change-requires
index-change-requires c =
    let within = c.loop-place.invariant.within in
    let above = c.loop-place-test.true in
    omega (arith, c.args.trail.now.ok)

pub loop-place-preserved : goal.loop-place-preserved
loop-place-preserved c =
    let within = c.loop-place.invariant.within in
    let change = c.index-change.result.now in
    record {
      from = omega arith;
      within = omega arith;
      undone = undone_step c.args.trail.now.items c.args.words.now c.loop-place.words c.loop-place.place change (omega arith) within c.index-change.ensures c.loop-place.invariant.undone;
    }
