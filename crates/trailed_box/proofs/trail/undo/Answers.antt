use Rattle.std.proofs.Common.{◌-◌, length, drop, w64, sym, ap, ◌∙◌, arith}
use Rattle.std.proofs.lemmas.Int.{ints}
use Rattle.interval.specs.Limits.{bound_limit, largest_number}
use Rattle.trailed_box.proofs.TrailLaws.{at_end, undone_step, length-undone, put_cast}
use Rattle.trailed_box.specs.declared.trail.Change.{Change}
use mir.Val.{SFits}
use Rattle.trailed_box.proofs.trail.undo.Goals as goal

pub loop-place-init : goal.loop-place-init
loop-place-init c =
    let len = c.as_slice-place.ensures.len in
    let value = ap length c.as_slice-place.ensures.value in
    record {
      from = omega arith;
      within = omega arith;
      undone = sym (at_end c.args.trail.now.items c.args.current.now (length c.as_slice-place.result.now) value);
    }

pub put-requires-clause-variable : goal.put-requires-clause-variable
put-requires-clause-variable c =
    let within = c.loop-place.invariant.within in
    let change = c.requires.changes (c.loop-place.place - 1) c.index-change.result.now (omega arith) in
    omega (arith, change.variable, ap (λ x. x.var) c.index-change.ensures, ap length c.loop-place.invariant.undone, length-undone (drop c.loop-place.place c.args.trail.now.items) c.args.current.now)

pub loop-place-preserved : goal.loop-place-preserved
unfolding bound_limit largest_number
loop-place-preserved c =
    let within = c.loop-place.invariant.within in
    let change = c.index-change.result.now in
    let is = c.index-change.ensures in
    let part = c.requires.changes (c.loop-place.place - 1) change (omega arith) in
    let low : SFits w64 change.low = omega (arith, ints, part.low_in_range, ap (λ (x : Change). x.low) is) in
    let high : SFits w64 change.high = omega (arith, ints, part.high_in_range, ap (λ (x : Change). x.high) is) in
    record {
      from = omega arith;
      within = omega arith;
      undone = c.put.ensures ∙ put_cast c.loop-place.current change.var change.low change.high low high ∙ undone_step c.args.trail.now.items c.args.current.now c.loop-place.current c.loop-place.place change (omega arith) within c.index-change.ensures c.loop-place.invariant.undone;
    }

pub returns-clause-same_length : goal.returns-clause-same_length
returns-clause-same_length c = ap length c.loop-place.invariant.undone ∙ length-undone (drop c.loop-place.place c.args.trail.now.items) c.args.current.now
