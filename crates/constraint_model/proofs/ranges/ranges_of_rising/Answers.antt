use Rattle.std.proofs.Common.{arith, ℤ, pos, length, ◌<◌, get_or, rules, ◌∙◌}
use mir.Val.{SFits, to_z}
use mir.Syntax.{w64}
use Rattle.std.proofs.lemmas.Int.{to_z-of_z}
use Rattle.constraint_model.proofs.RangeLaws.{next_joins, next_begins, near, far}
use Rattle.constraint_model.proofs.ranges.ranges_of_rising.Goals as goal
use Rattle.constraint_model.proofs.ranges.ranges_of_rising.Goals.{then-saturating_sub-high+in_ok-push, else-saturating_sub-high}

pub loop-number-preserved : goal.loop-number-preserved
loop-number-preserved c =
    let x : ℤ = get_or c.in-Some.rest.now c.loop-number.number-index (pos 0) in
    let f : SFits w64 x = search rules in
    let e = to_z-of_z w64 x f in
    let l : c.loop-number.number-index < length c.in-Some.rest.now = omega arith in
    let low = to_z w64 c.loop-number.low-bits in
    let high = to_z w64 c.loop-number.high-bits in
    let g : SFits w64 high = search rules in
    let m : SFits w64 c.saturating_sub.result = search rules in
    elim c.if-saturating_sub-high.branch [
      | then-saturating_sub-high+in_ok-push w ↦ next_begins c.loop-number.ranges _ _ low _ high _ c.in-Some.rest.now c.loop-number.number-index c.loop-number.invariant l e (far x _ c.saturating_sub.result high f g m e c.saturating_sub.ensures w.if-saturating_sub-high.true) (w.ranges-is ∙ w.in_ok-push.ensures.pushed) w.low-is
      | else-saturating_sub-high w ↦ next_joins c.loop-number.ranges _ _ low _ high _ c.in-Some.rest.now c.loop-number.number-index c.loop-number.invariant l e (near x _ c.saturating_sub.result high f g m e c.saturating_sub.ensures w.if-saturating_sub-high.false) w.ranges-is w.low-is
    ]
