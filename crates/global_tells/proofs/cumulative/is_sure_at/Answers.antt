-- The two parts of the test.
use Rattle.std.proofs.Common.{◌+ℤ◌, to_z, of_z, arith}
use mir.Syntax.{w64}
use Rattle.std.proofs.lemmas.Int.{ints}
use Rattle.interval.specs.Limits.{bound_limit, largest_number}
use Rattle.global_tells.proofs.TaskLaws.{not_yet_sure, sure_while}
use Rattle.global_tells.proofs.cumulative.is_sure_at.Goals as goal

pub returns-then-time-high : goal.returns-then-time-high
returns-then-time-high c =
    let t = c.if-time-high.true in let v = c.high.ensures.value in let r = c.ranges.time in
    not_yet_sure c.args.b.now c.args.time c.args.task.now (omega (arith, ints))

pub returns : goal.returns
unfolding bound_limit largest_number
returns c =
    let t = c.if-time-high.false in let v = c.high.ensures.value in let r = c.ranges.time in
    let l = c.low.ensures.value in let n = c.low.ensures.in_range in let d = c.requires.amounts.duration.number in
    sure_while c.args.b.now c.args.time c.args.task.now
    (to_z w64 (of_z w64 c.args.time)) (to_z w64 (of_z w64 (to_z w64 (of_z w64 c.low.result) +ℤ to_z w64 (of_z w64 c.args.task.now.duration))))
    (omega (arith, ints)) (omega (arith, ints)) (omega (arith, ints))
