-- What one more task uses moves from what is left into the sum.
use Rattle.std.proofs.Common.{◌<◌, pos, length, ap, arith, to_z, of_z}
use mir.Syntax.{w128}
use Rattle.std.proofs.lemmas.Int.{ints, to_z-of_z}
use Rattle.constraint_model.specs.declared.model.Term.{Term}
use Rattle.constraint_model.specs.Relations.{value}
use Rattle.constraint_check.specs.Tests.{used_by}
use Rattle.constraint_check.proofs.TaskLaws.{used_step, used_end}
use Rattle.constraint_check.proofs.tasks.used_at.Goals as goal

pub loop-place-preserved : goal.loop-place-preserved
loop-place-preserved c =
    let inside = c.loop-place-test.true in
    let two = c.min.ensures in
    let least = c.min-count.ensures in
    let tasks = c.args.tasks.now in
    let in_ss : c.loop-place.place < length tasks.starts.now = omega arith in
    let in_ds : c.loop-place.place < length tasks.durations.now = omega arith in
    let in_rs : c.loop-place.place < length tasks.usages.now = omega arith in
    let step = used_step (value c.args.solution.now) tasks.starts.now tasks.durations.now tasks.usages.now (to_z w128 (of_z w128 c.args.time)) c.loop-place.place (Term.Number (pos 0)) in_ss in_ds in_rs in
    let usage = c.usage_at-usage.ensures in
    let plus = c.sum_with-used.ensures in
    record {
      whole = omega (arith, ints, plus, step, usage.value, c.loop-place.invariant.whole);
      small = omega (arith, ints, plus, usage.small, c.loop-place.invariant.small);
    }

pub returns : goal.returns
returns c =
    let over = c.loop-place-test.false in
    let two = c.min.ensures in
    let least = c.min-count.ensures in
    let tasks = c.args.tasks.now in
    let none = used_end (value c.args.solution.now) tasks.starts.now tasks.durations.now tasks.usages.now (to_z w128 (of_z w128 c.args.time)) c.loop-place.place (omega arith) in
    let whole = ap (used_by tasks c.args.solution.now) (to_z-of_z w128 c.args.time c.ranges.time) in
    omega (arith, ints, none, whole, c.loop-place.invariant.whole)
