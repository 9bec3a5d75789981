-- Where one change passes the limit not all keep it, and one that keeps it leaves the others to be tested.
use Rattle.std.proofs.Common.{◌<◌, ℤ, pos, length, sym, ◌∙◌, arith}
use Rattle.std.specs.Prelude.{int_le}
use Rattle.constraint_model.specs.declared.model.Term.{Term}
use Rattle.constraint_model.specs.Relations.{value}
use Rattle.constraint_check.specs.Tests.{used_by}
use Rattle.constraint_check.proofs.TaskLaws.{changes_on, changes_off, changes_end}
use Rattle.constraint_check.proofs.tasks.keeps_at_changes.Goals as goal

pub returns-then-not-keeps_at_ends : goal.returns-then-not-keeps_at_ends
returns-then-not-keeps_at_ends c =
    let inside = c.loop-place-test.true in
    let least = c.min-count.ensures in
    let tasks = c.args.tasks.now in
    let a = c.args.solution.now in
    let in_ss : c.loop-place.place < length tasks.starts.now = omega arith in
    let in_ds : c.loop-place.place < length tasks.durations.now = omega arith in
    sym (changes_off (value a) (λ (t : ℤ). int_le (used_by tasks a t) tasks.limit) tasks.starts.now tasks.durations.now c.loop-place.place (Term.Number (pos 0)) (Term.Number (pos 0)) in_ss in_ds
    (sym c.keeps_at_ends.ensures ∙ c.if-not-keeps_at_ends.true))
    ∙ c.loop-place.invariant

pub loop-place-preserved : goal.loop-place-preserved
loop-place-preserved c =
    let inside = c.loop-place-test.true in
    let least = c.min-count.ensures in
    let tasks = c.args.tasks.now in
    let a = c.args.solution.now in
    let in_ss : c.loop-place.place < length tasks.starts.now = omega arith in
    let in_ds : c.loop-place.place < length tasks.durations.now = omega arith in
    sym (changes_on (value a) (λ (t : ℤ). int_le (used_by tasks a t) tasks.limit) tasks.starts.now tasks.durations.now c.loop-place.place (Term.Number (pos 0)) (Term.Number (pos 0)) in_ss in_ds
    (sym c.keeps_at_ends.ensures ∙ c.if-not-keeps_at_ends.false))
    ∙ c.loop-place.invariant

pub returns : goal.returns
returns c =
    let over = c.loop-place-test.false in
    let least = c.min-count.ensures in
    let tasks = c.args.tasks.now in
    let a = c.args.solution.now in
    sym (changes_end (value a) (λ (t : ℤ). int_le (used_by tasks a t) tasks.limit) tasks.starts.now tasks.durations.now c.loop-place.place (omega arith))
    ∙ c.loop-place.invariant
