-- What is used at the latest start of the task is in the list.
use Rattle.std.proofs.Common.{◌≡◌, ℕ, pos, get_or, to_z, of_z, sym, ap, ◌∙◌}
use Rattle.std.specs.Int.RustNames.{int_lt}
use mir.Syntax.{w64}
use Rattle.interval.specs.Boxes.{high_of}
use Rattle.global_tells.specs.Cumulative.{usage_at, tasks_in, task_in}
use Rattle.global_tells.proofs.TaskLaws.{coded_amount, coded_usage, start_in}
use Rattle.global_tells.proofs.cumulative.is_overload.Goals as goal

pub returns : goal.returns
returns c =
    let t = c.args.tasks.now in
    let j = c.args.j in
    let b = c.args.b.now in
    let used = get_or c.args.used.now j (pos 0) in
    let there : used ≡ usage_at (tasks_in t) b (high_of b (task_in t j).start) = c.requires.used.each j c.requires.place ∙ ap (λ (v : ℕ). usage_at (tasks_in t) b (high_of b v)) (sym (start_in _ t c.requires.tasks j c.requires.place)) in
    let e : to_z w64 (of_z w64 used) ≡ usage_at (tasks_in t) b (high_of b (task_in t j).start) = coded_usage used (c.requires.used.in_range j c.requires.place) ∙ there in
    let l = coded_amount t.limit c.requires.tasks.fit.limit in
    (λ i. int_lt (l i) (e i))
