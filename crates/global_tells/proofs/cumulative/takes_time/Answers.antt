-- The duration of the task at the place.
use Rattle.std.proofs.Common.{◌<◌, pos, length, get_or, sym, ◌∙◌, arith}
use Rattle.std.specs.Int.RustNames.{int_le}
use Rattle.global_tells.proofs.TaskLaws.{coded_amount, duration_in}
use Rattle.global_tells.proofs.cumulative.takes_time.Goals as goal

pub returns : goal.returns
returns c =
    let t = c.args.tasks.now in
    let k = c.args.k in
    let h : k < length t.durations.now = (let e = c.requires.tasks.a_duration_each in let h = c.requires.place in omega arith) in
    let e = coded_amount (get_or t.durations.now k (pos 0)) (c.requires.tasks.durations k (pos 0) h) ∙ sym (duration_in t c.requires.tasks k c.requires.place) in
    (λ i. int_le (pos 1) (e i))
