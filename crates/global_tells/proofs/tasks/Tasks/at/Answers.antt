-- The task at a place has what the three lists have there.
use Rattle.std.proofs.Common.{◌<◌, ℤ, pos, length, get_or, sym, subst, ◌∙◌, arith}
use Rattle.global_tells.specs.declared.tasks.Task.{Task}
use Rattle.global_tells.specs.Cumulative.{IsAmount}
use Rattle.global_tells.proofs.TaskLaws.{task_at, coded_amount}
use Rattle.global_tells.proofs.tasks.Tasks.at.Goals as goal

pub returns-clause-value : goal.returns-clause-value
returns-clause-value c =
    let t = c.args.self.now in
    let i = c.args.place in
    let h : i < length t.durations.now = (let e = c.requires.tasks.a_duration_each in let h = c.requires.place in omega arith) in
    let k : i < length t.usages.now = (let e = c.requires.tasks.a_usage_each in let h = c.requires.place in omega arith) in
    let d = coded_amount (get_or t.durations.now i (pos 0)) (c.requires.tasks.durations i (pos 0) h) in
    let r = coded_amount (get_or t.usages.now i (pos 0)) (c.requires.tasks.usages i (pos 0) k) in
    let made : Task = record { start = get_or t.starts.now i 0; duration = get_or t.durations.now i (pos 0); usage = get_or t.usages.now i (pos 0) } in
    (λ j. record made { duration = d j; usage = r j })
    ∙ sym (task_at t.starts.now t.durations.now t.usages.now i c.requires.tasks.a_duration_each c.requires.tasks.a_usage_each c.requires.place)

pub returns-clause-amounts : goal.returns-clause-amounts
returns-clause-amounts c =
    let t = c.args.self.now in
    let i = c.args.place in
    let h : i < length t.durations.now = (let e = c.requires.tasks.a_duration_each in let h = c.requires.place in omega arith) in
    let k : i < length t.usages.now = (let e = c.requires.tasks.a_usage_each in let h = c.requires.place in omega arith) in
    let own_d = c.requires.tasks.durations i (pos 0) h in
    let own_r = c.requires.tasks.usages i (pos 0) k in
    let P : ℤ → Type 0 = λ z. IsAmount z in
    record {
      duration = subst P (sym (coded_amount (get_or t.durations.now i (pos 0)) own_d)) own_d;
      usage = subst P (sym (coded_amount (get_or t.usages.now i (pos 0)) own_r)) own_r;
    }
