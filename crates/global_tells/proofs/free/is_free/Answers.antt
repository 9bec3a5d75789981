-- The two parts of the test.
use Rattle.std.proofs.Common.{◌≤ℤ◌, Bool, true, false, subst, arith}
use Rattle.std.proofs.lemmas.Int.{ints}
use Rattle.std.specs.Bool.{OnTrue}
use Rattle.global_tells.specs.Cumulative.{IsFree}
use Rattle.global_tells.proofs.TaskLaws.{coded_amount}
use Rattle.global_tells.proofs.free.is_free.Goals as goal

on_true : {A B : Type 0} (r : Bool) → OnTrue r A → (A → B) → OnTrue r B
on_true true a f = f a
on_true false a f = tt

pub returns : goal.returns
returns c =
    let b = c.args.b.now in
    let limit = c.args.tasks.now.limit in
    let usage = c.at-task.result.usage in
    let fits : usage ≤ℤ limit = (let t = c.if-task-tasks.false in let u = coded_amount usage c.at-task.ensures.amounts.usage in let l = coded_amount limit c.requires.tasks.fit.limit in omega (arith, ints)) in
    on_true c.is_never_sure.result c.is_never_sure.ensures (λ unsure. subst (IsFree limit b) c.at-task.ensures.value (record { enough = fits; unsure = unsure }))
