-- At the end all tasks are free.
use Rattle.std.proofs.Common.{arith}
use Rattle.global_tells.specs.Cumulative.{tasks_in}
use Rattle.global_tells.proofs.TaskLaws.{tasks_length}
use Rattle.global_tells.proofs.FreeLaws.{free_quiet}
use Rattle.global_tells.proofs.free.are_all_free.Goals as goal

pub returns : goal.returns
returns c =
    let t = c.args.tasks.now in
    let n = tasks_length _ _ _ _ c.requires.fit in
    free_quiet c.args.b.now t.limit (tasks_in t) c.requires.fit.limit.positive (λ i h. c.loop-k.invariant i (let e = c.loop-k-test.false in omega arith))
