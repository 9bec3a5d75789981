-- Each step makes the hearer hear the tells of one more task.
use Rattle.std.proofs.Common.{◌<◌, ◌≤◌, length, arith}
use Rattle.global_tells.specs.Cumulative.{tasks_in, no_task}
use Rattle.global_tells.proofs.HearingLaws.{leads_may, leads_next, leads_end}
use Rattle.global_tells.proofs.TaskLaws.{tasks_length}
use Rattle.global_tells.proofs.cumulative.tell_rooms.Goals as goal

pub tell_task-requires-clause-hearer : goal.tell_task-requires-clause-hearer
tell_task-requires-clause-hearer g c =
    let e = tasks_length _ _ _ _ c.requires.tasks.fit in
    let h : c.loop-k.k < length (tasks_in c.args.tasks.now) = (let l = c.loop-k-test.true in omega arith) in
    leads_may _ _ _ _ _ _ c.loop-k.k no_task h c.loop-k.invariant

pub loop-k-preserved : goal.loop-k-preserved
loop-k-preserved g c =
    let e = tasks_length _ _ _ _ c.requires.tasks.fit in
    let h : c.loop-k.k < length (tasks_in c.args.tasks.now) = (let l = c.loop-k-test.true in omega arith) in
    leads_next _ _ _ _ _ _ _ c.loop-k.k no_task h c.loop-k.invariant c.tell_task.ensures

pub returns : goal.returns
returns g c =
    let e = tasks_length _ _ _ _ c.requires.tasks.fit in
    let h : length (tasks_in c.args.tasks.now) ≤ c.loop-k.k = (let l = c.loop-k-test.false in omega arith) in
    leads_end _ _ _ _ _ _ c.loop-k.k h c.loop-k.invariant
