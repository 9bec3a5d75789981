-- Each step makes the hearer hear the tells of one more task.
use Rattle.std.proofs.Common.{◌<◌, ◌≤◌, length, arith}
use Rattle.global_tells.specs.Cumulative.{tasks_in, no_task}
use Rattle.global_tells.proofs.HearingLaws.{leads_may, leads_next, leads_end}
use Rattle.global_tells.proofs.TaskLaws.{tasks_length}
use Rattle.global_tells.proofs.cumulative.tell_overloads.Goals as goal

pub tell_overload-requires-clause-hearer : goal.tell_overload-requires-clause-hearer
tell_overload-requires-clause-hearer g c =
    let e = tasks_length _ _ _ _ c.requires.tasks.fit in
    let h : c.loop-j.j < length (tasks_in c.args.tasks.now) = (let l = c.loop-j-test.true in omega arith) in
    leads_may _ _ _ _ _ _ c.loop-j.j no_task h c.loop-j.invariant

pub loop-j-preserved : goal.loop-j-preserved
loop-j-preserved g c =
    let e = tasks_length _ _ _ _ c.requires.tasks.fit in
    let h : c.loop-j.j < length (tasks_in c.args.tasks.now) = (let l = c.loop-j-test.true in omega arith) in
    leads_next _ _ _ _ _ _ _ c.loop-j.j no_task h c.loop-j.invariant c.tell_overload.ensures

pub returns : goal.returns
returns g c =
    let e = tasks_length _ _ _ _ c.requires.tasks.fit in
    let h : length (tasks_in c.args.tasks.now) ≤ c.loop-j.j = (let l = c.loop-j-test.false in omega arith) in
    leads_end _ _ _ _ _ _ c.loop-j.j h c.loop-j.invariant
