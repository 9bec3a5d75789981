-- The tells of the tasks that are left may be heard, and lead to where all tells lead.
use Rattle.global_tells.specs.Cumulative.{tasks_in, task_tells}
use Rattle.global_tells.proofs.HearingLaws.{LeadsOn}
use Rattle.global_tells.proofs.cumulative.tell_rooms.Given as goal

abbrev pub invariant-loop-k : goal.invariant-loop-k
invariant-loop-k g l = LeadsOn g.H.Hear.can_hear g.H.Hear.hears (task_tells (tasks_in l.tasks) l.tasks.limit l.b) (tasks_in l.tasks) l.initial.h l.k l.h
