-- The tells of the tasks that are left may be heard, and lead to where all tells lead.
use Rattle.interval.specs.Boxes.{high_of}
use Rattle.global_tells.specs.Cumulative.{tasks_in, overload_tells}
use Rattle.global_tells.proofs.HearingLaws.{LeadsOn}
use Rattle.global_tells.proofs.cumulative.tell_overloads.Given as goal

abbrev pub invariant-loop-j : goal.invariant-loop-j
invariant-loop-j g l = LeadsOn g.H.Hear.can_hear g.H.Hear.hears (λ j. overload_tells (tasks_in l.tasks) l.tasks.limit l.b (high_of l.b j.start)) (tasks_in l.tasks) l.initial.h l.j l.h
