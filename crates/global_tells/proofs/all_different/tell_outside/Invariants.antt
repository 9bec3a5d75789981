-- The tells that are left may be heard, and lead to where all tells lead.
use Rattle.interval.specs.Boxes.{low_of, high_of}
use Rattle.global_tells.specs.AllDifferent.{outside_tells}
use Rattle.global_tells.proofs.HearingLaws.{LeadsOn}
use Rattle.global_tells.proofs.all_different.tell_outside.Given as goal

abbrev pub invariant-loop-k : goal.invariant-loop-k
invariant-loop-k g l = LeadsOn g.H.Hear.can_hear g.H.Hear.hears (outside_tells l.b (low_of l.b l.ends.first) (high_of l.b l.ends.last)) l.xs l.initial.h l.k l.h
