-- The tells that are left may be heard, and lead to where all tells lead.
use Rattle.interval.specs.Boxes.{low_of, high_of}
use Rattle.global_tells.specs.AllDifferent.{range_tells}
use Rattle.global_tells.proofs.HearingLaws.{LeadsOn}
use Rattle.global_tells.proofs.halves.tell_from_by_halves.Given as goal

abbrev pub invariant-loop-j : goal.invariant-loop-j
invariant-loop-j g l = LeadsOn g.H.Hear.can_hear g.H.Hear.hears (λ y. range_tells l.xs l.b (low_of l.b l.first) (high_of l.b y)) l.xs l.initial.h l.j l.h
