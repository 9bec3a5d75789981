-- The tells that are left may be heard, and lead to where all tells lead.
use Rattle.std.specs.List.{flat_map}
use Rattle.interval.specs.Boxes.{low_of, high_of}
use Rattle.global_tells.specs.AllDifferent.{range_tells}
use Rattle.global_tells.proofs.HearingLaws.{LeadsOn}
use Rattle.global_tells.proofs.halves.tell_ranges_by_halves.Given as goal

abbrev pub invariant-loop-i : goal.invariant-loop-i
invariant-loop-i g l = LeadsOn g.H.Hear.can_hear g.H.Hear.hears (λ x. flat_map (λ y. range_tells l.xs l.b (low_of l.b x) (high_of l.b y)) l.xs) l.xs l.initial.h l.i l.h
