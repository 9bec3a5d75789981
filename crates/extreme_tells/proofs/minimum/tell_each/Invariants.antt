-- The tells of the variables that are left may be heard, and lead to where all tells lead.
use Rattle.std.proofs.Common.{[], ◌∷◌}
use Rattle.interval.specs.Boxes.{low_of}
use Rattle.tells.specs.Words.{low_tell}
use Rattle.extreme_tells.proofs.HearingLaws.{LeadsOn}
use Rattle.extreme_tells.proofs.minimum.tell_each.Given as goal

abbrev pub invariant-loop-i : goal.invariant-loop-i
invariant-loop-i g l = LeadsOn g.H.Hear.can_hear g.H.Hear.hears (λ x. low_tell x (low_of l.b l.m) ∷ []) l.xs l.initial.h l.i l.h
