-- The tells of the variables that are left may be heard, and lead to where all tells lead.
use Rattle.std.proofs.Common.{[], ◌∷◌}
use Rattle.interval.specs.Boxes.{high_of}
use Rattle.tells.specs.Words.{high_tell}
use Rattle.extreme_tells.proofs.HearingLaws.{LeadsOn}
use Rattle.extreme_tells.proofs.maximum.tell_each.Given as goal

abbrev pub invariant-loop-i : goal.invariant-loop-i
invariant-loop-i g l = LeadsOn g.H.Hear.can_hear g.H.Hear.hears (λ x. high_tell x (high_of l.b l.m) ∷ []) l.xs l.initial.h l.i l.h
