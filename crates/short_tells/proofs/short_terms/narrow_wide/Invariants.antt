-- The tells of the terms that are left may be heard, and lead to where all the terms' tells lead.
use Rattle.std.specs.List.{zip}
use Rattle.tell_laws.specs.Narrowing.{narrowing}
use Rattle.short_tells.specs.ShortTells.{room_tells}
use Rattle.tell_laws.proofs.HearingLaws.{LeadsOn}
use Rattle.short_tells.proofs.short_terms.narrow_wide.Given as goal

abbrev pub invariant-loop-i : goal.invariant-loop-i
invariant-loop-i g l =
    LeadsOn g.H.Hear.can_hear g.H.Hear.hears (λ t. narrowing l.b (room_tells l.b l.fn.room t)) (zip l.coeffs l.vars) l.initial.h l.i l.h
