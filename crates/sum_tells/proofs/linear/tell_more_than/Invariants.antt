-- The tells of the terms that are left may be heard, and lead to where all the terms' tells lead.
use Rattle.std.specs.List.{zip}
use Rattle.sum_tells.specs.Linear.{more_than_tell}
use Rattle.tell_laws.proofs.HearingLaws.{LeadsOn}
use Rattle.sum_tells.proofs.linear.tell_more_than.Given as goal

abbrev pub invariant-loop-i : goal.invariant-loop-i
invariant-loop-i g l =
    LeadsOn g.H.Hear.can_hear g.H.Hear.hears (more_than_tell l.b l.fn.limit l.fn.greatest) (zip l.coeffs l.vars) l.initial.h l.i l.h
