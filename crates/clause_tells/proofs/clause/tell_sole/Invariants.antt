-- The tells of the literals that are left may be heard, and lead to where all the literals' tells lead.
use Rattle.clause_tells.specs.Clause.{sole_tell}
use Rattle.tell_laws.proofs.HearingLaws.{LeadsOn}
use Rattle.clause_tells.proofs.clause.tell_sole.Given as goal

abbrev pub invariant-loop-i : goal.invariant-loop-i
invariant-loop-i g l = LeadsOn g.H.Hear.can_hear g.H.Hear.hears (sole_tell l.left l.b) l.lits l.initial.h l.i l.h
