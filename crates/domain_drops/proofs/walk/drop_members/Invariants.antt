-- The numbers that are left may be dropped, and lead to where all of the set's lead.
use Rattle.domain_drops.proofs.HearingLaws.{Leads}
use Rattle.domain_drops.proofs.WalkLaws.{HasBounds, dropped_of}
use Rattle.domain_drops.proofs.walk.drop_members.Given as goal

abbrev pub invariant-loop-rest : goal.invariant-loop-rest
invariant-loop-rest g l = record {
  bounds : HasBounds l.base l.rest;
  leads : Leads g.H.HearDrop.can_hear g.H.HearDrop.hears (dropped_of l.var (g.T.NumberTest.test l.test) l.base l.set) (dropped_of l.var (g.T.NumberTest.test l.test) l.base l.rest) l.initial.h l.h;
}

abbrev pub decreases-loop-rest : goal.decreases-loop-rest
decreases-loop-rest g l = l.rest
