-- Each step makes the hearer hear the tells of one more place.
use Rattle.global_tells.proofs.HearingLaws.{leads_may, leads_next}
use Rattle.global_tells.proofs.halves.tell_ranges_by_halves.Goals as goal

pub tell_from_by_halves-requires-clause-hearer : goal.tell_from_by_halves-requires-clause-hearer
tell_from_by_halves-requires-clause-hearer g c = leads_may _ _ _ _ _ _ c.loop-i.i 0 c.loop-i-test.true c.loop-i.invariant

pub loop-i-preserved : goal.loop-i-preserved
loop-i-preserved g c = leads_next _ _ _ _ _ _ _ c.loop-i.i 0 c.loop-i-test.true c.loop-i.invariant c.tell_from_by_halves.ensures
