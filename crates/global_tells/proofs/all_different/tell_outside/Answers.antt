-- Each step makes the hearer hear the tells of one more place.
use Rattle.global_tells.proofs.HearingLaws.{leads_may, leads_next}
use Rattle.global_tells.proofs.all_different.tell_outside.Goals as goal

pub tell_taken-requires-clause-hearer : goal.tell_taken-requires-clause-hearer
tell_taken-requires-clause-hearer g c = leads_may _ _ _ _ _ _ c.loop-k.k 0 c.loop-k-test.true c.loop-k.invariant

pub loop-k-preserved : goal.loop-k-preserved
loop-k-preserved g c = leads_next _ _ _ _ _ _ _ c.loop-k.k 0 c.loop-k-test.true c.loop-k.invariant c.tell_taken.ensures
