-- Each step makes the hearer hear the tell of one more variable.
use Rattle.extreme_tells.proofs.HearingLaws.{leads_may, leads_next}
use Rattle.extreme_tells.proofs.maximum.tell_each.Goals as goal

pub tell_limit-requires-clause-hearer : goal.tell_limit-requires-clause-hearer
tell_limit-requires-clause-hearer g c = leads_may _ _ _ _ _ _ c.loop-i.i 0 c.loop-i-test.true c.loop-i.invariant

pub loop-i-preserved : goal.loop-i-preserved
loop-i-preserved g c = leads_next _ _ _ _ _ _ _ c.loop-i.i 0 c.loop-i-test.true c.loop-i.invariant c.tell_limit.ensures
