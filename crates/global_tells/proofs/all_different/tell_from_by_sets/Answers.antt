-- Each step makes the hearer hear the tells of one more place.
use Rattle.global_tells.proofs.HearingLaws.{leads_may, leads_next}
use Rattle.global_tells.proofs.all_different.tell_from_by_sets.Goals as goal

pub tell_range_by_sets-requires-clause-hearer : goal.tell_range_by_sets-requires-clause-hearer
tell_range_by_sets-requires-clause-hearer g c = leads_may _ _ _ _ _ _ c.loop-j.j 0 c.loop-j-test.true c.loop-j.invariant

pub loop-j-preserved : goal.loop-j-preserved
loop-j-preserved g c = leads_next _ _ _ _ _ _ _ c.loop-j.j 0 c.loop-j-test.true c.loop-j.invariant c.tell_range_by_sets.ensures

pub tell_range_by_sets-requires-clause-upto : goal.tell_range_by_sets-requires-clause-upto
tell_range_by_sets-requires-clause-upto g c = c.requires.upto.each c.loop-j.j c.loop-j-test.true
