-- Two lists of tells are heard one after the other.
use Rattle.set_tells.proofs.HearingLaws.{may_first, may_rest, hears_both}
use Rattle.set_tells.proofs.in_set.tell_gaps.Goals as goal

pub tell_past-requires-clause-hearer : goal.tell_past-requires-clause-hearer
tell_past-requires-clause-hearer g c = may_first _ _ _ _ _ c.requires.hearer

pub tell_before-requires-clause-hearer : goal.tell_before-requires-clause-hearer
tell_before-requires-clause-hearer g c = may_rest _ _ _ _ _ _ c.requires.hearer c.tell_past.ensures

pub returns : goal.returns
returns g c = hears_both g.H.Hear.can_hear _ _ _ _ _ _ c.tell_past.ensures c.tell_before.ensures
