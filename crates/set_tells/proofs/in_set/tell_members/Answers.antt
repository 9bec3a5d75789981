-- Two lists of tells are heard one after the other.
use Rattle.set_tells.proofs.HearingLaws.{may_first, may_rest, hears_both}
use Rattle.set_tells.proofs.in_set.tell_members.Goals as goal

pub tell_from-requires-clause-hearer : goal.tell_from-requires-clause-hearer
tell_from-requires-clause-hearer g c = may_first _ _ _ _ _ c.requires.hearer

pub tell_upto-requires-clause-hearer : goal.tell_upto-requires-clause-hearer
tell_upto-requires-clause-hearer g c = may_rest _ _ _ _ _ _ c.requires.hearer c.tell_from.ensures

pub returns : goal.returns
returns g c = hears_both g.H.Hear.can_hear _ _ _ _ _ _ c.tell_from.ensures c.tell_upto.ensures
