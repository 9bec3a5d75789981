-- Two lists of tells are heard one after the other.
use Rattle.extreme_tells.proofs.HearingLaws.{may_first, may_rest, hears_both}
use Rattle.extreme_tells.proofs.maximum.tell_members.Goals as goal

pub tell_each-requires-clause-hearer : goal.tell_each-requires-clause-hearer
tell_each-requires-clause-hearer g c = may_first _ _ _ _ _ c.requires.hearer

pub tell_sole-requires-clause-hearer : goal.tell_sole-requires-clause-hearer
tell_sole-requires-clause-hearer g c = may_rest _ _ _ _ _ _ c.requires.hearer c.tell_each.ensures

pub returns : goal.returns
returns g c = hears_both g.H.Hear.can_hear _ _ _ _ _ _ c.tell_each.ensures c.tell_sole.ensures
