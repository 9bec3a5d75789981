-- Two lists of tells are heard one after the other.
use Rattle.element_tells.proofs.HearingLaws.{may_first, may_rest, hears_both}
use Rattle.element_tells.proofs.element.tell_places.Goals as goal

pub tell_left-requires-clause-hearer : goal.tell_left-requires-clause-hearer
tell_left-requires-clause-hearer g c = may_first _ _ _ _ _ c.requires.hearer

pub tell_fixed-requires-clause-hearer : goal.tell_fixed-requires-clause-hearer
tell_fixed-requires-clause-hearer g c = may_rest _ _ _ _ _ _ c.requires.hearer c.tell_left.ensures

pub returns : goal.returns
returns g c = hears_both g.H.Hear.can_hear _ _ _ _ _ _ c.tell_left.ensures c.tell_fixed.ensures
