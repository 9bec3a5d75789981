-- Two lists of tells are heard one after the other.
use Rattle.set_tells.proofs.HearingLaws.{may_first, may_rest, hears_both}
use Rattle.set_tells.proofs.in_set.tell_at.Goals as goal

pub tell_membership-requires-clause-hearer : goal.tell_membership-requires-clause-hearer
tell_membership-requires-clause-hearer g c = may_first _ _ _ _ _ c.requires.hearer

pub tell_bounds-requires-clause-hearer : goal.tell_bounds-requires-clause-hearer
tell_bounds-requires-clause-hearer g c = may_rest _ _ _ _ _ _ c.requires.hearer c.tell_membership.ensures

pub returns : goal.returns
returns g c = hears_both g.H.Hear.can_hear _ _ _ _ _ _ c.tell_membership.ensures c.tell_bounds.ensures
