-- Two lists of tells are heard one after the other.
use Rattle.global_tells.proofs.HearingLaws.{may_first, may_rest, hears_both}
use Rattle.global_tells.proofs.cumulative.tell_tasks.Goals as goal

pub tell_overloads-requires-clause-hearer : goal.tell_overloads-requires-clause-hearer
tell_overloads-requires-clause-hearer g c = may_first _ _ _ _ _ c.requires.hearer

pub tell_rooms-requires-clause-hearer : goal.tell_rooms-requires-clause-hearer
tell_rooms-requires-clause-hearer g c = may_rest _ _ _ _ _ _ c.requires.hearer c.tell_overloads.ensures

pub returns : goal.returns
returns g c = hears_both g.H.Hear.can_hear _ _ _ _ _ _ c.tell_overloads.ensures c.tell_rooms.ensures
