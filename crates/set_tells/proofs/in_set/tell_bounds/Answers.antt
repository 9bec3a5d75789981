-- Two lists of tells are heard one after the other.
use Rattle.set_tells.proofs.HearingLaws.{may_first, may_rest, hears_both}
use Rattle.set_tells.proofs.in_set.tell_bounds.Goals as goal

pub tell_where_sure-requires-clause-hearer : goal.tell_where_sure-requires-clause-hearer
tell_where_sure-requires-clause-hearer g c = may_first _ _ _ _ _ c.requires.hearer

pub tell_where_out-requires-clause-hearer : goal.tell_where_out-requires-clause-hearer
tell_where_out-requires-clause-hearer g c = may_rest _ _ _ _ _ _ c.requires.hearer c.tell_where_sure.ensures

pub returns : goal.returns
returns g c = hears_both g.H.Hear.can_hear _ _ _ _ _ _ c.tell_where_sure.ensures c.tell_where_out.ensures
