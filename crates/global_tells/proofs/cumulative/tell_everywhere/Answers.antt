-- Two lists of tells are heard one after the other.
use Rattle.global_tells.proofs.HearingLaws.{may_first, may_rest, hears_both}
use Rattle.global_tells.proofs.cumulative.tell_everywhere.Goals as goal

pub tell_at_starts-requires-clause-hearer : goal.tell_at_starts-requires-clause-hearer
tell_at_starts-requires-clause-hearer g c = may_first _ _ _ _ _ c.requires.hearer

pub tell_at_low-requires-clause-hearer : goal.tell_at_low-requires-clause-hearer
tell_at_low-requires-clause-hearer g c = may_rest _ _ _ _ _ _ c.requires.hearer c.tell_at_starts.ensures

pub returns : goal.returns
returns g c = hears_both g.H.Hear.can_hear _ _ _ _ _ _ c.tell_at_starts.ensures c.tell_at_low.ensures
