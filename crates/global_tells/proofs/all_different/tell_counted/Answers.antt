-- Two lists of tells are heard one after the other.
use Rattle.global_tells.proofs.HearingLaws.{may_first, may_rest, hears_both}
use Rattle.global_tells.proofs.all_different.tell_counted.Goals as goal

pub tell_overfull-requires-clause-hearer : goal.tell_overfull-requires-clause-hearer
tell_overfull-requires-clause-hearer g c = may_first _ _ _ _ _ c.requires.hearer

pub tell_full-requires-clause-hearer : goal.tell_full-requires-clause-hearer
tell_full-requires-clause-hearer g c = may_rest _ _ _ _ _ _ c.requires.hearer c.tell_overfull.ensures

pub returns : goal.returns
returns g c = hears_both g.H.Hear.can_hear _ _ _ _ _ _ c.tell_overfull.ensures c.tell_full.ensures
