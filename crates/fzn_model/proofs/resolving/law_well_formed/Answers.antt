use Rattle.fzn_model.proofs.WellFormedLaws.{well_formed}
use Rattle.fzn_model.proofs.resolving.law_well_formed.Goals as goal

pub returns : goal.returns
returns c = well_formed (c.law_ranges.ensures.there, c.law_ranges.ensures.intervals)
