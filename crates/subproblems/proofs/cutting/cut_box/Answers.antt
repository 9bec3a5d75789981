use Rattle.subproblems.proofs.CutLemmas.{cut_of_closed}
use Rattle.subproblems.proofs.cutting.cut_box.Goals as goal

pub returns-in-Fixed : goal.returns-in-Fixed
returns-in-Fixed c = cut_of_closed _ _ _ _ c.in-Fixed.ensures.fixed _ c.fix_or_part.ensures
