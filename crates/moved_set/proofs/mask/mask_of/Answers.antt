use Rattle.moved_set.proofs.SetLaws.{hits_one}
use Rattle.moved_set.proofs.mask.mask_of.Goals as goal

pub returns-clause-hits : goal.returns-clause-hits
returns-clause-hits c = hits_one c.args.j
