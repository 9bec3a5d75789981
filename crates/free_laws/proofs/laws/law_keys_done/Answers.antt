use Rattle.free_laws.proofs.StepProofs.{keys_done}
use Rattle.free_laws.proofs.laws.law_keys_done.Goals as goal

pub returns : goal.returns
returns c = keys_done c.law_none_solves.ensures c.law_first_by_keys.ensures
