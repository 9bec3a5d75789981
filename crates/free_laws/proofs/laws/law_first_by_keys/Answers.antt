use Rattle.free_laws.proofs.KeyProofs.{first_by_keys}
use Rattle.free_laws.proofs.laws.law_first_by_keys.Goals as goal

pub returns : goal.returns
returns c = first_by_keys c.law_first_comes_first.ensures
