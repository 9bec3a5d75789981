use Rattle.std.proofs.Common.{refl}
use Rattle.branching.proofs.TreeLaws.{one_list}
use Rattle.branching.proofs.laws.law_one_list.Goals as goal

pub returns : goal.returns
returns c = λ model kernels b found others rule h k. one_list c.law_one_fixpoint.ensures model kernels rule b b found others refl h k
