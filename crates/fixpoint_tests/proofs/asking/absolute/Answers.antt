use Rattle.fixpoint_tests.proofs.Marking.{absolutes}
use Rattle.fixpoint_tests.proofs.asking.absolute.Goals as goal

pub returns : goal.returns
returns c = absolutes
