use Rattle.learning_tests.proofs.Serving.{absolutes}
use Rattle.learning_tests.proofs.analyses.absolutes.Goals as goal

pub returns : goal.returns
returns c = absolutes
