use Rattle.std.proofs.Common.{arith}
use Rattle.learning_tests.proofs.Zeros.{zeros_in_range}
use Rattle.learning_tests.proofs.boxes.four.Goals as goal

pub from_pairs-requires : goal.from_pairs-requires
from_pairs-requires c = zeros_in_range 4 (omega arith)
