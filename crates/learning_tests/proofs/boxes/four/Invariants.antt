use Rattle.std.proofs.Common.{◌≡◌, length}
use Rattle.learning_tests.proofs.boxes.four.Given as goal

abbrev pub invariant-loop-v : goal.invariant-loop-v
invariant-loop-v l = length l.b ≡ 4
