use Rattle.std.proofs.Common.{◌≡◌, length}
use Rattle.fixpoint_tests.proofs.sets.around_words.Given as goal

abbrev pub invariant-loop-j : goal.invariant-loop-j
invariant-loop-j l = length l.asked ≡ 130
