use Rattle.std.proofs.Common.{◌≡◌, length}
use Rattle.fixpoint_tests.proofs.naming.first_missed.Given as goal

abbrev pub invariant-loop-k : goal.invariant-loop-k
invariant-loop-k l = record {
  moved : length l.moved ≡ 200;
  asked : length l.asked ≡ length l.fn.kernels;
}
