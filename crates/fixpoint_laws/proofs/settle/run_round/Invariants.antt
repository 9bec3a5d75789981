use Rattle.std.proofs.Common.{◌≡◌, length}
use Rattle.fixpoint_laws.proofs.Running.{Stands}
use Rattle.fixpoint_laws.proofs.settle.run_round.Given as goal

abbrev pub invariant-loop-kernel : goal.invariant-loop-kernel
invariant-loop-kernel l = record {
  spare_length : length l.spare ≡ length l.initial.b;
  stands : Stands l.kernels l.initial.b l.kernel-index l.b l.moved;
}
