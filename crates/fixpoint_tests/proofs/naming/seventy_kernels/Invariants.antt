use Rattle.std.proofs.Common.{◌≡◌, length}
use Rattle.std.specs.Prelude.{All}
use Rattle.guarded_tell.specs.Kernels.{IsKernel}
use Rattle.fixpoint_tests.proofs.naming.seventy_kernels.Given as goal

abbrev pub invariant-loop-x : goal.invariant-loop-x
invariant-loop-x l = record {
  kernels : All (IsKernel 130) l.kernels.items;
  count : length l.kernels.items ≡ l.x;
}
