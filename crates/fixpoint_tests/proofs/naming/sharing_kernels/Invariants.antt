use Rattle.std.specs.Prelude.{All}
use Rattle.guarded_tell.specs.Kernels.{IsKernel}
use Rattle.fixpoint_tests.proofs.naming.sharing_kernels.Given as goal

abbrev pub invariant-loop-k : goal.invariant-loop-k
invariant-loop-k l = All (IsKernel 200) l.kernels.items
