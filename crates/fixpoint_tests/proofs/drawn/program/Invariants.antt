use Rattle.std.specs.List.{All}
use Rattle.guarded_tell.specs.Kernels.{IsKernel}
use Rattle.fixpoint_tests.proofs.drawn.program.Given as goal

abbrev pub invariant-loop : goal.invariant-loop
invariant-loop l = All (IsKernel 40) l.kernels.items
