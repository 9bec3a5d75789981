use Rattle.std.proofs.Common.{sym, subst}
use Rattle.std.specs.Prelude.{All}
use Rattle.std.proofs.lemmas.List.Elements.{All-push}
use Rattle.guarded_tell.specs.Kernels.{IsKernel}
use Rattle.fixpoint_tests.proofs.naming.sharing_kernels.Goals as goal

pub loop-k-preserved : goal.loop-k-preserved
loop-k-preserved c =
    subst (All (IsKernel 200)) (sym c.in_ok-push.ensures.items)
    (All-push (IsKernel 200) c.loop-k.kernels.items c.in_ok-sharing_kernel.field-0 c.loop-k.invariant c.in_ok-sharing_kernel.ensures)
