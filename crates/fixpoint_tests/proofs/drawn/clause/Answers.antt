use Rattle.std.proofs.Common.{List, sym, subst}
use Rattle.guarded_tell.specs.Words.{Lit}
use Rattle.guarded_tell.specs.declared.kernel.Kernel.TheVariants.{Clause}
use Rattle.guarded_tell.specs.Kernels.{IsKernel}
use Rattle.fixpoint_tests.proofs.SmallKernels.{clause_made}
use Rattle.fixpoint_tests.proofs.drawn.clause.Goals as goal

pub returns : goal.returns
returns c = subst (λ (ls : List Lit). IsKernel 40 (Clause ls)) (sym c.from_list.ensures) (clause_made c.in_ok-lits.lits c.in_ok-lits.ensures.below c.in_ok-lits.ensures.three)
