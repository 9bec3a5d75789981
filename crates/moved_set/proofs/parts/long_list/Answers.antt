-- Behind the literal's variable stand those of the sum.
use Rattle.std.proofs.Common.{sym, subst}
use Rattle.guarded_tell.specs.declared.kernel.Kernel.{Kernel}
use Rattle.guarded_tell.specs.Kernels.{vars_of}
use Rattle.moved_set.specs.Parts.{HasList}
use Rattle.moved_set.proofs.parts.long_list.Goals as goal

pub returns-in-Eq : goal.returns-in-Eq
unfolding vars_of
returns-in-Eq c =
    let P : Kernel → Type 0 = λ k. HasList (vars_of k) 1 c.long_list_of_equation.result.now in
    subst P (sym c.in-Eq.is) (c.long_list_of_equation.ensures c.in-Eq.lit.var)
