-- The kernel's coefficients are slight.
use Rattle.std.proofs.Common.{◌≡◌, ℕ, ℤ, List, ◌∷◌, ◌≤◌, unsigned_abs, sym, subst}
use Rattle.std.specs.List.{sum_by}
use Rattle.guarded_tell.specs.declared.kernel.Kernel.{Kernel}
use Rattle.guarded_tell.specs.Words.{IsProperIn}
use Rattle.guarded_tell.specs.Kernels.{vars_of}
use Rattle.small_sums.specs.Short.{slight_limit}
use Rattle.kernel_visits.proofs.ShapeLaws.{slight_inequality, slight_equation}
use Rattle.kernel_visits.proofs.slight_sum.give_slight_sum.Goals as goal

pub give_slight_at_most-requires-clause-slight : goal.give_slight_at_most-requires-clause-slight
give_slight_at_most-requires-clause-slight g c =
    let P : List ℤ → Type 0 = λ cs. sum_by unsigned_abs cs ≤ slight_limit in
    let same : c.as_slice.result.now ≡ c.in-Le.coeffs = cc in
    subst P (sym same) (slight_inequality c.args.k.now c.in-Le.lit c.in-Le.coeffs c.in-Le.vars c.in-Le.limit c.requires.slight c.in-Le.is).slight

pub give_slight_equation-requires-clause-slight : goal.give_slight_equation-requires-clause-slight
give_slight_equation-requires-clause-slight g c =
    (slight_equation c.args.k.now c.in-Eq.lit c.in-Eq.coeffs c.in-Eq.vars c.in-Eq.limit c.requires.slight c.in-Eq.is).slight

pub give_slight_at_most-requires-clause-proper : goal.give_slight_at_most-requires-clause-proper
unfolding vars_of
give_slight_at_most-requires-clause-proper g c =
    let P : List ℕ → Type 0 = λ vs. IsProperIn (c.in-Le.lit.var ∷ vs) c.args.b.now in
    let Q : Kernel → Type 0 = λ k. IsProperIn (vars_of k) c.args.b.now in
    let same : c.as_slice-in-Le.result.now ≡ c.in-Le.vars = cc in
    subst P (sym same) (subst Q c.in-Le.is c.requires.proper)

pub give_slight_equation-requires-clause-proper : goal.give_slight_equation-requires-clause-proper
unfolding vars_of
give_slight_equation-requires-clause-proper g c =
    let Q : Kernel → Type 0 = λ k. IsProperIn (vars_of k) c.args.b.now in
    subst Q c.in-Eq.is c.requires.proper
