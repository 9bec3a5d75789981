-- What is seen to narrow nothing is heard.
use Rattle.std.proofs.Common.{◌≡◌, ℕ, List, ◌∷◌, refl, sym, subst}
use Rattle.std.proofs.lemmas.Bool.{OnTrue_at, OnTrue_from, OnFalse_from}
use Rattle.guarded_tell.specs.declared.kernel.Kernel.{Kernel}
use Rattle.guarded_tell.specs.Words.{IsProperIn}
use Rattle.guarded_tell.specs.Kernels.{vars_of, tells}
use Rattle.short_tells.proofs.ShortSumLaws.{quiet_heard}
use Rattle.kernel_visits.proofs.narrowing.is_given.Goals as goal

pub narrow_at_most-requires-clause-proper : goal.narrow_at_most-requires-clause-proper
unfolding vars_of
narrow_at_most-requires-clause-proper g c =
    let P : List ℕ → Type 0 = λ vs. IsProperIn (c.in-Le.lit.var ∷ vs) c.args.b.now in
    let Q : Kernel → Type 0 = λ k. IsProperIn (vars_of k) c.args.b.now in
    let same : c.as_slice-in-Le.result.now ≡ c.in-Le.vars = cc in
    subst P (sym same) (subst Q c.in-Le.is c.requires.proper)

pub narrow_equation-requires-clause-proper : goal.narrow_equation-requires-clause-proper
unfolding vars_of
narrow_equation-requires-clause-proper g c =
    let Q : Kernel → Type 0 = λ k. IsProperIn (vars_of k) c.args.b.now in
    subst Q c.in-Eq.is c.requires.proper

pub returns-in_default : goal.returns-in_default
returns-in_default g c = record {
  given = OnTrue_from _ _ (λ e. quiet_heard g.H.Hear.hears c.args.h.now c.args.b.now (tells c.args.k.now c.args.b.now) (OnTrue_at e c.is_quiet.ensures));
  left = OnFalse_from c.is_quiet.result (c.args.h.now ≡ c.args.h.now) (λ e. refl);
}
