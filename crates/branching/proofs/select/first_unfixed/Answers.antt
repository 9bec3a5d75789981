use Rattle.std.proofs.Common.{ℕ, List, refl, subst}
use Rattle.std.specs.List.{All}
use Rattle.std.proofs.lemmas.List.{take_all}
use Rattle.branching.specs.Selection.{IsFixed}
use Rattle.branching.proofs.FrontLaws.{one_more_fixed}
use Rattle.branching.proofs.select.first_unfixed.Goals as goal

pub loop-place-preserved : goal.loop-place-preserved
loop-place-preserved c = one_more_fixed c.args.b.now c.args.vars.now c.loop-place.place c.loop-place-test.true _ refl c.loop-place.invariant c.if-not-is_fixed.ensures.fixed

pub returns-clause-none : goal.returns-clause-none
returns-clause-none c = subst (λ (xs : List ℕ). All (IsFixed c.args.b.now) xs) (take_all c.loop-place.place c.args.vars.now c.loop-place-test.false) c.loop-place.invariant
