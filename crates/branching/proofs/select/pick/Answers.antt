use Rattle.std.proofs.Common.{ℕ, List, take, sym, subst}
use Rattle.std.proofs.lemmas.List.{take_more}
use Rattle.branching.specs.Picks.{IsPick}
use Rattle.branching.proofs.select.pick.Goals as goal

pub loop-place-preserved : goal.loop-place-preserved
loop-place-preserved c =
    subst (λ (xs : List ℕ). IsPick c.args.selection c.args.b.now xs c.better-best.result) (sym (take_more c.args.vars.now c.loop-place.place 0 c.loop-place-test.true))
    (c.better-best.ensures (take c.loop-place.place c.args.vars.now) c.loop-place.invariant)
