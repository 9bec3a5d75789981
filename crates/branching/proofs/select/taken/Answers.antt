use Rattle.std.proofs.Common.{ℕ, List, get_or, sym, subst}
use Rattle.constraint_model.specs.declared.model.VarSel.{VarSel}
use Rattle.branching.specs.Selection.{IsChosen}
use Rattle.branching.proofs.FrontLaws.{first_chosen}
use Rattle.branching.proofs.select.taken.Goals as goal

pub returns-in-InputOrder-clause-chosen : goal.returns-in-InputOrder-clause-chosen
returns-in-InputOrder-clause-chosen c =
    subst (λ (s : VarSel). IsChosen s c.args.b.now c.args.phase.now.vars (get_or c.as_slice-vars.result.now c.in_ok-place.place 0)) (sym c.in-InputOrder.is)
    (subst (λ (xs : List ℕ). IsChosen VarSel.InputOrder c.args.b.now xs (get_or c.as_slice-vars.result.now c.in_ok-place.place 0)) c.as_slice-vars.ensures
    (first_chosen c.args.b.now c.as_slice-vars.result.now c.in_ok-place.place c.in_ok-place.ensures.first))
