use Rattle.std.proofs.Common.{◌∙◌, Bool, List, sym, ap, subst, Decides}
use Rattle.constraint_model.specs.declared.model.Operand.{Operand}
use Rattle.constraint_model.specs.Relations.{Holds}
use Rattle.constraint_check.specs.Tests.{is_met}
use Rattle.constraint_check.proofs.HoldLaws.{holds_law}
use Rattle.constraint_check.proofs.holding.holds.Goals as goal

pub returns : goal.returns
returns c =
    let constraint = c.args.constraint.now in
    let a = c.args.solution.now in
    let demand = c.demand_of.result in
    let answer = c.is_met.ensures ∙ ap (λ (os : List Operand). is_met demand a os) c.as_slice.ensures in
    subst (λ (b : Bool). Decides b (Holds constraint a)) (sym answer) (holds_law demand a constraint.operands (Holds constraint a) (c.demand_of.ensures a constraint.operands))
