use Rattle.std.proofs.Common.{◌≡◌, ◌-◌, ◌∙◌, Option, List, sym, ap, subst, arith, Decides, MatchOption, get_or}
use Rattle.std.specs.Prelude.{⊤}
use Rattle.constraint_model.specs.declared.model.Constraint.{Constraint}
use Rattle.constraint_model.specs.Relations.{Holds}
use Rattle.constraint_model.specs.WellFormed.{IsConstraintOf}
use Rattle.constraint_check.proofs.SmallLaws.{small_operands, got}
use Rattle.constraint_check.proofs.holding.holds_now.Goals as goal

pub holds-requires-clause-small : goal.holds-requires-clause-small
holds-requires-clause-small c =
    let vars = c.args.model.now.vars in
    let constraints = c.args.model.now.constraints in
    let constraint = c.index-as_slice-place.result in
    let is : constraint ≡ get_or constraints (c.args.number - 1) constraint = c.index-as_slice-place.is ∙ ap (λ (cs : List Constraint). get_or cs (c.args.number - 1) constraint) c.as_slice.ensures in
    let low = c.requires.from_one in
    let high = c.requires.within in
    small_operands vars constraint (subst (IsConstraintOf vars) (sym is) (c.requires.model.constraints (c.args.number - 1) constraint (omega arith)))

pub returns : goal.returns
returns c =
    let constraints = c.args.model.now.constraints in
    let constraint = c.index-as_slice-place.result in
    let is : constraint ≡ get_or constraints (c.args.number - 1) constraint = c.index-as_slice-place.is ∙ ap (λ (cs : List Constraint). get_or cs (c.args.number - 1) constraint) c.as_slice.ensures in
    let low = c.requires.from_one in
    let high = c.requires.within in
    let found = got constraints (c.args.number - 1) constraint (omega arith) is in
    subst (λ (o : Option Constraint). Decides c.holds.result (MatchOption o ⊤ (λ k. Holds k c.args.solution.now))) (sym found) c.holds.ensures
