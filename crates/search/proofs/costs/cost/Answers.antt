use Rattle.std.proofs.Common.{◌≡◌, ℤ, neg_ℤ, Some, ap, sym, subst, ◌∙◌, w64}
use Rattle.std.proofs.lemmas.Int.{to_z-of_z}
use Rattle.interval.specs.Limits.{IsNumber}
use Rattle.constraint_model.specs.declared.model.Goal.{Goal}
use Rattle.constraint_model.specs.Relations.{value, cost_of}
use Rattle.search.proofs.CostLaws.{number_of_negated}
use Rattle.search.proofs.costs.cost.Goals as goal

pub negated-requires : goal.negated-requires
negated-requires c =
    let x = value c.args.a.now c.in-Maximize.term in
    let e : cost_of c.args.goal c.args.a.now ≡ Some (neg_ℤ x) = ap (λ (g : Goal). cost_of g c.args.a.now) c.in-Maximize.is in
    let same = to_z-of_z w64 c.value-in-Maximize.result (record { sfits = c.value-in-Maximize.type_inv }) in
    subst IsNumber (sym (same ∙ c.value-in-Maximize.ensures)) (number_of_negated x (c.requires.numbers (neg_ℤ x) e))

pub returns-in-Maximize-clause-costs : goal.returns-in-Maximize-clause-costs
returns-in-Maximize-clause-costs c =
    let x = value c.args.a.now c.in-Maximize.term in
    let e : cost_of c.args.goal c.args.a.now ≡ Some (neg_ℤ x) = ap (λ (g : Goal). cost_of g c.args.a.now) c.in-Maximize.is in
    let same = to_z-of_z w64 c.value-in-Maximize.result (record { sfits = c.value-in-Maximize.type_inv }) in
    e ∙ ap (λ (z : ℤ). Some z) (ap neg_ℤ (sym (same ∙ c.value-in-Maximize.ensures)) ∙ sym c.negated.ensures ∙ sym (to_z-of_z w64 c.negated.result (record { sfits = c.negated.type_inv })))
