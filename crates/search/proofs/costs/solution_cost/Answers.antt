use Rattle.std.proofs.Common.{ℤ, Some, ap, sym, ◌∙◌, w64}
use Rattle.std.proofs.lemmas.Int.{to_z-of_z}
use Rattle.search.proofs.LeastRunLaws.{cost_number}
use Rattle.search.proofs.TurnLaws.{has_cost}
use Rattle.search.proofs.costs.solution_cost.Goals as goal

pub cost-requires-clause-objective : goal.cost-requires-clause-objective
cost-requires-clause-objective g c = has_cost c.args.run.now c.requires.run c.requires.objective c.args.a.now c.requires.solves

pub cost-requires-clause-numbers : goal.cost-requires-clause-numbers
cost-requires-clause-numbers g c = λ cost e. cost_number c.args.run.now.model.now c.requires.run.model c.args.a.now c.requires.solves cost e

pub returns-clause-is_cost : goal.returns-clause-is_cost
returns-clause-is_cost g c = record {
  assignment = c.args.a.now;
  solves = c.requires.solves;
  costs = c.cost.ensures.costs ∙ ap (λ (z : ℤ). Some z) (sym (to_z-of_z w64 c.cost.result (record { sfits = c.cost.type_inv })));
}
