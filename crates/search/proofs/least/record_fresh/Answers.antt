use Rattle.std.proofs.Common.{◌≡◌, ℤ, List, ◌∷◌, Some, ap, subst, ◌∙◌, w64}
use Rattle.std.proofs.lemmas.Int.{to_z-of_z}
use Rattle.constraint_model.specs.Relations.{cost_of}
use Rattle.best_bound.specs.Seats.{costs_posted}
use Rattle.search.proofs.LeastRunLaws.{one_posted}
use Rattle.search.proofs.least.record_fresh.Goals as goal

pub returns-clause-posted : goal.returns-clause-posted
returns-clause-posted g c =
    one_posted c.args.goal c.args.fresh.items c.pop.new.self.items c.in-Some.values c.cost-cost.result (costs_posted c.args.seat.now) (costs_posted c.post.new.seat)
    c.requires.one c.in-Some.ensures.items
    (subst (λ (a : List ℤ). cost_of c.args.goal a ≡ Some c.cost-cost.result) c.as_slice.ensures c.cost-cost.ensures.costs)
    (c.post.ensures.posted ∙ ap (λ (z : ℤ). z ∷ costs_posted c.args.seat.now) (to_z-of_z w64 c.cost-cost.result (record { sfits = c.cost-cost.type_inv })))
