use Rattle.std.proofs.Common.{◌≡◌, ℤ, Option, sym, ap, subst, ◌∙◌}
use Rattle.std.specs.Prelude.{IfSome}
use Rattle.search.specs.declared.least_turns.LeastTurn.{LeastTurn}
use Rattle.search.specs.LeastEnds.{IsCost}
use Rattle.search.specs.Turns.{CostsAtLeast, FindsBetter, IsLeastTurn, IfLeastDone, least_asked, lowest_of, found_last, lesser}
use Rattle.race.proofs.LeastLaws.{best_is_cost, plain_found, plain_done}
use Rattle.race.proofs.least.plain_turn.Goals as goal

pub go_on-requires-clause-best : goal.go_on-requires-clause-best
go_on-requires-clause-best g c κs within =
    let task = c.args.task.now in
    let model = task.run.now.model.now in
    subst (λ (o : Option ℤ). IfSome o (IsCost model)) (sym c.cost_of-cost.ensures) (best_is_cost model task.sub.now c.turns.incumbent c.turns.invariant.standing.is_best.incumbent)

pub turns-preserved : goal.turns-preserved
turns-preserved g c =
    let task = c.args.task.now in
    let model = task.run.now.model.now in
    let before = c.turns.plain in
    let after = c.go_on.new.self in
    let cost = c.cost_of-cost.result in
    let better : FindsBetter model (lesser (lowest_of before) cost) before after = subst (λ (t : LeastTurn). IsLeastTurn model cost before after t) c.in-Found.is c.in_ok-go_on.ensures.turn in
    record {
      standing = plain_found task before after c.turns.incumbent c.turns.invariant.standing c.in_ok-go_on.ensures.turns c.in_ok-go_on.ensures.asked c.requires.task
          (lesser (lowest_of before) cost) better c.in_ok-go_on.ensures.first c.in_ok-incumbent-in-Found.incumbent
          c.in_ok-incumbent-in-Found.ensures.some c.in_ok-incumbent-in-Found.ensures.none;
      whole = c.turns.invariant.whole;
    }

pub returns-in-Done-clause-turn : goal.returns-in-Done-clause-turn
returns-in-Done-clause-turn g c =
    let task = c.args.task.now in
    let model = task.run.now.model.now in
    let before = c.turns.plain in
    let after = c.go_on.new.self in
    let cost = c.cost_of-cost.result in
    let turn : (found_last after ≡ found_last before) × (lowest_of after ≡ lesser (lowest_of before) cost) =
    subst (λ (t : LeastTurn). IsLeastTurn model cost before after t) c.in-Done.is c.in_ok-go_on.ensures.turn in
    let done : CostsAtLeast model (least_asked before) (lowest_of after) =
    subst (λ (t : LeastTurn). IfLeastDone t (CostsAtLeast model (least_asked before) (lowest_of after))) c.in-Done.is c.in_ok-go_on.ensures.done in
    plain_done task before after c.turns.incumbent c.turns.invariant.standing (turn.1 ∙ ap (λ (o : Option ℤ). lesser (lowest_of before) o) c.cost_of-cost.ensures) done
