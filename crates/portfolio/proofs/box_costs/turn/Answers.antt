use Rattle.std.proofs.Common.{subst}
use Rattle.search.specs.declared.least_turns.LeastTurn.{LeastTurn}
use Rattle.search.specs.Turns.{FindsBetter, IsLeastTurn, lesser, lowest_of}
use Rattle.portfolio.proofs.BoxLaws.{search_found}
use Rattle.portfolio.proofs.box_costs.turn.Goals as goal

pub post_last-requires-clause-search : goal.post_last-requires-clause-search
post_last-requires-clause-search g c =
    let model = c.args.sharing.now.run.now.model.now in
    let before = c.args.turns.now in
    let after = c.go_on.new.self in
    let cost = c.seen-best.result in
    let better : FindsBetter model (lesser (lowest_of before) cost) before after = subst (λ (t : LeastTurn). IsLeastTurn model cost before after t) c.in-Found.is c.in_ok-go_on.ensures.turn in
    search_found c.law_inside_order.ensures c.args.sharing.now c.args.sub.now before after (lesser (lowest_of before) cost) c.requires.inside c.requires.search c.in_ok-go_on.ensures.turns
    c.in_ok-go_on.ensures.asked better

pub returns-in-Found-clause-search : goal.returns-in-Found-clause-search
returns-in-Found-clause-search g c =
    let model = c.args.sharing.now.run.now.model.now in
    let before = c.args.turns.now in
    let after = c.go_on.new.self in
    let cost = c.seen-best.result in
    let better : FindsBetter model (lesser (lowest_of before) cost) before after = subst (λ (t : LeastTurn). IsLeastTurn model cost before after t) c.in-Found.is c.in_ok-go_on.ensures.turn in
    search_found c.law_inside_order.ensures c.args.sharing.now c.args.sub.now before after (lesser (lowest_of before) cost) c.requires.inside c.requires.search c.in_ok-go_on.ensures.turns
    c.in_ok-go_on.ensures.asked better
