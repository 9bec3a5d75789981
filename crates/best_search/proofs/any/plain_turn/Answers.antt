use Rattle.best_search.proofs.AnyLaws.{plain_turn_is}
use Rattle.best_search.proofs.any.plain_turn.Goals as goal

pub returns-clause-turn : goal.returns-clause-turn
returns-clause-turn g c =
    plain_turn_is c.args.run.now c.requires.run c.law_inside_order.ensures c.law_every_list.ensures c.law_solutions_listed.ensures c.args.plain.now c.go_on.new.self c.requires.plain
    c.go_on.result c.go_on.ensures.turn c.go_on.ensures.asked c.go_on.ensures.turns
