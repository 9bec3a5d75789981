use Rattle.std.proofs.Common.{◌≡◌, None, [], subst}
use Rattle.interval.specs.Boxes.{Bounds}
use Rattle.search.specs.Stacks.{boxes_of}
use Rattle.search.specs.Turns.{IsFirstOf}
use Rattle.search.proofs.RunLaws.{of_false}
use Rattle.search.proofs.TurnLaws.{first_none}
use Rattle.search.proofs.first_turns.FirstTurns.go_on.Goals as goal

pub returns-clause-turn : goal.returns-clause-turn
returns-clause-turn g c =
    subst (λ (b : Bounds). IsFirstOf c.args.run.now.model.now c.args.run.now.program.now.kernels b None) c.nodes.invariant.asked
    (first_none c.args.run.now c.requires.run c.nodes.self c.nodes.invariant.turns c.law_inside_order.ensures c.law_branches.ensures c.law_every_list.ensures c.law_one_list.ensures
    (of_false c.has_next.result (boxes_of c.nodes.self.searcher ≡ []) c.nodes-test.false c.has_next.ensures.none))
