use Rattle.std.proofs.Common.{refl}
use Rattle.search.specs.Stacks.{boxes_of}
use Rattle.search.proofs.TurnLaws.{first_can, first_found, first_goes_on, first_less}
use Rattle.search.proofs.first_turns.FirstTurns.step.Goals as goal

pub node_unlimited-requires-clause-run : goal.node_unlimited-requires-clause-run
node_unlimited-requires-clause-run g c = λ ks b. first_can c.args.run.now c.requires.run c.args.self.now c.requires.turns c.law_inside_order.ensures c.law_branches.ensures

pub returns-clause-some : goal.returns-clause-some
returns-clause-some g c =
    first_found c.args.run.now c.requires.run c.args.self.now c.requires.turns c.law_inside_order.ensures c.law_branches.ensures (boxes_of c.node_unlimited.new.self) c.in_ok-found.found
    c.in_ok-found.ensures.visit c.law_every_list.ensures c.law_one_list.ensures

pub returns-clause-none : goal.returns-clause-none
returns-clause-none g c =
    first_goes_on c.args.run.now c.requires.run c.args.self.now c.requires.turns c.law_inside_order.ensures c.law_branches.ensures (boxes_of c.node_unlimited.new.self) c.in_ok-found.found
    c.in_ok-found.ensures.visit c.node_unlimited.new.self _ refl c.in_ok-found.ensures.ready c.in_ok-found.ensures.count

pub returns-clause-less : goal.returns-clause-less
returns-clause-less g c =
    first_less c.args.run.now c.requires.run c.args.self.now c.requires.turns c.law_inside_order.ensures c.law_branches.ensures (boxes_of c.node_unlimited.new.self) c.in_ok-found.found
    c.in_ok-found.ensures.visit
