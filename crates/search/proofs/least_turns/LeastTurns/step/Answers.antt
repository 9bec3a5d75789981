use Rattle.std.proofs.Common.{◌<◌, refl, sym, subst}
use Rattle.search.specs.declared.searcher.Searcher.{Searcher}
use Rattle.search.specs.Stacks.{boxes_of}
use Rattle.search.specs.Weights.{weight_of}
use Rattle.search.proofs.TurnLaws.{least_can, least_best, least_less, found_objective, found_number, kept}
use Rattle.search.proofs.least_turns.LeastTurns.step.Goals as goal

pub node_unlimited-requires-clause-run : goal.node_unlimited-requires-clause-run
node_unlimited-requires-clause-run g c = λ ks b. least_can c.args.run.now c.requires.run c.args.self.now c.requires.turns c.law_inside_order.ensures c.law_branches.ensures

pub node_unlimited-requires-clause-best : goal.node_unlimited-requires-clause-best
node_unlimited-requires-clause-best g c = λ ks b. least_best c.args.run.now c.requires.run c.args.self.now c.requires.turns c.law_inside_order.ensures c.law_branches.ensures

pub keep-requires-clause-objective : goal.keep-requires-clause-objective
keep-requires-clause-objective g c =
    found_objective c.args.run.now c.requires.run c.args.self.now c.requires.turns c.law_inside_order.ensures c.law_branches.ensures (boxes_of c.node_unlimited.new.self) c.in_ok-found.found
    c.in_ok-found.ensures.visit c.law_records_solutions.ensures

pub keep-requires-clause-numbers : goal.keep-requires-clause-numbers
keep-requires-clause-numbers g c =
    found_number c.args.run.now c.requires.run c.args.self.now c.requires.turns c.law_inside_order.ensures c.law_branches.ensures (boxes_of c.node_unlimited.new.self) c.in_ok-found.found
    c.in_ok-found.ensures.visit c.law_records_solutions.ensures

pub returns-clause-turns : goal.returns-clause-turns
returns-clause-turns g c =
    (kept c.args.run.now c.requires.run c.args.self.now c.requires.turns c.law_inside_order.ensures c.law_branches.ensures (boxes_of c.node_unlimited.new.self) c.in_ok-found.found
    c.in_ok-found.ensures.visit c.node_unlimited.new.self c.count.new.self refl c.in_ok-found.ensures.ready c.in_ok-found.ensures.count c.law_records_solutions.ensures c.law_records_below.ensures
    c.keep.new.self c.keep.result c.keep.ensures.some c.keep.ensures.none).again

pub returns-clause-found : goal.returns-clause-found
returns-clause-found g c =
    (kept c.args.run.now c.requires.run c.args.self.now c.requires.turns c.law_inside_order.ensures c.law_branches.ensures (boxes_of c.node_unlimited.new.self) c.in_ok-found.found
    c.in_ok-found.ensures.visit c.node_unlimited.new.self c.count.new.self refl c.in_ok-found.ensures.ready c.in_ok-found.ensures.count c.law_records_solutions.ensures c.law_records_below.ensures
    c.keep.new.self c.keep.result c.keep.ensures.some c.keep.ensures.none).found

pub returns-clause-same : goal.returns-clause-same
returns-clause-same g c =
    (kept c.args.run.now c.requires.run c.args.self.now c.requires.turns c.law_inside_order.ensures c.law_branches.ensures (boxes_of c.node_unlimited.new.self) c.in_ok-found.found
    c.in_ok-found.ensures.visit c.node_unlimited.new.self c.count.new.self refl c.in_ok-found.ensures.ready c.in_ok-found.ensures.count c.law_records_solutions.ensures c.law_records_below.ensures
    c.keep.new.self c.keep.result c.keep.ensures.some c.keep.ensures.none).same

pub returns-clause-less : goal.returns-clause-less
returns-clause-less g c =
    subst (λ (s : Searcher). weight_of (boxes_of s) < weight_of (boxes_of c.args.self.now.searcher)) (sym c.keep.ensures.searcher)
    (least_less c.args.run.now c.requires.run c.args.self.now c.requires.turns c.law_inside_order.ensures c.law_branches.ensures (boxes_of c.node_unlimited.new.self) c.in_ok-found.found
    c.in_ok-found.ensures.visit)
