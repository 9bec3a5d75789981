use Rattle.search.specs.declared.node.Visit.{Visit}
use Rattle.search.specs.Stacks.{boxes_of}
use Rattle.search.proofs.TurnLaws.{visited}
use Rattle.search.proofs.searcher.Searcher.node_unlimited.Goals as goal

pub returns-clause-visit : goal.returns-clause-visit
returns-clause-visit g c = record {
  found = c.node.new.found;
  visit = visited c.args.run.now c.args.best (boxes_of c.args.self.now) (boxes_of c.node.new.self) c.new-found.result c.node.new.found c.in_ok-node.field-0 Visit.Done
      c.new-found.ensures c.in-Done.is c.in_ok-node.ensures.visit;
  is_last = c.last_of.ensures;
}
