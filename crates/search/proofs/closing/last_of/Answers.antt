use Rattle.search.proofs.LeastRunLaws.{popped_last}
use Rattle.search.proofs.closing.last_of.Goals as goal

pub returns : goal.returns
returns c =
    popped_last c.args.found c.pop-last.new.self.items c.into_vec-solutions.result.items c.pop-last.result c.into_vec-solutions.result.len c.pop-last.new.self.len
    c.into_vec-solutions.ensures c.pop-last.ensures.items c.pop-last.ensures.rest c.pop-last.ensures.cases
