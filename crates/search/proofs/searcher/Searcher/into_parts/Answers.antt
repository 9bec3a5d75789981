use Rattle.search.proofs.SearcherLaws.{over_below}
use Rattle.search.proofs.searcher.Searcher.into_parts.Goals as goal

pub returns-clause-over : goal.returns-clause-over
returns-clause-over c = over_below c.args.self.boxes.stack c.args.self.fronts.items
