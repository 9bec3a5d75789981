use Rattle.search.proofs.PremiseLaws.{can_search}
use Rattle.search.proofs.laws.law_can_search.Goals as goal

pub returns : goal.returns
returns g c = can_search c.args.run.now c.args.sub.now c.requires.run c.requires.inside
