use Rattle.portfolio.proofs.TogetherLaws.{none_solves}
use Rattle.portfolio.proofs.together.concluded.Goals as goal

pub returns-in-None-at_least : goal.returns-in-None-at_least
returns-in-None-at_least c = λ model b objective bound best. none_solves model b c.args.bound.at_least objective c.in-None-at_least.is bound
