use Rattle.search.proofs.PostedLaws.{more_posted}
use Rattle.search.proofs.laws.law_more_posted.Goals as goal

pub returns : goal.returns
returns c = more_posted
