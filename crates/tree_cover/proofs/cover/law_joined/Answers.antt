use Rattle.tree_cover.proofs.CoverLemmas.{joins_lists}
use Rattle.tree_cover.proofs.cover.law_joined.Goals as goal

pub returns : goal.returns
returns c = joins_lists
