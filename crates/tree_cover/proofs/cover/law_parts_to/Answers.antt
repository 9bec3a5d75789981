use Rattle.tree_cover.proofs.DepthLemmas.{parts_to_laws}
use Rattle.tree_cover.proofs.cover.law_parts_to.Goals as goal

pub returns : goal.returns
returns c = parts_to_laws
