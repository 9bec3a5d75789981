use Rattle.tree_parts.proofs.WholeLemmas.{whole_of_parts, least_of_parts}
use Rattle.tree_parts.proofs.law_whole_of_parts.Goals as goal

pub returns-clause-whole : goal.returns-clause-whole
returns-clause-whole c = whole_of_parts c.law_paths.ensures c.law_deeper.ensures c.law_one_list.ensures c.law_every_list.ensures

pub returns-clause-least : goal.returns-clause-least
returns-clause-least c = least_of_parts c.law_paths.ensures c.law_deeper.ensures c.law_one_list.ensures c.law_every_list.ensures
