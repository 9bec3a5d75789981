use Rattle.fzn_parser.proofs.ItemForms.{item_is_stretch}
use Rattle.fzn_parser.proofs.laws.law_item_is_stretch.Goals as goal

pub returns : goal.returns
returns c = item_is_stretch
