use Rattle.std.proofs.Common.{map}
use Rattle.fzn_parser.specs.Parsing.{item_tree}
use Rattle.fzn_model.specs.Drafts.{seen}
use Rattle.fzn_model.proofs.Standing.{Stands}
use Rattle.fzn_model.proofs.resolving.resolve.Given as goal

abbrev pub invariant-loop-item : goal.invariant-loop-item
invariant-loop-item l = Stands l.text (map item_tree l.items) l.item-index (seen l.draft)
