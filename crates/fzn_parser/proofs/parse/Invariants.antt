use Rattle.std.proofs.Common.{◌-◌, ◌≤◌, drop, length, map}
use Rattle.fzn_parser.specs.Parsing.{item_tree}
use Rattle.fzn_parser.proofs.Progress.{ReadBefore}
use Rattle.fzn_parser.proofs.parse.Given as goal

abbrev pub invariant-loop-start : goal.invariant-loop-start
invariant-loop-start l = (l.start ≤ length l.tokens) × ReadBefore l.text l.tokens (drop l.start l.tokens) (map item_tree l.items.items)

abbrev pub decreases-loop-start : goal.decreases-loop-start
decreases-loop-start l = length l.tokens - l.start
