use Rattle.std.proofs.Common.{◌-◌, length}
use Rattle.fzn_parser.specs.Plain.{AreLexemes}
use Rattle.fzn_parser.proofs.PlainItems.{with_commas}
use Rattle.fzn_parser.proofs.plain.plain_list.Given as goal

abbrev pub invariant-loop-at : goal.invariant-loop-at
invariant-loop-at g l = AreLexemes l.text l.fn.from l.at (with_commas g.E.PlainEntry.print l.list)

abbrev pub decreases-loop-at : goal.decreases-loop-at
decreases-loop-at g l = length l.text - l.at
