use Rattle.std.proofs.Common.{◌-◌, length}
use Rattle.fzn_parser.proofs.Gathered.{HaveLexemes}
use Rattle.fzn_parser.proofs.stream.gather.Given as goal

abbrev pub invariant-loop-at : goal.invariant-loop-at
invariant-loop-at l = HaveLexemes l.text l.fn.from l.at l.lexemes.items l.start

abbrev pub decreases-loop-at : goal.decreases-loop-at
decreases-loop-at l = length l.text - l.at
