use Rattle.std.proofs.Common.{◌-◌, length}
use Rattle.fzn_parser.proofs.Gathered.{AreGathered}
use Rattle.fzn_parser.proofs.stream.gather_tokens.Given as goal

abbrev pub invariant-loop-at : goal.invariant-loop-at
invariant-loop-at l = AreGathered l.text l.fn.from l.at l.tokens.items

abbrev pub decreases-loop-at : goal.decreases-loop-at
decreases-loop-at l = length l.text - l.at
