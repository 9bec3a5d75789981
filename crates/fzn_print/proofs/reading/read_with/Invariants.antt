use Rattle.std.proofs.Common.{◌≡◌, length}
use Rattle.fzn_print.proofs.ReadLaws.{IsRead}
use Rattle.fzn_print.proofs.reading.read_with.Given as goal

-- the solutions so far were read, and the rest is left
abbrev pub invariant-loop-mark : goal.invariant-loop-mark
invariant-loop-mark l = record {
  read : IsRead l.model l.bytes l.solutions l.rest;
  room : length l.values ≡ length l.model.vars;
}

abbrev pub decreases-loop-mark : goal.decreases-loop-mark
decreases-loop-mark l = length l.rest
