use Rattle.std.proofs.Common.{◌≡◌, length}
use Rattle.reasons.proofs.past.recall.Given as goal

abbrev pub invariant-loop-i : goal.invariant-loop-i
invariant-loop-i l = length l.past ≡ length l.initial.past
