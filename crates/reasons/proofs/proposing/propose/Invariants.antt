use Rattle.std.proofs.Common.{◌≡◌, length}
use Rattle.reasons.proofs.proposing.propose.Given as goal

abbrev pub invariant-loop-tried : goal.invariant-loop-tried
invariant-loop-tried l = length l.past ≡ length l.initial.past
