use Rattle.std.proofs.Common.{◌≡◌, length}
use Rattle.reasons.proofs.halls.weaken_hall.Given as goal

abbrev pub invariant-loop-v : goal.invariant-loop-v
invariant-loop-v l = length l.past ≡ length l.initial.past
