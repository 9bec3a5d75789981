use Rattle.std.proofs.Common.{◌≡◌, length}
use Rattle.reasons.proofs.weakening.widen_each.Given as goal

abbrev pub invariant-loop-place : goal.invariant-loop-place
invariant-loop-place l = length l.past ≡ length l.initial.past
