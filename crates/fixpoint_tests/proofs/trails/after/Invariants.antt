use Rattle.std.proofs.Common.{◌≡◌, length}
use Rattle.fixpoint_tests.proofs.trails.after.Given as goal

abbrev pub invariant-loop-step : goal.invariant-loop-step
invariant-loop-step l = length l.b.current ≡ 2
