use Rattle.std.proofs.Common.{◌≡◌, length}
use Rattle.fixpoint_tests.proofs.trails.an_earlier_mark_outlives_later_ones.Given as goal

abbrev pub invariant-loop-number : goal.invariant-loop-number
invariant-loop-number g l = length l.b.current ≡ 2
