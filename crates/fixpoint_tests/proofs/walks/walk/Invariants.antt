use Rattle.std.proofs.Common.{◌≡◌, length}
use Rattle.moved_fixpoint.specs.Moved.{AreMovedOrQuiet, Fit}
use Rattle.moved_fixpoint.specs.Resting.{FitRests}
use Rattle.fixpoint_tests.proofs.walks.walk.Given as goal

abbrev pub invariant-loop : goal.invariant-loop
invariant-loop l = record {
  pairs : length l.b.current ≡ 40;
  sets : Fit 40 (length l.kernels) l.sets.moved l.sets.asking.asked;
  rests : FitRests (length l.kernels) l.sets.asking.rests;
  quiet : AreMovedOrQuiet l.sets.moved l.b.current l.kernels;
}
