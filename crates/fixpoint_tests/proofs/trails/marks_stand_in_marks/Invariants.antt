use Rattle.std.proofs.Common.{◌≡◌, length}
use Rattle.fixpoint_tests.proofs.trails.marks_stand_in_marks.Given as goal

abbrev pub invariant-loop-bounds : goal.invariant-loop-bounds
invariant-loop-bounds g l = length l.b.current ≡ 2
