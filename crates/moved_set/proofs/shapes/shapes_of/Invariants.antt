use Rattle.moved_set.proofs.ShapeRows.{AreFirstShapes}
use Rattle.moved_set.proofs.shapes.shapes_of.Given as goal

abbrev pub invariant-loop-j : goal.invariant-loop-j
invariant-loop-j l = AreFirstShapes l.kernels l.j l.shapes.items
