use Rattle.std.specs.Prelude.{All}
use Rattle.moved_set.specs.Building.{AreWithin, AreGroupsOf}
use Rattle.moved_set.specs.Rows.{row_at}
use Rattle.moved_set.proofs.build.masks_of.Given as goal

abbrev pub invariant-loop-i : goal.invariant-loop-i
invariant-loop-i l = record {
  masks : AreGroupsOf (row_at l.rows) l.i l.groups;
  within : All (AreWithin l.words) l.groups;
}
