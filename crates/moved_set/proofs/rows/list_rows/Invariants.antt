use Rattle.moved_set.specs.Parts.{list_at}
use Rattle.moved_set.specs.Rows.{AreRowsTo}
use Rattle.moved_set.proofs.rows.list_rows.Given as goal

abbrev pub invariant-loop-l : goal.invariant-loop-l
invariant-loop-l l = AreRowsTo (list_at l.lists) l.l l.count l.rows.items
