use Rattle.std.proofs.Common.{◌*◌}
use Rattle.moved_set.specs.Parts.{own_keys_at}
use Rattle.moved_set.specs.Rows.{AreRowsTo}
use Rattle.moved_set.proofs.rows.own_rows.Given as goal

abbrev pub invariant-loop-j : goal.invariant-loop-j
invariant-loop-j l = AreRowsTo (own_keys_at l.kernels l.parts.lists.items l.parts.of_kernels.items) l.j (3 * l.count) l.rows.items
