use Rattle.std.proofs.Common.{[], ◌∷◌}
use Rattle.moved_set.specs.Parts.{part_at}
use Rattle.moved_set.specs.Rows.{AreRowsTo}
use Rattle.moved_set.proofs.rows.user_rows.Given as goal

abbrev pub invariant-loop-j : goal.invariant-loop-j
invariant-loop-j l = AreRowsTo (λ j. (part_at l.parts j).list ∷ []) l.j l.count l.rows.items
