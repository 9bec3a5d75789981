use Rattle.std.proofs.Common.{ℕ, List}
use Rattle.moved_set.specs.Rows.{AreRowsTo}
use Rattle.moved_set.proofs.rows.empty_rows.Given as goal

abbrev pub invariant-loop-made : goal.invariant-loop-made
invariant-loop-made l = (keys : ℕ → List ℕ) → AreRowsTo keys 0 l.made l.rows.items
