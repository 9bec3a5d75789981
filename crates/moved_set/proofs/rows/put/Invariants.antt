use Rattle.std.proofs.Common.{◌≡◌, ℕ, List, length, take}
use Rattle.moved_set.specs.Rows.{AreRowsTo}
use Rattle.moved_set.proofs.RowLaws.{AreRowsWith}
use Rattle.moved_set.proofs.rows.put.Given as goal

abbrev pub invariant-loop-key : goal.invariant-loop-key
invariant-loop-key l = record {
  same_length : length l.rows.items ≡ length l.initial.rows.items;
  put : (keys : ℕ → List ℕ) (count : ℕ) → AreRowsTo keys l.j count l.initial.rows.items → AreRowsWith keys l.j (take l.key-index l.keys) count l.rows.items;
}
