use Rattle.std.proofs.Common.{◌≡◌, ◌<◌, ◌≤◌, ◌*◌, ◌-◌, ◌+◌, ◌/◌, ℕ, true, false, length, min, take, get_or}
use Rattle.moved_set.specs.Words.{has, names}
use Rattle.moved_set.proofs.bits.first_word.Given as goal

abbrev pub invariant-loop-place : goal.invariant-loop-place
invariant-loop-place l = record {
  beyond : l.from ≤ l.place;
  passed : (j : ℕ) → l.from * 32 ≤ j → j < l.place * 32 → has l.words j ≡ false;
}
