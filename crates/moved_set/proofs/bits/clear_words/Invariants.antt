use Rattle.std.proofs.Common.{◌≡◌, ◌<◌, ◌≤◌, ◌*◌, ◌-◌, ◌+◌, ◌/◌, ℕ, true, false, length, min, take, get_or}
use Rattle.moved_set.specs.Words.{has, names}
use Rattle.moved_set.proofs.bits.clear_words.Given as goal

abbrev pub invariant-loop-place : goal.invariant-loop-place
invariant-loop-place l = record {
  same : length l.words ≡ length l.initial.words;
  beyond : l.from ≤ l.place;
  kept : (j : ℕ) → has l.initial.words j ≡ false → has l.words j ≡ false;
  cleared : (j : ℕ) → l.from * 32 ≤ j → j < l.place * 32 → has l.words j ≡ false;
}
