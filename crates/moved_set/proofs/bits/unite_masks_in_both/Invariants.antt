use Rattle.std.proofs.Common.{◌≡◌, ◌||◌, ◌&&◌, ℕ, length, take}
use Rattle.moved_set.specs.Words.{has, names}
use Rattle.moved_set.proofs.bits.unite_masks_in_both.Given as goal

abbrev pub invariant-loop-mask : goal.invariant-loop-mask
invariant-loop-mask l = record {
  same : length l.words ≡ length l.initial.words;
  named : (j : ℕ) → has l.words j ≡ (has l.initial.words j || (names (take l.mask-index l.row) j && (has l.one j && has l.other j)));
}
