use Rattle.std.proofs.Common.{ℕ, ◌≡◌, ◌+◌, ◌*◌, ◌<◌, ◌≤◌, length}
use Rattle.std.specs.Prelude.{slice_index}
use Rattle.lattice_store.specs.Words.{word_of, codes_of}
use Rattle.lattice_store.proofs.make.words_of.Given as goal

abbrev pub invariant-loop-v : goal.invariant-loop-v
invariant-loop-v l = record {
  length_is : length l.words.items ≡ 2 * l.v + 1;
  each : (k : ℕ) → 1 ≤ k → k < length l.words.items → slice_index l.words.items k ≡ word_of l.epoch (slice_index (codes_of l.start) k);
}
