use Rattle.std.proofs.Common.{ℕ, ◌≡◌, ◌+◌, ◌*◌, ◌<◌, length}
use Rattle.std.specs.Prelude.{slice_index}
use Rattle.std.specs.Mem.Slots.{slots_items}
use Rattle.interval.specs.Boxes.{low_of, high_of}
use Rattle.lattice_store.specs.Words.{code_of, low_value, high_value}
use Rattle.lattice_store.proofs.store.Store.close.Given as goal

abbrev pub invariant-loop-v : goal.invariant-loop-v
invariant-loop-v l = record {
  length_is : length l.into ≡ length l.initial.into;
  bounds : (u : ℕ) → u < l.v → (low_of l.into u ≡ low_value (code_of (slice_index (slots_items l.closed.words) (2 * u + 1)))) × (high_of l.into u ≡ high_value (code_of (slice_index (slots_items l.closed.words) (2 * u + 2))));
}
