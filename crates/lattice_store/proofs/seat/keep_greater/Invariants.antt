use Rattle.std.proofs.Common.{◌≡◌, ◌<◌, ◌≤◌, ℕ, length, max}
use Rattle.std.specs.Prelude.{slice_index}
use Rattle.lattice_store.proofs.seat.keep_greater.Given as goal

abbrev pub invariant-loop-k : goal.invariant-loop-k
invariant-loop-k l = record {
  length_is : length l.seen.items ≡ length l.initial.seen.items;
  below : (i : ℕ) → i < l.k → slice_index l.seen.items i ≡ max (slice_index l.initial.seen.items i) (slice_index l.other.items i);
  above : (i : ℕ) → l.k ≤ i → slice_index l.seen.items i ≡ slice_index l.initial.seen.items i;
}
