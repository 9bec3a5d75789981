use Rattle.std.proofs.Common.{ℕ, ◌≡◌, ◌<◌, ◌≤◌, length}
use Rattle.bit_domain.specs.Mixes.{dom_of}
use Rattle.mix_store.specs.Domains.{both_of}
use Rattle.mix_store.proofs.seats.keep_tighter.Given as goal

abbrev pub invariant-loop-v : goal.invariant-loop-v
invariant-loop-v l = record {
  length_is : length l.seen ≡ length l.initial.seen;
  below : (u : ℕ) → u < l.v → dom_of l.seen u ≡ both_of (dom_of l.initial.seen u) (dom_of l.other u);
  above : (u : ℕ) → l.v ≤ u → dom_of l.seen u ≡ dom_of l.initial.seen u;
}
