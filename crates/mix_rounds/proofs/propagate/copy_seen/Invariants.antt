use Rattle.std.proofs.Common.{◌≡◌, ◌<◌, ℕ, length}
use Rattle.bit_domain.specs.Mixes.{dom_of}
use Rattle.mix_store.specs.Seats.{seen_of}
use Rattle.mix_rounds.proofs.propagate.copy_seen.Given as goal

abbrev pub invariant-loop-v : goal.invariant-loop-v
invariant-loop-v l = record {
  same_length : length l.into ≡ length l.initial.into;
  copied : (w : ℕ) → w < l.v → dom_of l.into w ≡ dom_of (seen_of l.seat) w;
}
