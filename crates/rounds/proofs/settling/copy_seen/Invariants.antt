use Rattle.std.proofs.Common.{◌≡◌, ◌<◌, ℕ, length}
use Rattle.lattice_store.specs.Seats.{seen_of}
use Rattle.rounds.proofs.Snapshots.{SameAt}
use Rattle.rounds.proofs.settling.copy_seen.Given as goal

abbrev pub invariant-loop-v : goal.invariant-loop-v
invariant-loop-v l = record {
  same_length : length l.into ≡ length l.initial.into;
  copied : (w : ℕ) → w < l.v → SameAt l.into (seen_of l.seat) w;
}
