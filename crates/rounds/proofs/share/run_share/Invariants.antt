use Rattle.std.proofs.Common.{◌≡◌, ◌+◌, ◌-◌, ◌^◌, ◌<◌, ℕ, false, length, min, get_or}
use Rattle.lattice_store.specs.Seats.{seen_of, IsPast}
use Rattle.rounds.specs.Shares.{WasHeard}
use Rattle.rounds.specs.Steps.{Stepped}
use Rattle.rounds.proofs.Quietness.{HoldsAt}
use Rattle.rounds.proofs.share.run_share.Given as goal

abbrev pub invariant-loop-j : goal.invariant-loop-j
invariant-loop-j g l = record {
  stepped : Stepped l.initial.seat false l.seat l.moved;
  length_is : length l.cache.snapshot ≡ length (seen_of l.initial.seat);
  lane : l.cache.lane ≡ l.initial.cache.lane;
  turn : l.cache.turn ≡ min (l.initial.cache.turn + l.j-index) (2 ^ 64 - 1);
  heard : (¬ IsPast l.seat) → (i : ℕ) → i < l.j-index → HoldsAt (WasHeard (seen_of l.initial.seat) (seen_of l.seat)) l.kernels (get_or l.share i 0);
}
