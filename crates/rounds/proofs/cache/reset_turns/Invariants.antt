use Rattle.std.proofs.Common.{◌≡◌, ◌<◌, ℕ, length, get_or}
use Rattle.shared_lanes.specs.declared.lane.Lane.{Lane}
use Rattle.lattice_store.specs.declared.seat.Seat.{Seat}
use Rattle.rounds.specs.declared.cache.Cache.{Cache}
use Rattle.rounds.proofs.cache.reset_turns.Given as goal

abbrev pub invariant-loop-i : goal.invariant-loop-i
invariant-loop-i l = record {
  length_is : length l.lanes.items ≡ length l.initial.lanes.items;
  turns : (j : ℕ) (d : Lane Seat Cache) → j < l.i → (get_or l.lanes.items j d).cache.turn ≡ 0;
  same : (j : ℕ) (d : Lane Seat Cache) → length (get_or l.lanes.items j d).cache.snapshot ≡ length (get_or l.initial.lanes.items j d).cache.snapshot;
}
