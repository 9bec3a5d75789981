use Rattle.std.proofs.Common.{◌<◌, ◌≤ℤ◌, ℕ}
use Rattle.interval.specs.Boxes.{low_of, high_of}
use Rattle.lattice_store.specs.Seats.{seen_of}
use Rattle.rounds.proofs.settling.is_seen_crossed.Given as goal

abbrev pub invariant-loop-v : goal.invariant-loop-v
invariant-loop-v l = (w : ℕ) → w < l.v → low_of (seen_of l.seat) w ≤ℤ high_of (seen_of l.seat) w
