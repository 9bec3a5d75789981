use Rattle.std.proofs.Common.{◌≡◌, length}
use Rattle.guarded_tell.specs.Kernels.{vars_of}
use Rattle.lattice_store.specs.Seats.{seen_of, IsSeatOf}
use Rattle.rounds.specs.Steps.{Stepped}
use Rattle.rounds.proofs.Snapshots.{Copied}
use Rattle.rounds.proofs.share.take_snapshot.Given as goal

abbrev pub invariant-loop-place : goal.invariant-loop-place
invariant-loop-place l = record {
  of_store : IsSeatOf l.store l.seat;
  length_is : length l.snapshot ≡ length (seen_of l.initial.seat);
  stepped : Stepped l.initial.seat l.initial.moved l.seat l.moved;
  copied : Copied (vars_of l.kernel) l.place (seen_of l.seat) l.snapshot;
}
