use Rattle.std.proofs.Common.{length}
use Rattle.guarded_tell.specs.Kernels.{vars_of}
use Rattle.mix_store.specs.Seats.{seen_of, IsSeatOf}
use Rattle.mix_rounds.specs.Lanes.{FitsLength}
use Rattle.mix_rounds.specs.Steps.{Stepped}
use Rattle.mix_rounds.proofs.Snapshots.{Copied}
use Rattle.mix_rounds.proofs.asking.take_snapshot.Given as goal

abbrev pub invariant-loop-place : goal.invariant-loop-place
invariant-loop-place l = record {
  of_store : IsSeatOf l.store l.seat;
  fits : FitsLength (length (seen_of l.initial.seat)) l.cache;
  stepped : Stepped l.initial.seat l.initial.moved l.seat l.moved;
  copied : Copied (vars_of l.kernel) l.place (seen_of l.seat) l.cache.mix l.cache.bounds;
}
