use Rattle.std.proofs.Common.{length}
use Rattle.interval.specs.Boxes.{width_sum_of}
use Rattle.lattice_store.specs.Seats.{seen_of, IsSameSeat}
use Rattle.rounds.specs.Lanes.{AreLanes}
use Rattle.rounds.proofs.Ending.{Goes}
use Rattle.rounds.proofs.settling.settle.Given as goal

abbrev pub invariant-rounds : goal.invariant-rounds
invariant-rounds g l = record {
  same : IsSameSeat l.initial.first l.first;
  snapshots : AreLanes (length l.work.start.now) l.lanes;
  goes : Goes l.work.kernels.now l.work.round_limit l.work.start.now l.rounds (seen_of l.first);
}

abbrev pub decreases-rounds : goal.decreases-rounds
decreases-rounds g l = width_sum_of (seen_of l.first)
