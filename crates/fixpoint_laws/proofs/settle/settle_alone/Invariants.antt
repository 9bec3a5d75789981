use Rattle.std.proofs.Common.{◌≡◌, length}
use Rattle.interval.specs.Boxes.{width_sum_of}
use Rattle.fixpoint_laws.proofs.Settling.{Goes}
use Rattle.fixpoint_laws.proofs.settle.settle_alone.Given as goal

abbrev pub invariant-rounds : goal.invariant-rounds
invariant-rounds l = record {
  spare_length : length l.spare ≡ length l.initial.b;
  goes : Goes l.kernels l.initial.b l.rounds l.b;
}

abbrev pub decreases-rounds : goal.decreases-rounds
decreases-rounds l = width_sum_of l.b
