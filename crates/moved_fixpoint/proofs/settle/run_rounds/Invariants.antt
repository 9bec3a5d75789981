use Rattle.std.proofs.Common.{◌≡◌, length}
use Rattle.interval.specs.Boxes.{width_sum_of}
use Rattle.moved_fixpoint.specs.Sweeps.{is_forth}
use Rattle.moved_fixpoint.specs.Resting.{FitRests, KeepStacks}
use Rattle.moved_fixpoint.proofs.Settling.{Goes}
use Rattle.moved_fixpoint.proofs.settle.run_rounds.Given as goal

abbrev pub invariant-rounds : goal.invariant-rounds
invariant-rounds l = record {
  stack : l.b.stack ≡ l.initial.b.stack;
  fit : FitRests (length l.kernels) l.sets.rests;
  stacks : KeepStacks l.initial.sets.rests l.sets.rests;
  goes : Goes l.kernels l.round_limit l.initial.b.current l.rounds l.b.current l.sets.asked l.sets.rests;
  turn : l.up ≡ is_forth l.rounds;
}

abbrev pub decreases-rounds : goal.decreases-rounds
decreases-rounds l = width_sum_of l.b.current
