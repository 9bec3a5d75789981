use Rattle.std.proofs.Common.{◌≡◌, ◌-◌, ◌≤◌, drop, length}
use Rattle.moved_fixpoint.specs.Heard.{GoesOn}
use Rattle.moved_fixpoint.specs.Sweeps.{sweep_forth}
use Rattle.moved_fixpoint.specs.Resting.{FitRests, KeepStacks}
use Rattle.moved_fixpoint.proofs.Rounding.{Stands}
use Rattle.moved_fixpoint.proofs.round.run_up.Given as goal

abbrev pub invariant-kernels : goal.invariant-kernels
invariant-kernels l = record {
  stack : l.b.stack ≡ l.initial.b.stack;
  within : l.place ≤ length l.kernels;
  fit : FitRests (length l.kernels) l.sets.rests;
  stacks : KeepStacks l.initial.sets.rests l.sets.rests;
  counted : l.visited ≤ l.place;
  going : GoesOn l.progress;
  stands : Stands l.kernels l.initial.b.current 0 l.place l.b.current l.sets.asked l.sets.rests l.progress;
  swept : sweep_forth l.kernels l.initial.b.current ≡ sweep_forth (drop l.place l.kernels) l.b.current;
}

abbrev pub decreases-kernels : goal.decreases-kernels
decreases-kernels l = length l.kernels - l.place
