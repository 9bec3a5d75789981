use Rattle.std.proofs.Common.{◌≡◌, ◌≤◌, ◌+◌, drop, length, Some}
use Rattle.moved_fixpoint.specs.Heard.{GoesOn}
use Rattle.moved_fixpoint.specs.Sweeps.{sweep_back}
use Rattle.moved_fixpoint.specs.Resting.{FitRests, KeepStacks}
use Rattle.moved_fixpoint.proofs.Rounding.{Stands}
use Rattle.moved_fixpoint.proofs.round.run_down.Given as goal

abbrev pub invariant-kernels : goal.invariant-kernels
invariant-kernels l = record {
  stack : l.b.stack ≡ l.initial.b.stack;
  within : l.left ≤ length l.kernels;
  fit : FitRests (length l.kernels) l.sets.rests;
  stacks : KeepStacks l.initial.sets.rests l.sets.rests;
  counted : l.visited + l.left ≤ length l.kernels;
  going : GoesOn l.progress;
  stands : Stands l.kernels l.initial.b.current l.left (length l.kernels) l.b.current l.sets.asked l.sets.rests l.progress;
  swept : sweep_back (drop l.left l.kernels) l.initial.b.current ≡ Some l.b.current;
}

abbrev pub decreases-kernels : goal.decreases-kernels
decreases-kernels l = l.left
