use Rattle.std.proofs.Common.{take}
use Rattle.branching.specs.Picks.{IsPick}
use Rattle.branching.proofs.select.pick.Given as goal

abbrev pub invariant-loop-place : goal.invariant-loop-place
invariant-loop-place l = IsPick l.selection l.b (take l.place l.vars) l.best
