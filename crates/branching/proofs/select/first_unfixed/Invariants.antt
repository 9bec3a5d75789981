use Rattle.std.proofs.Common.{take}
use Rattle.std.specs.List.{All}
use Rattle.branching.specs.Selection.{IsFixed}
use Rattle.branching.proofs.select.first_unfixed.Given as goal

abbrev pub invariant-loop-place : goal.invariant-loop-place
invariant-loop-place l = All (IsFixed l.b) (take l.place l.vars)
