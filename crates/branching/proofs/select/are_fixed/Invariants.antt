use Rattle.std.proofs.Common.{ℕ, ◌<◌}
use Rattle.branching.specs.Selection.{IsFixed}
use Rattle.branching.proofs.select.are_fixed.Given as goal

-- the variables so far are fixed
abbrev pub invariant-loop-var : goal.invariant-loop-var
invariant-loop-var l = (v : ℕ) → v < l.var → IsFixed l.b v
