use Rattle.std.proofs.Common.{◌<◌, ℕ}
use Rattle.fzn_check.specs.Wrong.{IsInBounds}
use Rattle.fzn_check.proofs.checking.first_outside.Given as goal

-- each variable so far is within its bounds
abbrev pub invariant-loop-place : goal.invariant-loop-place
invariant-loop-place l = (u : ℕ) → u < l.place → IsInBounds l.vars l.solution u
