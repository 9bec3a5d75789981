use Rattle.std.proofs.Common.{◌<◌, ℕ}
use Rattle.fzn_print.specs.Reading.{IsPrinted}
use Rattle.fzn_print.proofs.unprinted.hidden.Given as goal

-- each variable so far is printed
abbrev pub invariant-loop-variable : goal.invariant-loop-variable
invariant-loop-variable l = (u : ℕ) → u < l.variable → IsPrinted l.model u
