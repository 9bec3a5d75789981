use Rattle.std.proofs.Common.{◌≡◌, ◌++◌, drop}
use Rattle.constraint_model.specs.Ranges.{ranges_on}
use Rattle.constraint_model.proofs.ranges.ranges_of_rising.Given as goal

-- the ranges so far, and those that the rest gives, are the ranges of all
abbrev pub invariant-loop-number : goal.invariant-loop-number
invariant-loop-number l = l.ranges ++ ranges_on l.low l.high (drop l.number-index l.rest) ≡ ranges_on l.initial.low l.initial.low l.rest
