-- What is found so far, with the variables that are left, gives the least of all.
use Rattle.std.proofs.Common.{◌≡◌, drop}
use Rattle.interval.specs.Boxes.{high_of, low_of}
use Rattle.extreme_tells.specs.Extremes.{least_with, least_over}
use Rattle.extreme_tells.proofs.minimum.reach_of.Given as goal

abbrev pub invariant-loop-i : goal.invariant-loop-i
invariant-loop-i l = record {
  high : least_with (high_of l.b) l.reach.high (drop l.i l.xs) ≡ least_over (high_of l.b) l.xs;
  low : least_with (low_of l.b) l.reach.low (drop l.i l.xs) ≡ least_over (low_of l.b) l.xs;
}
