-- What is found so far, with the variables that are left, gives the greatest of all.
use Rattle.std.proofs.Common.{◌≡◌, drop}
use Rattle.interval.specs.Boxes.{low_of, high_of}
use Rattle.extreme_tells.specs.Extremes.{greatest_with, greatest_over}
use Rattle.extreme_tells.proofs.maximum.reach_of.Given as goal

abbrev pub invariant-loop-i : goal.invariant-loop-i
invariant-loop-i l = record {
  low : greatest_with (low_of l.b) l.reach.low (drop l.i l.xs) ≡ greatest_over (low_of l.b) l.xs;
  high : greatest_with (high_of l.b) l.reach.high (drop l.i l.xs) ≡ greatest_over (high_of l.b) l.xs;
}
