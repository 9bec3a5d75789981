-- The sum so far and the widths that are left are the whole sum.
use Rattle.std.proofs.Common.{◌≡◌, ◌+◌, drop}
use Rattle.interval.specs.Boxes.{width_sum_of}
use Rattle.interval.proofs.boxes.sum_of_widths.Given as goal

abbrev pub invariant-loop-pair : goal.invariant-loop-pair
invariant-loop-pair l = l.sum + width_sum_of (drop l.pair-index l.pairs) ≡ width_sum_of l.pairs
