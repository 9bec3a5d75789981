use Rattle.std.proofs.Common.{◌≡◌, map}
use Rattle.std.specs.List.{range_with_len}
use Rattle.tree_cover.specs.Covers.{part_at}
use Rattle.tree_cutter.proofs.depth.first_parts.Given as goal

abbrev pub invariant-loop-number : goal.invariant-loop-number
invariant-loop-number l = l.parts.items ≡ map (part_at l.depth) (range_with_len 0 l.number)
