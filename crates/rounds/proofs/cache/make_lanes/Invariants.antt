use Rattle.std.proofs.Common.{◌≡◌, length}
use Rattle.rounds.specs.Lanes.{AreLanes}
use Rattle.rounds.proofs.cache.make_lanes.Given as goal

abbrev pub invariant-loop-i : goal.invariant-loop-i
invariant-loop-i l = record {
  length_is : length l.lanes.items ≡ l.i;
  lanes : AreLanes (length l.start) l.lanes.items;
}
