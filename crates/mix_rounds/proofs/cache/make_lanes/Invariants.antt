use Rattle.std.proofs.Common.{◌≡◌, length}
use Rattle.std.specs.List.{All}
use Rattle.mix_rounds.specs.Lanes.{FitsLength}
use Rattle.mix_rounds.proofs.cache.make_lanes.Given as goal

abbrev pub invariant-loop-i : goal.invariant-loop-i
invariant-loop-i l = record {
  length_is : length l.lanes.items ≡ l.i;
  lengths : All (λ lane. FitsLength (length l.start) lane.cache) l.lanes.items;
}
