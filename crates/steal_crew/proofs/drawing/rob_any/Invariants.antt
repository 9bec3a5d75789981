use Rattle.std.proofs.Common.{◌≡◌, map, flat_map}
use Rattle.steal_crew.specs.Rights.{right_of, taken_by}
use Rattle.steal_crew.proofs.drawing.rob_any.Given as goal

abbrev pub invariant-loop-place : goal.invariant-loop-place
invariant-loop-place l = record {
  rights : map right_of l.others.items ≡ map right_of l.initial.others.items;
  taken : flat_map taken_by l.others.items ≡ flat_map taken_by l.initial.others.items;
}
