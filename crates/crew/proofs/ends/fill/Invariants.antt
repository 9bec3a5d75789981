use Rattle.std.proofs.Common.{◌≡◌, ◌++◌}
use Rattle.crew.specs.Slots.{HoldEnds}
use Rattle.crew.proofs.ends.fill.Given as goal

abbrev pub invariant-loop-number : goal.invariant-loop-number
invariant-loop-number g l = record {
  all : l.yielded ++ l.number-iterator.rest.items ≡ l.fn.runs.items;
  held : HoldEnds l.count l.yielded l.slots.items;
}
