use Rattle.std.proofs.Common.{◌≡◌, length}
use Rattle.interval.specs.Boxes.{IsProper}
use Rattle.branching.specs.Fronts.{IsFrontOf}
use Rattle.search_tests.proofs.parts.steps.Given as goal

abbrev pub invariant-loop : goal.invariant-loop
invariant-loop l = record {
  pairs : length l.b ≡ 4;
  proper : IsProper l.b;
  front : IsFrontOf l.model l.b l.front;
}
