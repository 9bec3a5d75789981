use Rattle.std.proofs.Common.{◌≡◌, ℕ, length}
use Rattle.steal_crew.specs.Hands.{AreHandsOfOneDeal}
use Rattle.steal_tests.proofs.hands.assert_takes.Given as goal

abbrev pub invariant-loop-number : goal.invariant-loop-number
invariant-loop-number g l = record {
  long : length l.hands.items ≡ length l.initial.hands.items;
  deal : (n : ℕ) × AreHandsOfOneDeal n l.hands.items;
}
