use Rattle.std.proofs.Common.{◌≡◌, ◌≤◌, ◌++◌, length, vec_capacity}
use Rattle.steal_crew.specs.Hands.{all_drawn}
use Rattle.steal_crew.proofs.gathering.join_lists.Given as goal

abbrev pub invariant-loop-hand : goal.invariant-loop-hand
invariant-loop-hand l = record {
  all : l.numbers.items ++ all_drawn l.hand-iterator.rest.items ≡ all_drawn l.fn.hands.items;
  room : length (all_drawn l.fn.hands.items) ≤ vec_capacity l.numbers;
}
