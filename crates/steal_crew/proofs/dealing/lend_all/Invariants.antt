use Rattle.std.proofs.Common.{◌≡◌, ◌<◌, ◌≤◌, ℕ, [], map, length}
use Rattle.std.specs.List.{All}
use Rattle.steal_crew.specs.Hands.{standing_of, count_of, dealt_of, rights_at}
use Rattle.steal_crew.specs.Numbers.{numbers_below}
use Rattle.steal_crew.specs.Dealing.{IsUndrawn, AreBeingDealt, others_from}
use Rattle.steal_crew.proofs.dealing.lend_all.Given as goal

abbrev pub invariant-loop-robber : goal.invariant-loop-robber
invariant-loop-robber l = record {
  undrawn : All IsUndrawn l.hands.items;
  dealing : AreBeingDealt (map standing_of l.hands.items);
  count : map count_of l.hands.items ≡ map count_of l.initial.hands.items;
  dealt : map dealt_of l.hands.items ≡ map dealt_of l.initial.hands.items;
  rights : (i : ℕ) → i < l.robber → map (λ r. r.of) (rights_at i l.hands.items) ≡ others_from i (numbers_below (length l.initial.hands.items));
  none : (i : ℕ) → l.robber ≤ i → rights_at i l.hands.items ≡ [];
}
