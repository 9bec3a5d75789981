use Rattle.std.proofs.Common.{◌≡◌, ◌≢◌, ℕ, length, map}
use Rattle.steal_crew.specs.Hands.{AreWhole, standing_of, rights_at}
use Rattle.steal_crew.specs.Settling.{AreKept}
use Rattle.steal_crew.proofs.settling.give_back.Given as goal

abbrev pub invariant-passes : goal.invariant-passes
invariant-passes l = record {
  whole : AreWhole (map standing_of l.hands.items);
  kept : AreKept l.initial.hands.items l.hands.items;
  others : (i : ℕ) → i ≢ l.place → rights_at i l.hands.items ≡ rights_at i l.initial.hands.items;
}

abbrev pub decreases-passes : goal.decreases-passes
decreases-passes l = length (rights_at l.place l.hands.items)
