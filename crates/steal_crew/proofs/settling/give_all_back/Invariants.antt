use Rattle.std.proofs.Common.{◌≡◌, ◌<◌, ℕ, [], map}
use Rattle.steal_crew.specs.Hands.{AreWhole, standing_of, rights_at}
use Rattle.steal_crew.specs.Settling.{AreKept}
use Rattle.steal_crew.proofs.settling.give_all_back.Given as goal

abbrev pub invariant-loop-place : goal.invariant-loop-place
invariant-loop-place l = record {
  whole : AreWhole (map standing_of l.hands.items);
  kept : AreKept l.initial.hands.items l.hands.items;
  given : (i : ℕ) → i < l.place → rights_at i l.hands.items ≡ [];
}
