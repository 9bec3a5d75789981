use Rattle.std.proofs.Common.{◌≡◌, ◌<◌, ℕ, map, true, false, slice_index_or}
use Rattle.steal_crew.specs.Rule.{IsAllTaken, IsSomeLeft}
use Rattle.steal_crew.specs.Hands.{standing_of, own_view, taken_of, drawn_of, is_done}
use Rattle.steal_crew.specs.declared.hand.Hand.{Hand}
use Rattle.steal_crew.proofs.settling.check_all.Given as goal

abbrev pub invariant-loop-place : goal.invariant-loop-place
invariant-loop-place l = record {
  standings : map standing_of l.hands.items ≡ map standing_of l.initial.hands.items;
  views : map own_view l.hands.items ≡ map own_view l.initial.hands.items;
  taken : map taken_of l.hands.items ≡ map taken_of l.initial.hands.items;
  drawn : map drawn_of l.hands.items ≡ map drawn_of l.initial.hands.items;
  done : (i : ℕ) (d : Hand) → is_done (slice_index_or l.hands.items i d) ≡ true → is_done (slice_index_or l.initial.hands.items i d) ≡ true;
  empty : (i : ℕ) (d : Hand) → i < l.place → is_done (slice_index_or l.hands.items i d) ≡ true → IsAllTaken (own_view (slice_index_or l.hands.items i d));
  some : (i : ℕ) (d : Hand) → is_done (slice_index_or l.initial.hands.items i d) ≡ true → is_done (slice_index_or l.hands.items i d) ≡ false → IsSomeLeft (own_view (slice_index_or l.hands.items i d));
}
