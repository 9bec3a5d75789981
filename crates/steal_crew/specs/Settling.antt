-- Hands whose passes are given back.
use Rattle.std.specs.Prelude.{◌≡◌, ◌<◌, ℕ, true, false, List, map, flat_map, length, slice_index_or}
use Rattle.steal_crew.specs.declared.hand.Hand.{Hand}
use Rattle.steal_crew.specs.Numbers.{AreSameNumbers}
use Rattle.steal_crew.specs.Rule.{IsSomeLeft}
use Rattle.steal_crew.specs.Hands.{count_of, dealt_of, taken_of, drawn_of, is_done, own_view}

-- What stays while hands give passes back to each other: what each was dealt and what it gave, and what all have taken
pub record AreKept (before after : List Hand) : Type 0 where
  pub count : map count_of after ≡ map count_of before
  pub dealt : map dealt_of after ≡ map dealt_of before
  pub drawn : map drawn_of after ≡ map drawn_of before
  pub done : map is_done after ≡ map is_done before
  pub taken : AreSameNumbers (flat_map taken_of after) (flat_map taken_of before)

-- After a look at each deque, of which the hands have all passes back: a hand that wasn't done isn't, and one that was and isn't
-- any more is one of whose deque fewer numbers were taken than were dealt to it
pub record AreLookedAt (before after : List Hand) : Type 0 where
  pub still : (i : ℕ) (d : Hand) → i < length before → is_done (slice_index_or after i d) ≡ true → is_done (slice_index_or before i d) ≡ true
  pub left : (i : ℕ) (d : Hand) → i < length before → is_done (slice_index_or before i d) ≡ true → is_done (slice_index_or after i d) ≡ false
      → IsSomeLeft (own_view (slice_index_or after i d))
