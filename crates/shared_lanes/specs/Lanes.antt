-- Lanes and their seats.
use Rattle.std.specs.Prelude.{ℕ, ◌≡◌, ◌<◌, List, length, slice_index_or, Option, None, Some}
use Rattle.shared_lanes.specs.declared.lane.Lane.{Lane}

-- there is a seat, and the fact holds of it
abbrev pub HasSeat : {S : Type 0} → Option S → (S → Type 0) → Type 0
HasSeat None fact = ⊥
HasSeat (Some s) fact = fact s

-- the lanes keep what they have of their own
pub record SameCaches {S C : Type 0} (before after : List (Lane S C)) : Type 0 where
  pub length_is : length after ≡ length before
  pub caches : (i : ℕ) (d : Lane S C) → i < length before →
      (slice_index_or after i d).cache ≡ (slice_index_or before i d).cache
