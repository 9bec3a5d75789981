-- What contracts say of stores and seats.
use Rattle.std.specs.Prelude.{ℕ, ◌≡◌, ◌≤◌, [], ◌∷◌, slice_index, slice_set, true, false, Option, IfSome}
use Rattle.std.specs.Int.{int_max, int_min}
use Rattle.interval.specs.Boxes.{Bounds, IsInside}
use Rattle.lattice_store.specs.Words.{box_of}
use Rattle.lattice_store.specs.declared.seat.Seat.{Seat}
use Rattle.lattice_store.specs.declared.store.Store.{Store}

-- the tightest bounds that the seat has seen at its epoch
abbrev pub seen_of : Seat → Bounds
seen_of s = box_of s.seen.items

-- The box that no tell of the seat's epoch may cut, or none. It is named for contracts alone
abbrev pub floor_of : Seat → Option Bounds
floor_of s = s.place.me.0.floor

-- the epoch whose bounds the seat asks and tells
abbrev pub seat_epoch : Seat → ℕ
seat_epoch s = s.epoch

-- the store's first seat, which alone opens epochs and closes
abbrev pub IsFirst : Seat → Type 0
IsFirst s = s.place.me.0.first ≡ true

-- The seat has seen a word of a later epoch. From then on it sees nothing new
abbrev pub IsPast : Seat → Type 0
IsPast s = s.past ≡ true

abbrev pub IsSeatOf : Store → Seat → Type 0
IsSeatOf store s = s.place.table_id ≡ store.table.shared.table_id

abbrev pub IsSameStore : Store → Store → Type 0
IsSameStore a b = a.table.shared.table_id ≡ b.table.shared.table_id

-- The seat stays the same one, whatever more it has seen
pub record IsSameSeat (before after : Seat) : Type 0 where
  pub store : after.place.table_id ≡ before.place.table_id
  pub epoch : seat_epoch after ≡ seat_epoch before
  pub floor : floor_of after ≡ floor_of before
  pub first : after.place.me.0.first ≡ before.place.me.0.first
  pub past : IsPast before → IsPast after

-- Another seat of the same store, which has seen the same and isn't the first
pub record IsCopyOf (one copy : Seat) : Type 0 where
  pub store : copy.place.table_id ≡ one.place.table_id
  pub epoch : seat_epoch copy ≡ seat_epoch one
  pub floor : floor_of copy ≡ floor_of one
  pub first : copy.place.me.0.first ≡ false
  pub past : copy.past ≡ one.past
  pub seen : seen_of copy ≡ seen_of one

-- a box that may be named as the floor where the epoch starts from this box, or none
abbrev pub IsFloorIn : Option Bounds → Bounds → Type 0
IsFloorIn floor start = IfSome floor (λ f. IsInside f start)

-- for each variable the tighter of two lower and of two upper bounds
abbrev pub tighter_of : Bounds → Bounds → Bounds
tighter_of [] c = []
tighter_of (p ∷ b) [] = p ∷ b
tighter_of (p ∷ b) (q ∷ c) = (int_max p.0 q.0, int_min p.1 q.1) ∷ tighter_of b c

-- a seat that was just made from this box
pub record IsStart (store : Store) (s : Seat) (start : Bounds) (epoch : ℕ) (floor : Option Bounds) : Type 0 where
  pub store_is : IsSeatOf store s
  pub seen : seen_of s ≡ start
  pub epoch_is : seat_epoch s ≡ epoch
  pub floor_is : floor_of s ≡ floor
  pub first : IsFirst s

-- A step on the word k: the seat has seen it, or nothing new
pub record Moved (before after : Seat) (k : ℕ) : Type 0 where
  pub same : IsSameSeat before after
  pub seen : after.seen.items ≡ slice_set before.seen.items k (slice_index after.seen.items k)
  pub grows : slice_index before.seen.items k ≤ slice_index after.seen.items k
  pub frozen : IsPast after → after.seen.items ≡ before.seen.items
