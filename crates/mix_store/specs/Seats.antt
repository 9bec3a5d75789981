-- What contracts say of stores and seats.
use Rattle.std.specs.Prelude.{ℕ, ◌≡◌, length, Option, IfSome}
use Rattle.bit_domain.specs.Mixes.{Mix, IsInsideMix}
use Rattle.mix_store.specs.Domains.{IsBitsAt, IsPairAt, AreAlike}
use Rattle.mix_store.specs.declared.seat.MixSeat.{MixSeat}
use Rattle.mix_store.specs.declared.store.MixStore.{MixStore}

-- what the seat has seen
abbrev pub seen_of : MixSeat → Mix
seen_of s = s.seen

-- The mix that no tell may cut, or none. It is named for contracts alone
abbrev pub floor_of : MixSeat → Option Mix
floor_of s = s.place.me.0.floor

-- a seat of the store, which has seen a mix like the one that the store was made of
pub record IsSeatOf (store : MixStore) (s : MixSeat) : Type 0 where
  pub table : s.place.table_id ≡ store.table.shared.table_id
  pub alike : AreAlike (seen_of s) store.table.shared.key

-- The seat stays the same one, whatever more it has seen
pub record IsSameSeat (before after : MixSeat) : Type 0 where
  pub store : (m : MixStore) → IsSeatOf m before → IsSeatOf m after
  pub floor : floor_of after ≡ floor_of before
  -- each variable is kept as it was
  pub same_length : length (seen_of after) ≡ length (seen_of before)
  pub bits : (v : ℕ) → IsBitsAt (seen_of before) v → IsBitsAt (seen_of after) v
  pub pairs : (v : ℕ) → IsPairAt (seen_of before) v → IsPairAt (seen_of after) v

-- Another seat of the same stores, which has seen the same
pub record IsCopyOf (one copy : MixSeat) : Type 0 where
  pub store : (m : MixStore) → IsSeatOf m one → IsSeatOf m copy
  pub floor : floor_of copy ≡ floor_of one
  pub seen : seen_of copy ≡ seen_of one

-- a mix that may be named as the floor of a store that is made of this one, or none
abbrev pub IsFloorIn : Option Mix → Mix → Type 0
IsFloorIn floor start = IfSome floor (λ f. IsInsideMix f start)

-- a store and its one seat, made of this mix
pub record IsStart (store : MixStore) (s : MixSeat) (start : Mix) (floor : Option Mix) : Type 0 where
  pub store_is : IsSeatOf store s
  pub seen : seen_of s ≡ start
  pub floor_is : floor_of s ≡ floor
