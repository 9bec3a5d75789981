-- Lanes before, in and after a round over a store.
use Rattle.std.specs.Prelude.{ℕ, ◌≡◌, ◌≢◌, ◌<◌, List, length, Bool, true, false, IfSome}
use Rattle.std.specs.List.{All}
use Rattle.interval.specs.Boxes.{IsInside}
use Rattle.guarded_tell.specs.Kernels.{IsKernel, IsClosedUnder}
use Rattle.shared_lanes.specs.declared.lane.Lane.{Lane}
use Rattle.lattice_store.specs.declared.seat.Seat.{Seat}
use Rattle.lattice_store.specs.declared.store.Store.{Store}
use Rattle.lattice_store.specs.Seats.{seen_of, floor_of, seat_epoch, IsFirst, IsPast, IsSeatOf, IsSameSeat}
use Rattle.rounds.specs.declared.cache.Cache.{Cache}
use Rattle.rounds.specs.declared.dealt.Dealt.{Dealt}
use Rattle.rounds.specs.Shares.{AllNamed, WasHeard, IsCut, share_at}

-- the copies that the lanes make are of boxes of this length
abbrev pub AreLanes : ℕ → List (Lane Seat Cache) → Type 0
AreLanes count lanes = All (λ l. length l.cache.snapshot ≡ count) lanes

-- no lane has passed a gate yet
abbrev pub HaveMadeNoPass : List (Lane Seat Cache) → Type 0
HaveMadeNoPass lanes = All (λ l. l.cache.turn ≡ 0) lanes

-- a round may begin with this seat
pub record MayBegin (d : Dealt) (first : Seat) : Type 0 where
  pub of_store : IsSeatOf d.store.now first
  pub is_first : IsFirst first
  pub kernels_are : All (IsKernel (length (seen_of first))) d.kernels.now
  pub cut_is : IsCut (length d.kernels.now) d.cut.now
  pub held : IfSome (floor_of first) (λ f. All (λ k. IsClosedUnder k f) d.kernels.now)

-- a seat that a lane was given: it has seen what the first seat had
pub record IsLaneSeat (store : Store) (first s : Seat) : Type 0 where
  pub of_store : IsSeatOf store s
  pub epoch : seat_epoch s ≡ seat_epoch first
  pub floor : floor_of s ≡ floor_of first
  pub not_first : ¬ IsFirst s
  pub seen : seen_of s ≡ seen_of first

pub record IsGiven (d : Dealt) (first s : Seat) : Type 0 where
  pub begins : MayBegin d first
  pub seat : IsLaneSeat d.store.now first s

-- with a seat lane i has run its share, and the mark says whether what the seat has seen moved
pub record HasRun (d : Dealt) (first : Seat) (i : ℕ) (s : Seat) (mark : Bool) : Type 0 where
  pub of_store : IsSeatOf d.store.now s
  pub epoch : seat_epoch s ≡ seat_epoch first
  pub not_first : ¬ IsFirst s
  pub inside : IsInside (seen_of s) (seen_of first)
  pub still : mark ≡ false → seen_of s ≡ seen_of first
  pub moves : mark ≡ true → seen_of s ≢ seen_of first
  pub heard : (¬ IsPast s) → AllNamed (WasHeard (seen_of first) (seen_of s)) (share_at d.cut.now i) d.kernels.now

-- so many lanes were taken back into the first seat, and the mark says whether one of them saw a bound move
pub record AreTaken (d : Dealt) (first : Seat) (done : ℕ) (now : Seat) (mark : Bool) : Type 0 where
  pub begins : MayBegin d first
  pub same : IsSameSeat first now
  pub inside : IsInside (seen_of now) (seen_of first)
  pub still : mark ≡ false → seen_of now ≡ seen_of first
  pub moves : mark ≡ true → seen_of now ≢ seen_of first
  pub heard : (i : ℕ) → i < done → AllNamed (WasHeard (seen_of first) (seen_of now)) (share_at d.cut.now i) d.kernels.now
