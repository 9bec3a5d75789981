-- Lanes before, in and after a round over a store of mixes.
use Rattle.std.specs.Prelude.{ℕ, ◌≡◌, ◌≢◌, ◌<◌, List, length, Bool, true, false, IfSome}
use Rattle.std.specs.List.{All}
use Rattle.guarded_tell.specs.declared.kernel.Kernel.{Kernel}
use Rattle.guarded_tell.specs.Kernels.{IsKernel}
use Rattle.shared_lanes.specs.Cuts.{AllNamed, IsCut, share_at}
use Rattle.bit_domain.specs.Mixes.{Mix, IsMixInRange, IsInsideMix}
use Rattle.domain_drops.specs.Closed.{IsClosedMixUnder}
use Rattle.mix_store.specs.declared.seat.MixSeat.{MixSeat}
use Rattle.mix_store.specs.Seats.{seen_of, floor_of, IsSeatOf, IsSameSeat}
use Rattle.mix_rounds.specs.declared.cache.Cache.{Cache}
use Rattle.mix_rounds.specs.declared.dealt.Dealt.{Dealt}
use Rattle.mix_rounds.specs.Heard.{WasHeard}

-- the copies that a lane makes are of mixes of this length
pub record FitsLength (count : ℕ) (c : Cache) : Type 0 where
  pub mix : length c.mix ≡ count
  pub bounds : length c.bounds ≡ count

-- the floor is one that the kernel doesn't cut
pub record IsLawfulFloorFor (k : Kernel) (f : Mix) : Type 0 where
  pub in_range : IsMixInRange f
  pub closed : IsClosedMixUnder k f

-- nor any of the list
abbrev pub IsLawfulFloor : List Kernel → Mix → Type 0
IsLawfulFloor kernels f = All (λ k. IsLawfulFloorFor k f) kernels

-- a round may begin with this seat
pub record MayBegin (d : Dealt) (first : MixSeat) : Type 0 where
  pub of_store : IsSeatOf d.store.now first
  pub kernels_are : All (IsKernel (length (seen_of first))) d.kernels.now
  pub cut_is : IsCut (length d.kernels.now) d.cut.now
  pub held : IfSome (floor_of first) (IsLawfulFloor d.kernels.now)

-- a seat that a lane was given: it has seen what the first seat had
pub record IsGiven (d : Dealt) (first s : MixSeat) : Type 0 where
  pub begins : MayBegin d first
  pub of_store : IsSeatOf d.store.now s
  pub floor : floor_of s ≡ floor_of first
  pub seen : seen_of s ≡ seen_of first

-- with a seat lane i has run its share, and the mark says whether what the seat has seen moved
pub record HasRun (d : Dealt) (first : MixSeat) (i : ℕ) (s : MixSeat) (mark : Bool) : Type 0 where
  pub of_store : IsSeatOf d.store.now s
  pub inside : IsInsideMix (seen_of s) (seen_of first)
  pub still : mark ≡ false → seen_of s ≡ seen_of first
  pub moves : mark ≡ true → seen_of s ≢ seen_of first
  pub heard : AllNamed (WasHeard (seen_of first) (seen_of s)) (share_at d.cut.now i) d.kernels.now

-- so many lanes were taken back into the first seat, and the mark says whether one of them saw a number go
pub record AreTaken (d : Dealt) (first : MixSeat) (done : ℕ) (now : MixSeat) (mark : Bool) : Type 0 where
  pub begins : MayBegin d first
  pub same : IsSameSeat first now
  pub inside : IsInsideMix (seen_of now) (seen_of first)
  pub still : mark ≡ false → seen_of now ≡ seen_of first
  pub moves : mark ≡ true → seen_of now ≢ seen_of first
  pub heard : (i : ℕ) → i < done → AllNamed (WasHeard (seen_of first) (seen_of now)) (share_at d.cut.now i) d.kernels.now
