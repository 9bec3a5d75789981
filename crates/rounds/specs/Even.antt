-- Even cuts.
use Rattle.std.specs.Prelude.{ℕ, ◌≡◌, ◌<◌, ◌%◌, ◌↔◌, List, length, slice_index, slice_index_or, Vec}
use Rattle.std.specs.declared.alloc.Global.{Global}
use Rattle.std.specs.List.{Contains}
use Rattle.rounds.specs.Shares.{share_at}

-- the share lists, rising, exactly the numbers below `count` that leave this rest
pub record IsEvenShare (count lanes rest : ℕ) (share : List ℕ) : Type 0 where
  pub rising : (a b : ℕ) → a < b → b < length share → slice_index share a < slice_index share b
  pub exactly : (j : ℕ) → Contains share j ↔ ((j < count) × (j % lanes ≡ rest))

-- a share for each lane, with the numbers that leave the lane's number as rest
pub record AreEvenShares (count lanes : ℕ) (cut : List (Vec ℕ Global)) : Type 0 where
  pub length_is : length cut ≡ lanes
  pub each : (i : ℕ) → i < lanes → IsEvenShare count lanes i (share_at cut i)

-- the first numbers are dealt
pub record AreDealt (count lanes : ℕ) (shares : List (Vec ℕ Global)) : Type 0 where
  pub length_is : length shares ≡ lanes
  pub each : (i : ℕ) (d : Vec ℕ Global) → i < lanes → IsEvenShare count lanes i (slice_index_or shares i d).items
