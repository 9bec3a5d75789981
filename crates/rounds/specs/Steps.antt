-- What the steps of a seat make of what it has seen.
use Rattle.std.specs.Prelude.{ℕ, ◌≡◌, ◌≢◌, ◌<◌, List, Bool, true, false, Option, IfSome, ◌⊎◌}
use Rattle.interval.specs.Limits.{IsBound}
use Rattle.interval.specs.Boxes.{Bounds, IsInside}
use Rattle.guarded_tell.specs.Words.{Tell}
use Rattle.guarded_tell.specs.Words.{Keeps, IsProperIn, AgreeIn}
use Rattle.lattice_store.specs.declared.seat.Seat.{Seat}
use Rattle.lattice_store.specs.Seats.{seen_of, IsPast, IsSameSeat}

-- A seat has stepped, and a mark notes whether what it has seen moved: the seat is the same, has seen no looser bound,
-- and the mark is newly set exactly where it has seen a tighter one
pub record Stepped (before : Seat) (mark_before : Bool) (after : Seat) (mark : Bool) : Type 0 where
  pub same : IsSameSeat before after
  pub inside : IsInside (seen_of after) (seen_of before)
  pub still : mark ≡ false → (mark_before ≡ false) × (seen_of after ≡ seen_of before)
  pub moves : mark ≡ true → (mark_before ≡ true) ⊎ (seen_of after ≢ seen_of before)

-- a copy of the bounds of these variables as the seat has seen them, each loaded at a moment of its own
pub record IsSnapshot (vars : List ℕ) (seen b : Bounds) : Type 0 where
  pub proper : IsProperIn vars b
  pub agree : AgreeIn vars b seen

-- a tell that a seat of this floor may make in a box of so many variables
pub record MayTell (count : ℕ) (floor : Option Bounds) (t : Tell) : Type 0 where
  pub variable : t.var < count
  pub bound : IsBound t.bound
  pub held : IfSome floor (λ f. Keeps f t)

-- a seat has made a tell: it has seen a bound as tight, unless it is past
pub record HasTold (before : Seat) (mark_before : Bool) (t : Tell) (after : Seat) (mark : Bool) : Type 0 where
  pub stepped : Stepped before mark_before after mark
  pub kept : (¬ IsPast after) → Keeps (seen_of after) t
