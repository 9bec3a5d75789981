-- What the steps of a seat make of what it has seen.
use Rattle.std.specs.Prelude.{ℕ, ℤ, pos, ◌≡◌, ◌≢◌, ◌<◌, ◌≤ℤ◌, List, Bool, true, false, Option, IfSome, ◌⊎◌}
use Rattle.interval.specs.Limits.{IsBound}
use Rattle.interval.specs.Boxes.{Bounds}
use Rattle.guarded_tell.specs.Words.{Tell, Side, Low, High, Keeps, IsProperIn, AgreeIn}
use Rattle.bit_domain.specs.Mixes.{Mix, dom_of, hull, Has, IsInsideMix}
use Rattle.bit_domain.specs.declared.dom.Dom.{Dom}
use Rattle.bit_domain.specs.declared.dom.Dom.TheVariants.{Bits, Pair}
use Rattle.mix_store.specs.Domains.{IsBitsAt, low_in, high_in}
use Rattle.mix_store.specs.declared.seat.MixSeat.{MixSeat}
use Rattle.mix_store.specs.Seats.{seen_of, IsSameSeat}
use Rattle.domain_drops.specs.Hearing.{Drop}
use Rattle.domain_drops.specs.Drops.{AgreeMixIn}

-- the bounds of a variable that is kept as a pair
abbrev pub low_bound_of : Mix → ℕ → ℤ
low_bound_of m v = low_in (dom_of m v)

abbrev pub high_bound_of : Mix → ℕ → ℤ
high_bound_of m v = high_in (dom_of m v)

-- the base of a domain that is kept as bits
abbrev pub base_in : Dom → ℤ
base_in (Bits base set) = base
base_in (Pair low high) = pos 0

-- A seat has stepped, and a mark notes whether what it has seen moved: the seat is the same, has seen no number more, and the
-- mark is newly set exactly where it has seen fewer
pub record Stepped (before : MixSeat) (mark_before : Bool) (after : MixSeat) (mark : Bool) : Type 0 where
  pub same : IsSameSeat before after
  pub inside : IsInsideMix (seen_of after) (seen_of before)
  pub still : mark ≡ false → (mark_before ≡ false) × (seen_of after ≡ seen_of before)
  pub moves : mark ≡ true → (mark_before ≡ true) ⊎ (seen_of after ≢ seen_of before)

-- A copy of the domains of these variables as the seat has seen them, each loaded at a moment of its own, and of their hull
pub record IsSnapshot (vars : List ℕ) (seen m : Mix) (b : Bounds) : Type 0 where
  pub proper : IsProperIn vars b
  pub agree : AgreeMixIn vars m seen
  pub bounds : AgreeIn vars b (hull m)

-- the number is on the side of the bound that a tell leaves
abbrev pub FitsSide : Side → ℤ → ℤ → Type 0
FitsSide Low bound z = bound ≤ℤ z
FitsSide High bound z = z ≤ℤ bound

-- the tell takes no number of the mix
abbrev pub KeepsNumbers : Mix → Tell → Type 0
KeepsNumbers m t = (z : ℤ) → Has (dom_of m t.var) z → FitsSide t.side t.bound z

-- the mix doesn't have the number that the drop names
abbrev pub IsGone : Mix → Drop → Type 0
IsGone m d = ¬ Has (dom_of m d.0) d.1

-- a tell that a seat of this floor may make in a mix of so many variables
pub record MayTell (count : ℕ) (floor : Option Mix) (t : Tell) : Type 0 where
  pub variable : t.var < count
  pub bound : IsBound t.bound
  pub held : IfSome floor (λ f. Keeps (hull f) t × KeepsNumbers f t)

-- a drop that a seat of this floor may make where it has seen this mix
pub record MayDrop (seen : Mix) (floor : Option Mix) (d : Drop) : Type 0 where
  pub variable : IsBitsAt seen d.0
  pub number : IsBound d.1
  pub held : IfSome floor (λ f. IsGone f d)

-- a seat has made a tell: it has seen no number that the tell takes
pub record HasTold (before : MixSeat) (mark_before : Bool) (t : Tell) (after : MixSeat) (mark : Bool) : Type 0 where
  pub stepped : Stepped before mark_before after mark
  pub kept : KeepsNumbers (seen_of after) t

-- a seat has made a drop: it has seen that the number is gone
pub record HasDropped (before : MixSeat) (mark_before : Bool) (d : Drop) (after : MixSeat) (mark : Bool) : Type 0 where
  pub stepped : Stepped before mark_before after mark
  pub gone : IsGone (seen_of after) d
