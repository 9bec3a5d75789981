-- What contracts say of seats.
use Rattle.std.specs.Prelude.{ℕ, ℤ, pos, ◌≡◌, ◌≤◌, ◌≤ℤ◌, ◌<ℤ◌, List, ◌∷◌, map}
use Rattle.best_bound.specs.Lists.{Among}
use Rattle.best_bound.specs.Codes.{cost_of}
use Rattle.best_bound.specs.declared.object.Best.{Best}
use Rattle.best_bound.specs.declared.object.Found.{Found}
use Rattle.best_bound.specs.declared.seat.BestSeat.{BestSeat}
use Rattle.best_bound.specs.declared.seat.FoundSeat.{FoundSeat}

-- a seat of this very object
abbrev pub IsBestSeatOf : {C : Type 0} → Best C → BestSeat → Type 0
IsBestSeatOf best s = s.place.table_id ≡ best.table.shared.table_id

abbrev pub IsFoundSeatOf : {N : Type 0} → Found N → FoundSeat → Type 0
IsFoundSeatOf found s = s.place.table_id ≡ found.table.shared.table_id

-- The seat's share of the 1024 parts that all seats of its object have together
abbrev pub best_parts : BestSeat → ℕ
best_parts s = s.place.me.0.parts

abbrev pub found_parts : FoundSeat → ℕ
found_parts s = s.place.me.0.parts

-- the costs that the seat has seen
abbrev pub costs_seen : BestSeat → List ℤ
costs_seen s = map cost_of s.place.me.0.seen

-- the costs that the seat, or a seat joined into it, has posted
abbrev pub costs_posted : BestSeat → List ℤ
costs_posted s = map cost_of s.place.me.0.posts

-- the numbers that the seat has seen
abbrev pub numbers_seen : FoundSeat → List ℕ
numbers_seen s = s.place.me.0.seen

-- the numbers that the seat, or a seat joined into it, has posted
abbrev pub numbers_posted : FoundSeat → List ℕ
numbers_posted s = s.place.me.0.posts

-- What a seat has seen after its post of a cost: one cost more, at or below the posted one and all seen before
pub record IsSeenAfterPost (before after : List ℤ) (cost : ℤ) : Type 0 where
  pub least : ℤ
  pub seen : after ≡ least ∷ before
  pub at_most : least ≤ℤ cost
  pub not_above : (c : ℤ) → Among before c → least ≤ℤ c

-- the same for numbers
pub record IsNumberSeenAfterPost (before after : List ℕ) (number : ℕ) : Type 0 where
  pub least : ℕ
  pub seen : after ≡ least ∷ before
  pub at_most : least ≤ number
  pub not_above : (n : ℕ) → Among before n → least ≤ n

-- a cost whose word isn't that of no value
abbrev pub IsCostInRange : ℤ → Type 0
IsCostInRange cost = cost <ℤ pos 9223372036854775807
