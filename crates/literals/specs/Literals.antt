-- Literals: bounds of variables. A literal is a tell that a box meets, where its own bound is as tight.
use Rattle.std.specs.Prelude.{◌≡◌, ◌≢◌, ℕ, ℤ, pos, ◌+ℤ◌, ◌-ℤ◌, ◌≤ℤ◌, ◌<◌, List, length, slice_index_or}
use Rattle.std.specs.List.{All}
use Rattle.interval.specs.Limits.{IsBound}
use Rattle.interval.specs.Boxes.{Bounds}
use Rattle.tells.specs.declared.tell.Side.{Side}
use Rattle.tells.specs.declared.tell.Side.TheVariants.{Low, High}
use Rattle.tells.specs.declared.tell.Tell.{Tell}
use Rattle.tells.specs.Words.{Keeps}
use Rattle.literals.specs.declared.seen.Seen.{Seen}
use Rattle.literals.specs.declared.seen.Seen.TheVariants.{Met, AllBut, Open}

-- the box meets each of these literals
abbrev pub Meets : Bounds → List Tell → Type 0
Meets b literals = All (Keeps b) literals

-- it meets each but that at this place
abbrev pub MeetsBut : Bounds → List Tell → ℕ → Type 0
MeetsBut b literals place = (k : ℕ) (d : Tell) → k < length literals → k ≢ place → Keeps b (slice_index_or literals k d)

-- a literal is of a variable of a box of so many, and its bound is one
abbrev pub IsPlaced : ℕ → Tell → Type 0
IsPlaced count t = (t.var < count) × IsBound t.bound

-- the literal that a point meets exactly where it doesn't meet this one
abbrev pub opposite_at : Side → ℕ → ℤ → Tell
opposite_at Low v z = record { var = v; side = High; bound = z -ℤ pos 1 }
opposite_at High v z = record { var = v; side = Low; bound = z +ℤ pos 1 }

abbrev pub opposite : Tell → Tell
opposite t = opposite_at t.side t.var t.bound

-- the first bound is as tight as the second
abbrev pub IsTightAt : Side → ℤ → ℤ → Type 0
IsTightAt Low tight wide = wide ≤ℤ tight
IsTightAt High tight wide = tight ≤ℤ wide

-- the first literal is as tight as the second: whoever meets the first meets the second
pub record IsAsTight (t u : Tell) : Type 0 where
  pub same_var : t.var ≡ u.var
  pub same_side : t.side ≡ u.side
  pub tight : IsTightAt u.side t.bound u.bound

-- what is seen of literals on a box: all are met, or all but one; else nothing is said
abbrev pub IsSeen : List Tell → Bounds → Seen → Type 0
IsSeen literals b Met = Meets b literals
IsSeen literals b (AllBut place) = (place < length literals) × MeetsBut b literals place
IsSeen literals b Open = Unit {0}

-- whoever meets the literals after meets those before and this one
abbrev pub IsMore : List Tell → Tell → List Tell → Type 0
IsMore before t after = (b : Bounds) → Meets b after → Meets b before × Keeps b t

-- whoever meets the literals after and this one meets those before
abbrev pub IsLess : List Tell → Tell → List Tell → Type 0
IsLess before t after = (b : Bounds) → Meets b after → Keeps b t → Meets b before
