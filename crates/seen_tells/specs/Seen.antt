-- What a kernel's shape says of a visit.
use Rattle.std.specs.Prelude.{◌≡◌, ◌⊎◌, ℕ, ℤ, pos, ◌+ℤ◌, ◌-ℤ◌, ◌<ℤ◌, List, [], ◌∷◌}
use Rattle.std.specs.Bool.{OnTrue}
use Rattle.interval.specs.Limits.{IsBound}
use Rattle.interval.specs.Boxes.{Bounds, low_of, high_of, IsInside}
use Rattle.guarded_tell.specs.Words.{Tell, Side, Low, High, Keeps, IsProperIn}
use Rattle.guarded_tell.specs.Kernels.{vars_of, IsClosedUnder}
use Rattle.guarded_tell.specs.declared.kernel.Kernel.{Kernel}
use Rattle.seen_tells.specs.declared.seen.Seen.{Seen}
use Rattle.seen_tells.specs.declared.seen.Sole.{Sole}
use Rattle.seen_tells.specs.declared.seen.Seen.TheVariants.{Quiet, One, Two, Unseen}
use Rattle.kernel_visits.specs.Narrowing.{narrowing_tells}
use Rattle.kernel_visits.specs.Rests.{IsQuietFor}

-- a bound that leaves variable v no number in the box
abbrev pub SideLeavesNone : Bounds → Side → ℕ → ℤ → Type 0
SideLeavesNone b Low v z = high_of b v <ℤ z
SideLeavesNone b High v z = z <ℤ low_of b v

-- a tell that leaves its variable no number in the box
abbrev pub LeavesNone : Bounds → Tell → Type 0
LeavesNone b t = SideLeavesNone b t.side t.var t.bound

-- this is the first of the kernel's tells that narrow the box, and it leaves its variable no number
pub record IsFailedBy (k : Kernel) (b : Bounds) (t : Tell) : Type 0 where
  pub others : List Tell
  pub first : narrowing_tells k b ≡ t ∷ others
  pub none : LeavesNone b t

-- the kernel narrows no box inside this one that keeps the tell and is proper in the kernel's variables
abbrev pub IsEntailedBy : Tell → Kernel → Bounds → Type 0
IsEntailedBy t k b = (c : Bounds) → IsInside c b → IsProperIn (vars_of k) c → Keeps c t → IsClosedUnder k c

-- this is the one tell of the kernel that narrows the box; and where it is the last, the kernel narrows no box inside this one
-- that keeps the tell and is proper in the kernel's variables
pub record IsSole (k : Kernel) (b : Bounds) (s : Sole) : Type 0 where
  pub one : narrowing_tells k b ≡ s.tell ∷ []
  pub last : OnTrue s.is_last (IsEntailedBy s.tell k b)

-- the kernel narrows nothing of the box and rests so long; or exactly this tell of it narrows the box, or exactly these two, in
-- this order, which may be on one variable; or nothing is said
abbrev pub IsSeen : Kernel → Bounds → Seen → Type 0
IsSeen k b (Quiet r) = IsQuietFor k b r
IsSeen k b (One t) = narrowing_tells k b ≡ t ∷ []
IsSeen k b (Two t u) = narrowing_tells k b ≡ t ∷ u ∷ []
IsSeen k b Unseen = Unit {0}

-- the number is the low or the high of variable v, and the tell moves that bound by one
abbrev pub MovesOff : Bounds → ℕ → ℤ → Tell → Type 0
MovesOff b v z t =
    ((low_of b v ≡ z) × (t ≡ record { var = v; side = Low; bound = low_of b v +ℤ pos 1 }))
    ⊎ ((high_of b v ≡ z) × (t ≡ record { var = v; side = High; bound = high_of b v -ℤ pos 1 }))

-- the bounds of variable v are in the range, the number is one of them, and the tell moves that bound by one
pub record LeavesOut (b : Bounds) (v : ℕ) (z : ℤ) (t : Tell) : Type 0 where
  pub low_in_range : IsBound (low_of b v)
  pub high_in_range : IsBound (high_of b v)
  pub moves : MovesOff b v z t
