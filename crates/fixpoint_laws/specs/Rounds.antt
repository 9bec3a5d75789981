-- What one kernel or one round of kernels does to a box, and how propagation ends.
use Rattle.std.specs.Prelude.{ℕ, ℤ, List, ◌≡◌, ◌<ℤ◌, Bool, true}
use Rattle.interval.specs.Boxes.{Bounds, low_of, high_of, put_of, IsInside, IsProper}
use Rattle.guarded_tell.specs.declared.kernel.Kernel.{Kernel}
use Rattle.guarded_tell.specs.Words.{Tell}
use Rattle.guarded_tell.specs.Words.{Side}
use Rattle.guarded_tell.specs.Words.{Low, High}
use Rattle.guarded_tell.specs.Words.{Keeps}
use Rattle.guarded_tell.specs.Kernels.{IsClosedUnder}
use Rattle.fixpoint_laws.specs.declared.settle.Settled.{Settled}
use Rattle.fixpoint_laws.specs.declared.settle.Settled.TheVariants.{Fixed, Failed}
use Rattle.fixpoint_laws.specs.Fixpoints.{IsClosed}

-- p holds of the rounds, if the answer is Fixed
abbrev pub IfFixed : Settled → (ℕ → Type 0) → Type 0
IfFixed (Fixed rounds) p = p rounds
IfFixed (Failed rounds) p = Unit {0}

-- p holds of the rounds, if the answer is Failed
abbrev pub IfFailed : Settled → (ℕ → Type 0) → Type 0
IfFailed (Fixed rounds) p = Unit {0}
IfFailed (Failed rounds) p = p rounds

-- how many rounds were run
abbrev pub rounds_of : Settled → ℕ
rounds_of (Fixed rounds) = rounds
rounds_of (Failed rounds) = rounds

-- the bound of the tell is tighter than that of the box
abbrev pub NarrowsSide : Bounds → Side → ℕ → ℤ → Type 0
NarrowsSide b Low v bound = low_of b v <ℤ bound
NarrowsSide b High v bound = bound <ℤ high_of b v

abbrev pub Narrows : Bounds → Tell → Type 0
Narrows b t = NarrowsSide b t.side t.var t.bound

-- the box with the bound of the tell in place of its own
abbrev pub told_side : Bounds → Side → ℕ → ℤ → Bounds
told_side b Low v bound = put_of b v bound (high_of b v)
told_side b High v bound = put_of b v (low_of b v) bound

abbrev pub told : Bounds → Tell → Bounds
told b t = told_side b t.side t.var t.bound

-- a box joins a tell, and notes whether that moved it
pub record IsJoined (before : Bounds) (moved_before : Bool) (t : Tell) (after : Bounds) (moved : Bool) : Type 0 where
  pub kept : Keeps before t → (after ≡ before) × (moved ≡ moved_before)
  pub narrowed : Narrows before t → (after ≡ told before t) × (moved ≡ true)

-- a kernel was run on a box: no closed box was lost
pub record HasRun (kernel : Kernel) (before after : Bounds) : Type 0 where
  pub inside : IsInside after before
  pub keeps_closed : (c : Bounds) → IsProper c → IsClosedUnder kernel c → IsInside c before → IsInside c after

-- kernels were run on a box, one after another
pub record HaveRun (kernels : List Kernel) (before after : Bounds) : Type 0 where
  pub inside : IsInside after before
  pub keeps_closed : (c : Bounds) → IsClosed c kernels → IsInside c before → IsInside c after
