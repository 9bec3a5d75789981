-- Propagation by one lane, as sweeps over all kernels: each is run once, in turn, on the box as it then is, forth in their
-- order and back by turns. What a sweep makes of a box is a function, and so is how propagation ends.
use Rattle.std.specs.Prelude.{◌≡◌, ◌≢◌, ◌≤◌, ◌⊎◌, ℕ, zero, suc, Bool, true, not, cond, List, [], ◌∷◌, Option, None, Some}
use Rattle.std.specs.List.{fold}
use Rattle.std.specs.Option.{option_and_then}
use Rattle.interval.specs.Boxes.{Bounds, IsCrossed, IsProper}
use Rattle.guarded_tell.specs.declared.kernel.Kernel.{Kernel}
use Rattle.guarded_tell.specs.Words.{Tell}
use Rattle.guarded_tell.specs.Kernels.{tells}
use Rattle.tell_laws.specs.Narrowing.{narrows}
use Rattle.fixpoint_laws.specs.Rounds.{told}
use Rattle.fixpoint_laws.specs.Greatest.{is_crossed_box}
use Rattle.fixpoint_laws.specs.declared.limited.Limited.{Limited}
use Rattle.fixpoint_laws.specs.declared.limited.Limited.TheVariants.{Fixed, Failed, RoundsSpent}

-- the box once a tell is joined: its bound in place of the box's own, where it is tighter
abbrev pub with_tell : Bounds → Tell → Bounds
with_tell b t = cond (narrows b t) (told b t) b

-- the box once tells are joined, one after the other
abbrev pub with_tells : Bounds → List Tell → Bounds
with_tells b ts = fold with_tell b ts

-- this box, or none where some variable has no number left
abbrev pub unless_crossed : Bounds → Option Bounds
unless_crossed b = cond (is_crossed_box b) None (Some b)

-- the box once a kernel was run on it, whose tells are those on the box before
abbrev pub after_kernel : Kernel → Bounds → Option Bounds
after_kernel k b = unless_crossed (with_tells b (tells k b))

-- a sweep forth: the first kernel is run first
unfoldable pub sweep_forth : List Kernel → Bounds → Option Bounds
sweep_forth [] b = Some b
sweep_forth (k ∷ ks) b = option_and_then (sweep_forth ks) (after_kernel k b)

-- a sweep back: the last kernel is run first
unfoldable pub sweep_back : List Kernel → Bounds → Option Bounds
sweep_back [] b = Some b
sweep_back (k ∷ ks) b = option_and_then (after_kernel k) (sweep_back ks b)

-- a sweep forth, or back
abbrev pub sweep_by : Bool → List Kernel → Bounds → Option Bounds
sweep_by forth kernels b = cond forth (sweep_forth kernels b) (sweep_back kernels b)

-- behind so many sweeps the next one goes forth: the first does, and then each goes the other way than the one before
unfoldable pub is_forth : ℕ → Bool
is_forth zero = true
is_forth (suc n) = not (is_forth n)

-- the sweep behind so many others
abbrev pub sweep : ℕ → List Kernel → Bounds → Option Bounds
sweep n kernels b = sweep_by (is_forth n) kernels b

-- so many sweeps, each of which moves the box, lead from a box to another
unfoldable pub SweepsLead : List Kernel → ℕ → Bounds → Bounds → Type 0
SweepsLead kernels zero a c = a ≡ c
SweepsLead kernels (suc n) a c = (b : Bounds) × SweepsLead kernels n a b × (sweep n kernels b ≡ Some c) × (b ≢ c)

-- how propagation by one lane ended: by a sweep that moved nothing; by one that left some variable no number, or by none where
-- the start was crossed; or behind sweeps each of which moved the box
abbrev pub HasSwept : List Kernel → Bounds → Bounds → Limited → Type 0
HasSwept kernels start after (Fixed rounds) =
    (n : ℕ) × (rounds ≡ suc n) × SweepsLead kernels n start after × (sweep n kernels after ≡ Some after)
HasSwept kernels start after (Failed rounds) =
    IsCrossed start ⊎ ((n : ℕ) × (last : Bounds) × (rounds ≡ suc n) × SweepsLead kernels n start last × (sweep n kernels last ≡ None))
HasSwept kernels start after (RoundsSpent rounds) = SweepsLead kernels rounds start after

-- as many sweeps as the limit each move the box and leave each variable some number
pub record SpendsSweeps (kernels : List Kernel) (limit : ℕ) (b : Bounds) : Type 0 where
  pub limited : limit ≢ 0
  pub into : Bounds
  pub lead : SweepsLead kernels limit b into

-- propagation by one lane that ended otherwise within the limit doesn't spend it
pub record SweepsDecide : Type 0 where
  pub fixed : (kernels : List Kernel) (limit rounds : ℕ) (start after : Bounds) → rounds ≤ limit →
      HasSwept kernels start after (Fixed rounds) → SpendsSweeps kernels limit start → ⊥
  pub failed : (kernels : List Kernel) (limit rounds : ℕ) (start after : Bounds) → IsProper start → rounds ≤ limit →
      HasSwept kernels start after (Failed rounds) → SpendsSweeps kernels limit start → ⊥
