-- What becomes of the sets of kernels that rest when one kernel was visited, and which kernels heed that a variable moved.
use Rattle.std.specs.Prelude.{ℕ, true, false, ◌≡◌, ◌≢◌, ◌⊎◌, slice_set, slice_index_or}
use Rattle.interval.specs.Boxes.{Bounds}
use Rattle.guarded_tell.specs.declared.kernel.Kernel.{Kernel}
use Rattle.kernel_visits.specs.declared.resting.Rest.{Rest}
use Rattle.kernel_visits.specs.declared.resting.Rest.TheVariants.{Awake, UntilFixed, ForGood}
use Rattle.kernel_visits.specs.Rests.{IsFixedAt, IsEntailed, IsQuietUntilFixed}
use Rattle.moved_set.specs.Sets.{IsIn}
use Rattle.moved_fixpoint.specs.declared.rests.Rests.{Rests}

-- the kernel heeds that the variable moved: it is open, and it is alert or the variable is fixed
abbrev pub Heeds : Rests → Bounds → ℕ → ℕ → Type 0
Heeds rests b j v = IsIn rests.open.current j × (IsIn rests.alert.current j ⊎ IsFixedAt b v)

-- the kernel at a place is alert, or stays as it was, or isn't open from then on; whether it is alert stays then
abbrev pub IsNoted : ℕ → Rest → Rests → Rests → Type 0
IsNoted i Awake old new = (new.open.current ≡ old.open.current) × (new.alert.current ≡ slice_set old.alert.current i true)
IsNoted i UntilFixed old new = (new.open.current ≡ old.open.current) × (new.alert.current ≡ old.alert.current)
IsNoted i ForGood old new = (new.open.current ≡ slice_set old.open.current i false) × (new.alert.current ≡ old.alert.current)

-- the kernel at a place is open and alert then, or it rests on the box; the others are what they were
pub record HasRested (kernel : Kernel) (i : ℕ) (b : Bounds) (old new : Rests) : Type 0 where
  pub open_others : (j : ℕ) → j ≢ i → slice_index_or new.open.current j false ≡ slice_index_or old.open.current j false
  pub alert_others : (j : ℕ) → j ≢ i → slice_index_or new.alert.current j false ≡ slice_index_or old.alert.current j false
  pub entailed : (IsIn new.open.current i → ⊥) → (IsIn old.open.current i → ⊥) ⊎ IsEntailed kernel b
  pub dormant : (IsIn new.alert.current i → ⊥) → IsQuietUntilFixed kernel b
