-- Kernels that aren't asked are quiet: what propagation that passes them over rests on.
use Rattle.std.specs.Prelude.{ℕ, pos, int_le, Bool, cond, List, length, ◌≡◌, ◌<◌, slice_index_or}
use Rattle.std.specs.List.{All}
use Rattle.interval.specs.Boxes.{Bounds, low_of}
use Rattle.guarded_tell.specs.declared.kernel.Kernel.{Kernel}
use Rattle.guarded_tell.specs.Words.{Tell, Side}
use Rattle.guarded_tell.specs.Kernels.{IsClosedUnder}
use Rattle.moved_set.specs.Sets.{IsIn, Naming, set_at, side_set_at}
use Rattle.kernel_visits.specs.Rests.{IsQuietUntilFixed}
use Rattle.moved_fixpoint.specs.declared.rests.Rests.{Rests}
use Rattle.moved_fixpoint.specs.Moved.{Set, count_of}
use Rattle.moved_fixpoint.specs.Resting.{AreEntailedUnlessOpen}
use Rattle.moved_fixpoint.specs.Rested.{Heeds}

-- each kernel that isn't asked is quiet on the box
abbrev pub AreAskedOrQuiet : Set → Bounds → List Kernel → Type 0
AreAskedOrQuiet asked b kernels = (j : ℕ) (k : Kernel) → j < length kernels → (IsIn asked j → ⊥) → IsClosedUnder (slice_index_or kernels j k) b

-- between two visits: each kernel that isn't asked is quiet on the box, each that isn't open is entailed, and each that is
-- neither asked nor alert rests until another of its variables is fixed
pub record AreAtRest (asked : Set) (rests : Rests) (b : Bounds) (kernels : List Kernel) : Type 0 where
  pub quiet : AreAskedOrQuiet asked b kernels
  pub entailed : AreEntailedUnlessOpen rests.open.current b kernels
  pub dormant : (j : ℕ) (k : Kernel) → j < length kernels → (IsIn asked j → ⊥) → (IsIn rests.alert.current j → ⊥) → IsQuietUntilFixed (slice_index_or kernels j k) b

-- each kernel that has the variable in its set and heeds that it moved is asked, besides those that were
pub record IsAskedBy (sets : ℕ → Set) (rests : Rests) (b : Bounds) (v : ℕ) (old new : Set) : Type 0 where
  pub same_count : count_of new ≡ count_of old
  pub kept : (j : ℕ) → IsIn old j → IsIn new j
  pub told : (j : ℕ) → j < count_of old → IsIn (sets j) v → Heeds rests b j v → IsIn new j

-- the first variable is at least 1
abbrev pub has_one : Bounds → Bool
has_one b = int_le (pos 1) (low_of b 0)

-- the variables of which the kernel is asked where a bound on this side moves, or where either does
abbrev pub heard_at : Naming → Bool → Side → ℕ → Set
heard_at masks by_side side j = cond by_side (side_set_at masks side j) (set_at masks j)

-- each kernel that is asked by the bound of a tell and heeds that its variable moved is asked, besides those that were; where there
-- are no tells, none is
pub record AreAsked (masks : Naming) (rests : Rests) (b : Bounds) (by_side : Bool) (ts : List Tell) (old new : Set) : Type 0 where
  pub same_count : count_of new ≡ count_of old
  pub kept : (j : ℕ) → IsIn old j → IsIn new j
  pub told : (j : ℕ) → j < count_of old → All (λ t. IsIn (heard_at masks by_side t.side j) t.var → Heeds rests b j t.var → IsIn new j) ts
  pub none : length ts ≡ 0 → new ≡ old

-- each kernel that names one of the variables and heeds that it moved is asked
abbrev pub AreAskedFor : Naming → Rests → Bounds → List ℕ → Set → Type 0
AreAskedFor masks rests b variables asked =
    (j : ℕ) → j < count_of asked → All (λ v. IsIn (set_at masks j) v → Heeds rests b j v → IsIn asked j) variables

-- each kernel that names a variable that moved and heeds that is asked, besides those that were
pub record AreDrawn (masks : Naming) (moved : Set) (rests : Rests) (b : Bounds) (old new : Set) : Type 0 where
  pub kept : (j : ℕ) → j < count_of old → IsIn old j → IsIn new j
  pub drawn : (v j : ℕ) → IsIn moved v → j < count_of old → IsIn (set_at masks j) v → Heeds rests b j v → IsIn new j
