-- What running one kernel does to a box, to the set of those that are asked and to the round's progress.
use Rattle.std.specs.Prelude.{ℕ, ◌≡◌, ◌≢◌, ◌<◌, ◌⊎◌, false, List, length, slice_index, slice_index_or, slice_set}
use Rattle.std.specs.List.{All}
use Rattle.interval.specs.Boxes.{Bounds, low_of, high_of, IsProper, IsCrossed}
use Rattle.guarded_tell.specs.declared.kernel.Kernel.{Kernel}
use Rattle.guarded_tell.specs.Words.{Tell, Side}
use Rattle.guarded_tell.specs.Kernels.{vars_of, IsClosedUnder}
use Rattle.kernel_visits.specs.Sides.{SameSide, Reads, IsOneSided}
use Rattle.fixpoint_laws.specs.Rounds.{HasRun}
use Rattle.fixpoint_laws.specs.OneRound.{LeavesAlone}
use Rattle.moved_set.specs.Sets.{IsIn}
use Rattle.moved_fixpoint.specs.declared.rests.Rests.{Rests}
use Rattle.moved_fixpoint.specs.declared.joiner.Progress.{Progress}
use Rattle.moved_fixpoint.specs.declared.joiner.Progress.TheVariants.{Still, Moved, Crossed}
use Rattle.moved_fixpoint.specs.Moved.{Set, count_of}
use Rattle.moved_fixpoint.specs.Rested.{Heeds, HasRested}
use Rattle.moved_fixpoint.specs.Heard.{GoesOn, Becomes}
use Rattle.moved_fixpoint.specs.Sweeps.{after_kernel}

-- both boxes have the same bounds of variable w
pub record SameAt (a b : Bounds) (w : ℕ) : Type 0 where
  pub low : low_of a w ≡ low_of b w
  pub high : high_of a w ≡ high_of b w

-- none of the tells is of variable w
abbrev pub Spares : List Tell → ℕ → Type 0
Spares ts w = All (λ t. w ≢ t.var) ts

-- none of the tells is of this bound of variable w
abbrev pub SparesSide : List Tell → Side → ℕ → Type 0
SparesSide ts side w = All (λ t. w ≡ t.var → side ≡ t.side → ⊥) ts

-- of the kernel at a place no variable moved of which it would heed that, or it is one-sided from the box on and no bound that it
-- reads of such a variable moved
abbrev pub IsUnmoved : Kernel → ℕ → Rests → Bounds → Bounds → Type 0
IsUnmoved k j rests before after =
    All (λ v. Heeds rests after j v → SameAt after before v) (vars_of k)
    ⊎ (IsOneSided k after × ((i : ℕ) (side : Side) → i < length (vars_of k) → Reads k i side → Heeds rests after j (slice_index (vars_of k) i) → SameSide side after before (slice_index (vars_of k) i)))

-- the kernel was run on a box: no closed box was lost; unless the round is over, the others that were asked still are, of one
-- that isn't asked then nothing moved that it would heed, no tell of the kernel on the box before narrows the one
-- after, and if it isn't asked then and was open then it is quiet there; and it rests as long as it needs no visit; the box after
-- is what the kernel's tells make of the one before
pub record HasVisited (kernels : List Kernel) (i : ℕ) (kernel : Kernel) (before : Bounds) (asked : Set) (rests : Rests) (p : Progress)
    (after : Bounds) (asked_after : Set) (rests_after : Rests) (p_after : Progress) : Type 0 where
  pub run : HasRun kernel before after
  pub same_count : count_of asked_after ≡ count_of asked
  pub going : GoesOn p_after → GoesOn p
  pub kept : GoesOn p_after → (j : ℕ) → j ≢ i → IsIn asked j → IsIn asked_after j
  pub unmoved : GoesOn p_after → (j : ℕ) (k : Kernel) → j < length kernels → (IsIn asked_after j → ⊥) →
      IsUnmoved (slice_index_or kernels j k) j rests_after before after
  pub rested : GoesOn p_after → HasRested kernel i after rests rests_after
  pub heard : GoesOn p_after → LeavesAlone kernel before after
  pub closed : GoesOn p_after → (IsIn asked_after i → ⊥) → IsIn rests.open.current i → IsClosedUnder kernel after
  pub still : p_after ≡ Still → (p ≡ Still) × (after ≡ before) × IsClosedUnder kernel after × (asked_after ≡ slice_set asked i false)
  pub moves : p_after ≡ Moved → (p ≡ Moved) ⊎ (after ≢ before)
  pub proper : GoesOn p_after → IsProper before → IsProper after
  pub crossed : p_after ≡ Crossed → (p ≡ Crossed) ⊎ IsCrossed after
  pub stepped : GoesOn p → Becomes (after_kernel kernel before) p_after after

-- the kernel at a place was run so
abbrev pub KernelRuns : List Kernel → ℕ → Bounds → Set → Rests → Progress → Bounds → Set → Rests → Progress → Type 0
KernelRuns kernels i before asked rests p after asked_after rests_after p_after =
    (k : Kernel) → HasVisited kernels i (slice_index_or kernels i k) before asked rests p after asked_after rests_after p_after
