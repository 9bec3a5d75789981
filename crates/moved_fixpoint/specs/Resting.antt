-- Kernels that rest: what propagation knows of those that it needn't visit, and what it begins with.
use Rattle.std.specs.Prelude.{ℕ, ℤ, true, List, [], ◌∷◌, ◌++◌, length, ◌≡◌, ◌<◌, ◌≤ℤ◌, ◌⊎◌, slice_set, slice_index_or}
use Rattle.std.specs.List.{All}
use Rattle.interval.specs.Boxes.{Bounds, put_of, IsInside}
use Rattle.guarded_tell.specs.declared.kernel.Kernel.{Kernel}
use Rattle.guarded_tell.specs.Kernels.{vars_of}
use Rattle.kernel_visits.specs.Rests.{IsFixedAt, IsEntailed, IsQuietUntilFixed}
use Rattle.moved_set.specs.Sets.{IsIn}
use Rattle.moved_set.specs.Layers.{Layers}
use Rattle.moved_fixpoint.specs.declared.rests.Rests.{Rests}
use Rattle.moved_fixpoint.specs.Moved.{Set, count_of, IsEmpty}

-- each of so many is in the set
abbrev pub HasEach : ℕ → Set → Type 0
HasEach count set = (j : ℕ) → j < count → IsIn set j

-- the sets of kernels that rest are of so many kernels
pub record FitRests (kernels : ℕ) (rests : Rests) : Type 0 where
  pub open_count : count_of rests.open.current ≡ kernels
  pub alert_count : count_of rests.alert.current ≡ kernels

-- the sets are of as many kernels as before
pub record KeepCounts (old new : Rests) : Type 0 where
  pub open_count : count_of new.open.current ≡ count_of old.open.current
  pub alert_count : count_of new.alert.current ≡ count_of old.alert.current

-- the sets that were left are the same
pub record KeepStacks (old new : Rests) : Type 0 where
  pub open_stack : new.open.stack ≡ old.open.stack
  pub alert_stack : new.alert.stack ≡ old.alert.stack

-- all kernels are open, none is alert, and no set was left
pub record AreFresh (rests : Rests) : Type 0 where
  pub open_each : HasEach (count_of rests.open.current) rests.open.current
  pub alert_none : IsEmpty rests.alert.current
  pub open_stack : rests.open.stack ≡ []
  pub alert_stack : rests.alert.stack ≡ []

-- all kernels are open and alert, and no set was left
pub record AreAwake (rests : Rests) : Type 0 where
  pub open_each : HasEach (count_of rests.open.current) rests.open.current
  pub alert_each : HasEach (count_of rests.alert.current) rests.alert.current
  pub open_stack : rests.open.stack ≡ []
  pub alert_stack : rests.alert.stack ≡ []

-- both sets were left as they are, to go back to them
pub record AreLeft (old new : Rests) : Type 0 where
  pub open_current : new.open.current ≡ old.open.current
  pub alert_current : new.alert.current ≡ old.alert.current
  pub open_stack : new.open.stack ≡ old.open.stack ++ old.open.current ∷ []
  pub alert_stack : new.alert.stack ≡ old.alert.stack ++ old.alert.current ∷ []

-- the set that was left last is that of now; where none was left it stays
pub record IsBack (old new : Layers) : Type 0 where
  pub back : (old.stack ≡ []) ⊎ (old.stack ≡ new.stack ++ new.current ∷ [])
  pub none : old.stack ≡ [] → new ≡ old
  pub same_count : count_of new.current ≡ count_of old.current

-- each kernel that isn't open narrows no box inside this one
abbrev pub AreEntailedUnlessOpen : Set → Bounds → List Kernel → Type 0
AreEntailedUnlessOpen open_ones b kernels = (j : ℕ) (k : Kernel) → j < length kernels → (IsIn open_ones j → ⊥) → IsEntailed (slice_index_or kernels j k) b

-- each kernel that isn't alert narrows no box inside this one as long as no other of its variables is fixed
abbrev pub AreRestingUnlessAlert : Set → Bounds → List Kernel → Type 0
AreRestingUnlessAlert alert b kernels = (j : ℕ) (k : Kernel) → j < length kernels → (IsIn alert j → ⊥) → IsQuietUntilFixed (slice_index_or kernels j k) b

-- kernels that aren't open are entailed, and those that aren't alert rest until another of their variables is fixed
pub record AreResting (open_ones alert : Set) (b : Bounds) (kernels : List Kernel) : Type 0 where
  pub entailed : AreEntailedUnlessOpen open_ones b kernels
  pub dormant : AreRestingUnlessAlert alert b kernels

-- none of these variables both moved and is fixed
abbrev pub NoneIsNewlyFixed : Set → Bounds → List ℕ → Type 0
NoneIsNewlyFixed moved b vars = All (λ v. IsIn moved v → IsFixedAt b v → ⊥) vars

-- kernels that are neither asked nor alert rest until another of their variables is fixed, but for those of which a variable
-- that moved is fixed
abbrev pub AreRestingUnlessMoved : Set → Set → Set → Bounds → List Kernel → Type 0
AreRestingUnlessMoved asked alert moved b kernels = (j : ℕ) (k : Kernel) → j < length kernels → (IsIn asked j → ⊥) → (IsIn alert j → ⊥) →
    NoneIsNewlyFixed moved b (vars_of (slice_index_or kernels j k)) → IsQuietUntilFixed (slice_index_or kernels j k) b

-- what a call of propagation begins with: kernels that aren't open are entailed, and those that are neither asked nor alert
-- rest, but for those of which a variable that moved is fixed
pub record Knows (asked open_ones alert moved : Set) (b : Bounds) (kernels : List Kernel) : Type 0 where
  pub entailed : AreEntailedUnlessOpen open_ones b kernels
  pub dormant : AreRestingUnlessMoved asked alert moved b kernels

-- how callers come by what a call begins with: from the end of one before, whatever is asked and moved then; where one
-- variable gets tighter bounds and is put into the set of those that moved; on any box where all are asked and open, or all
-- are open and alert
pub record KnownUnlessMoved : Type 0 where
  pub resting : (b : Bounds) (kernels : List Kernel) (asked open_ones alert moved : Set) →
      AreResting open_ones alert b kernels → Knows asked open_ones alert moved b kernels
  pub put : (b : Bounds) (kernels : List Kernel) (asked open_ones alert moved : Set) (v : ℕ) (low high : ℤ) → v < count_of moved →
      IsInside (put_of b v low high) b → low ≤ℤ high → Knows asked open_ones alert moved b kernels →
      Knows asked open_ones alert (slice_set moved v true) (put_of b v low high) kernels
  pub all_asked : (b : Bounds) (kernels : List Kernel) (asked open_ones alert moved : Set) →
      HasEach (length kernels) asked → HasEach (length kernels) open_ones → Knows asked open_ones alert moved b kernels
  pub all_alert : (b : Bounds) (kernels : List Kernel) (asked open_ones alert moved : Set) →
      HasEach (length kernels) open_ones → HasEach (length kernels) alert → Knows asked open_ones alert moved b kernels
