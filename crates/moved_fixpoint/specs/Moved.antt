-- Kernels whose variables haven't moved are quiet: what propagation begins with.
use Rattle.std.specs.Prelude.{ℕ, ℤ, Bool, true, List, length, ◌≡◌, ◌<◌, slice_set}
use Rattle.std.specs.List.{All}
use Rattle.interval.specs.Boxes.{Bounds, put_of}
use Rattle.guarded_tell.specs.declared.kernel.Kernel.{Kernel}
use Rattle.guarded_tell.specs.Kernels.{vars_of, IsKernel, IsClosedUnder}
use Rattle.kernel_visits.specs.Shapes.{AreShapesOf}
use Rattle.fixpoint_laws.specs.Fixpoints.{IsClosed}
use Rattle.moved_set.specs.Sets.{IsIn, Naming, IsNaming}

-- a set of variables or of kernels, as contracts see it, and of how many
abbrev pub Set : Type 0
Set = List Bool

abbrev pub count_of : Set → ℕ
count_of set = length set

-- none is in the set
abbrev pub IsEmpty : Set → Type 0
IsEmpty set = (v : ℕ) → IsIn set v → ⊥

-- the sets are of so many variables, and of so many kernels
pub record Fit (variables kernels : ℕ) (moved asked : Set) : Type 0 where
  pub moved_count : count_of moved ≡ variables
  pub asked_count : count_of asked ≡ kernels

-- none of these variables is in the set
abbrev pub Misses : Set → List ℕ → Type 0
Misses set vars = All (λ v. IsIn set v → ⊥) vars

-- the kernel is quiet on the box, unless one of its variables is in the set
abbrev pub IsQuietUnlessIn : Set → Bounds → Kernel → Type 0
IsQuietUnlessIn set b kernel = Misses set (vars_of kernel) → IsClosedUnder kernel b

-- each kernel that names none of the variables of the set is quiet on the box
abbrev pub AreMovedOrQuiet : Set → Bounds → List Kernel → Type 0
AreMovedOrQuiet set b kernels = All (IsQuietUnlessIn set b) kernels

-- the masks are those of the kernels' variables, of so many variables, and have the kernels' shapes
pub record AreMasksOf (kernels : List Kernel) (count : ℕ) (masks : Naming) : Type 0 where
  pub naming : IsNaming kernels masks
  pub same_count : masks.count ≡ count
  pub shapes : AreShapesOf kernels masks.shapes

-- how callers come by a set that names what moved: on a closed box any set will do, on any box a set of all its variables;
-- and where one variable gets other bounds and is put into the set
pub record QuietUnlessMoved : Type 0 where
  pub closed : (b : Bounds) (kernels : List Kernel) (set : Set) → IsClosed b kernels → AreMovedOrQuiet set b kernels
  pub all : (b : Bounds) (kernels : List Kernel) (set : Set) → All (IsKernel (length b)) kernels →
      ((v : ℕ) → v < length b → IsIn set v) → AreMovedOrQuiet set b kernels
  pub put : (b : Bounds) (kernels : List Kernel) (set : Set) (v : ℕ) (low high : ℤ) → All (IsKernel (length b)) kernels →
      v < count_of set → AreMovedOrQuiet set b kernels → AreMovedOrQuiet (slice_set set v true) (put_of b v low high) kernels
