-- Sets of variables or of kernels: for each number whether it is in the set.
use Rattle.std.specs.Prelude.{◌≡◌, ℕ, ◌<◌, Bool, true, false, List, [], length, slice_index, slice_index_or, ◌↔◌, ◌⊎◌, Contains}
use Rattle.guarded_tell.specs.declared.kernel.Kernel.{Kernel}
use Rattle.guarded_tell.specs.Kernels.{vars_of}
use Rattle.guarded_tell.specs.Words.{Side, Low, High}
use Rattle.kernel_visits.specs.Sides.{Reads, is_sided}
use Rattle.kernel_visits.specs.declared.shape.Shape.{Shape}
use Rattle.kernel_visits.specs.declared.shape.Shape.TheVariants.{Other}
use Rattle.kernel_visits.specs.Shapes.{IsShapeOf}

-- the number v is in the set
abbrev pub IsIn : List Bool → ℕ → Type 0
IsIn set v = slice_index_or set v false ≡ true

-- ---- the variables of kernels

-- for each kernel the set of the variables that it names, of so many variables, those of which it is asked where the lower or
-- the upper bound moves, and its shape
pub record Naming : Type 0 where
  pub count : ℕ
  pub sets : List (List Bool)
  pub lows : List (List Bool)
  pub highs : List (List Bool)
  pub shapes : List Shape

-- the set of the kernel's variables
abbrev pub set_at : Naming → ℕ → List Bool
set_at n j = slice_index_or n.sets j []

-- the sets of the variables of which a kernel is asked where a bound on this side moves
abbrev pub side_sets : Naming → Side → List (List Bool)
side_sets n Low = n.lows
side_sets n High = n.highs

-- that of the kernel at a place
abbrev pub side_set_at : Naming → Side → ℕ → List Bool
side_set_at n side j = slice_index_or (side_sets n side) j []

-- the kernel at a place is asked where either bound of a variable of its own moves
abbrev pub IsAskedByEither : Naming → ℕ → Type 0
IsAskedByEither n j = (side : Side) (v : ℕ) → IsIn (set_at n j) v → IsIn (side_set_at n side j) v

-- the sets are those of the kernels' variables; a kernel is asked where a bound moves that it reads, and one that isn't sided
-- where either does
pub record IsNaming (kernels : List Kernel) (naming : Naming) : Type 0 where
  pub same_length : length naming.sets ≡ length kernels
  pub each : (j : ℕ) (d : Kernel) (v : ℕ) → j < length kernels → IsIn (set_at naming j) v ↔ Contains (vars_of (slice_index_or kernels j d)) v
  pub reads : (j : ℕ) (d : Kernel) (place : ℕ) (side : Side) → j < length kernels → place < length (vars_of (slice_index_or kernels j d)) → Reads (slice_index_or kernels j d) place side
      → IsIn (side_set_at naming side j) (slice_index (vars_of (slice_index_or kernels j d)) place)
  pub sided : (j : ℕ) (d : Kernel) → j < length kernels → IsAskedByEither naming j ⊎ (is_sided (slice_index_or kernels j d) ≡ true)

-- a shape is `Other`, which is one of every kernel, only where the kernel at its place has no other
pub record AreOwnShapes (kernels : List Kernel) (shapes : List Shape) : Type 0 where
  pub each : (j : ℕ) (k : Kernel) (s t : Shape) → j < length kernels → slice_index_or shapes j s ≡ Other
      → IsShapeOf (slice_index_or kernels j k) t → t ≡ Other
