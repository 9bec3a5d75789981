-- What the search tree makes of a box: it has no closed box inside, or its greatest closed box is a solution, or that box
-- is parted in two.
--
-- Source: the FlatZinc chapter of the MiniZinc Handbook, its search annotations.
use Rattle.std.specs.Prelude.{◌≡◌, ◌<◌, List, length, All}
use Rattle.interval.specs.Boxes.{Bounds, IsInRange, IsInside}
use Rattle.guarded_tell.specs.declared.kernel.Kernel.{Kernel}
use Rattle.guarded_tell.specs.Kernels.{IsKernel}
use Rattle.fixpoint_laws.specs.Fixpoints.{IsGreatest, Fails}
use Rattle.constraint_model.specs.declared.model.FznModel.{FznModel}
use Rattle.constraint_model.specs.Searches.{IsSearchOf}
use Rattle.branching.specs.Parts.{IsBranch}
use Rattle.branching.specs.Tree.{AreFixed}
use Rattle.subproblems.specs.declared.cutting.Cut.{Cut}
use Rattle.subproblems.specs.declared.cutting.Cut.TheVariants.{Failed, Fixed, Parted}

-- the greatest closed box of a box, parted by the model's search
pub record ArePartsOf (model : FznModel) (kernels : List Kernel) (b left right : Bounds) : Type 0 where
  pub closed : Bounds
  pub greatest : IsGreatest closed b kernels
  pub branch : IsBranch model closed left right

-- what a box is cut into
abbrev pub IsCutInto : FznModel → List Kernel → Bounds → Cut → Type 0
IsCutInto model kernels b Failed = Fails b kernels
IsCutInto model kernels b (Fixed closed) = IsGreatest closed b kernels × AreFixed model closed
IsCutInto model kernels b (Parted left right) = ArePartsOf model kernels b left right

-- a closed box that fixes each declared variable is kept, another is parted
abbrev pub IsFixedOrParted : FznModel → Bounds → Cut → Type 0
IsFixedOrParted model closed Failed = ⊥
IsFixedOrParted model closed (Fixed kept) = (kept ≡ closed) × AreFixed model closed
IsFixedOrParted model closed (Parted left right) = IsBranch model closed left right

-- a box that can be cut: its bounds are in range, it has a pair for each declared variable, and the kernels' variables are
-- among its pairs
pub record CanBeCut (model : FznModel) (kernels : List Kernel) (b : Bounds) : Type 0 where
  pub search : IsSearchOf model
  pub in_range : IsInRange b
  pub long : length model.vars < length b
  pub fit : All (IsKernel (length b)) kernels

-- a box that can be cut is cut in one way, and what it is cut into lies inside and can be cut too
pub record CutLaws : Type 0 where
  pub some : (model : FznModel) (kernels : List Kernel) (b : Bounds) → CanBeCut model kernels b → (cut : Cut) × IsCutInto model kernels b cut
  pub one : (model : FznModel) (kernels : List Kernel) (b : Bounds) (cut other : Cut) → IsSearchOf model →
      IsCutInto model kernels b cut → IsCutInto model kernels b other → cut ≡ other
  pub kept : (model : FznModel) (kernels : List Kernel) (b closed : Bounds) → CanBeCut model kernels b →
      IsCutInto model kernels b (Fixed closed) → IsInside closed b × CanBeCut model kernels closed
  pub left : (model : FznModel) (kernels : List Kernel) (b left right : Bounds) → CanBeCut model kernels b →
      IsCutInto model kernels b (Parted left right) → IsInside left b × CanBeCut model kernels left
  pub right : (model : FznModel) (kernels : List Kernel) (b left right : Bounds) → CanBeCut model kernels b →
      IsCutInto model kernels b (Parted left right) → IsInside right b × CanBeCut model kernels right
