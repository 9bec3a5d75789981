-- The list of solutions in a box, in the order of the search tree, and the laws of such lists.
--
-- Source: the FlatZinc chapter of the MiniZinc Handbook, its search annotations.
use Rattle.std.specs.Prelude.{◌≡◌, ◌⊎◌, ◌↔◌, ℕ, ◌<◌, ℤ, ◌≤ℤ◌, List, [], ◌∷◌, ◌++◌, length, take, drop, All, Contains}
use Rattle.interval.specs.Boxes.{Bounds, low_of, high_of, IsInRange, IsInside, IsPoint, IsProper}
use Rattle.guarded_tell.specs.declared.kernel.Kernel.{Kernel}
use Rattle.guarded_tell.specs.Words.{point_of}
use Rattle.guarded_tell.specs.Kernels.{IsKernel}
use Rattle.fixpoint_laws.specs.Fixpoints.{IsClosed, IsGreatest, Fails}
use Rattle.constraint_model.specs.declared.model.FznModel.{FznModel}
use Rattle.branching.specs.Selection.{IsFixed}
use Rattle.constraint_model.specs.Searches.{IsSearchOf}
use Rattle.branching.specs.Parts.{IsBranch, AreParts}

-- every declared variable is fixed
abbrev pub AreFixed : FznModel → Bounds → Type 0
AreFixed model b = (v : ℕ) → v < length model.vars → IsFixed b v

-- a box whose declared variables aren't all fixed is parted in one way, into two parts; one that fixes them in none
pub record BranchLaws : Type 0 where
  pub some : (model : FznModel) (b : Bounds) → IsSearchOf model → length model.vars < length b → IsProper b →
      ((left : Bounds) × ((right : Bounds) × IsBranch model b left right)) ⊎ AreFixed model b
  pub not_both : (model : FznModel) (b left right : Bounds) → IsSearchOf model → IsBranch model b left right → AreFixed model b → ⊥
  pub one : (model : FznModel) (b left right other another : Bounds) → IsBranch model b left right →
      IsBranch model b other another → (left ≡ other) × (right ≡ another)
  pub parts : (model : FznModel) (b left right : Bounds) → IsSearchOf model → length model.vars < length b → IsInRange b → IsProper b →
      IsBranch model b left right → AreParts b left right

-- the declared variables' numbers in a box that fixes them
abbrev pub values_of : FznModel → Bounds → List ℤ
values_of model b = take (length model.vars) (drop 1 (point_of b))

-- These are the solutions in a box, in the order of the search tree: none where no closed box is inside; the greatest
-- closed box's numbers where it fixes each declared variable; else those in its left part and then those in its right part.
pub data SolutionsIn : FznModel → List Kernel → Bounds → List (List ℤ) → Type 0 where
  failed : (model : FznModel) (kernels : List Kernel) (b : Bounds) (found : List (List ℤ)) → Fails b kernels → found ≡ [] →
      SolutionsIn model kernels b found
  fixed : (model : FznModel) (kernels : List Kernel) (b g : Bounds) (found : List (List ℤ)) → IsGreatest g b kernels →
      AreFixed model g → found ≡ values_of model g ∷ [] → SolutionsIn model kernels b found
  parted : (model : FznModel) (kernels : List Kernel) (b g left right : Bounds) (first second found : List (List ℤ)) →
      IsGreatest g b kernels → IsBranch model g left right → SolutionsIn model kernels left first →
      SolutionsIn model kernels right second → found ≡ first ++ second → SolutionsIn model kernels b found

-- a box has one such list at most
abbrev pub OneList : Type 0
OneList = (model : FznModel) (kernels : List Kernel) (b : Bounds) (found others : List (List ℤ)) → IsSearchOf model →
    SolutionsIn model kernels b found → SolutionsIn model kernels b others → found ≡ others

-- every box has one
abbrev pub EveryList : Type 0
EveryList = (model : FznModel) (kernels : List Kernel) (b : Bounds) → IsSearchOf model → length model.vars < length b → IsInRange b →
    All (IsKernel (length b)) kernels → (found : List (List ℤ)) × SolutionsIn model kernels b found

-- ---- what is in such a list

-- each pair of a constant, which is pair 0 or one behind the declared variables, has one number at most
abbrev pub AreConstantsFixed : FznModel → Bounds → Type 0
AreConstantsFixed model b = (p : ℕ) → p < length b → (p ≡ 0) ⊎ (length model.vars < p) → high_of b p ≤ℤ low_of b p

-- the numbers of the declared variables in a point of the box that no propagator narrows
pub record IsSolutionIn (model : FznModel) (kernels : List Kernel) (b : Bounds) (values : List ℤ) : Type 0 where
  pub point : Bounds
  pub is_point : IsPoint point
  pub closed : IsClosed point kernels
  pub inside : IsInside point b
  pub is_values : values ≡ values_of model point

-- no entry is in the list twice
abbrev pub AreDistinct : List (List ℤ) → Type 0
AreDistinct [] = Unit {0}
AreDistinct (values ∷ others) = (Contains others values → ⊥) × AreDistinct others

-- the list has each solution in the box once, and nothing else
pub record ListsSolutions (model : FznModel) (kernels : List Kernel) (b : Bounds) (found : List (List ℤ)) : Type 0 where
  pub each : (values : List ℤ) → Contains found values ↔ IsSolutionIn model kernels b values
  pub once : AreDistinct found

abbrev pub EachOnce : Type 0
EachOnce = (model : FznModel) (kernels : List Kernel) (b : Bounds) (found : List (List ℤ)) → IsSearchOf model →
    length model.vars < length b → IsInRange b → AreConstantsFixed model b → SolutionsIn model kernels b found →
    ListsSolutions model kernels b found
