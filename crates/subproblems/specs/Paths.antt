-- Numbered subproblems. To depth d there are 2 ^ d numbers; the bits of a number, the highest first, are the turns on the
-- way down the search tree, 0 to the left and 1 to the right.
use Rattle.std.specs.Prelude.{◌≡◌, ◌≢◌, ℕ, zero, suc, ◌-◌, ◌^◌, ◌<◌, ◌≤◌, ℤ, List, [], ◌∷◌, ◌++◌, length, slice_index_or, Option, None, Some}
use Rattle.interval.specs.Boxes.{Bounds, IsInside}
use Rattle.guarded_tell.specs.declared.kernel.Kernel.{Kernel}
use Rattle.constraint_model.specs.declared.model.FznModel.{FznModel}
use Rattle.constraint_model.specs.Searches.{IsSearchOf}
use Rattle.branching.specs.Tree.{SolutionsIn}
use Rattle.subproblems.specs.declared.cutting.Cut.{Cut}
use Rattle.subproblems.specs.declared.cutting.Cut.TheVariants.{Failed, Fixed, Parted}
use Rattle.subproblems.specs.Cuts.{IsCutInto, CanBeCut}
use Rattle.subproblems.specs.Subproblems.{AreSubproblems}

-- what a number leads to by what the box is cut into, where `Below` says it of a part and half is how many numbers a part
-- has: nothing where the box fails; the closed box where that is a solution, by number 0 alone; else into the left part by
-- the lower half of the numbers, and into the right part by the upper half
abbrev pub IsBelow : Cut → ℕ → (Bounds → ℕ → Option Bounds → Type 0) → ℕ → Option Bounds → Type 0
IsBelow Failed half Below number found = found ≡ None
IsBelow (Fixed closed) half Below number found = (number ≡ 0 → found ≡ Some closed) × (number ≢ 0 → found ≡ None)
IsBelow (Parted left right) half Below number found = (number < half → Below left number found) × (half ≤ number → Below right (number - half) found)

-- what a number below 2 ^ depth leads to from a box: a box or nothing, and to depth 0 the box itself
abbrev pub LeadsTo : FznModel → List Kernel → ℕ → Bounds → ℕ → Option Bounds → Type 0
LeadsTo model kernels zero b number found = found ≡ Some b
LeadsTo model kernels (suc depth) b number found =
    (cut : Cut) × IsCutInto model kernels b cut × IsBelow cut (2 ^ depth) (LeadsTo model kernels depth) number found

-- what all numbers lead to, the least first
pub record ArePaths (model : FznModel) (kernels : List Kernel) (depth : ℕ) (b : Bounds) (paths : List (Option Bounds)) : Type 0 where
  pub count : length paths ≡ 2 ^ depth
  pub each : (number : ℕ) → number < 2 ^ depth → LeadsTo model kernels depth b number (slice_index_or paths number None)

-- the boxes among them
abbrev pub boxes_of : List (Option Bounds) → List Bounds
boxes_of [] = []
boxes_of (None ∷ paths) = boxes_of paths
boxes_of (Some b ∷ paths) = b ∷ boxes_of paths

-- the list of solutions of what a number leads to: nothing has none
abbrev pub SolutionsOf : FznModel → List Kernel → Option Bounds → List (List ℤ) → Type 0
SolutionsOf model kernels None found = found ≡ []
SolutionsOf model kernels (Some b) found = SolutionsIn model kernels b found

-- those lists one behind the other
abbrev pub SolutionsOfAll : FznModel → List Kernel → List (Option Bounds) → List (List ℤ) → Type 0
SolutionsOfAll model kernels [] found = found ≡ []
SolutionsOfAll model kernels (path ∷ paths) found =
    (first : List (List ℤ)) × (rest : List (List ℤ)) × SolutionsOf model kernels path first × SolutionsOfAll model kernels paths rest × (found ≡ first ++ rest)

-- the laws of numbered subproblems
pub record PathLaws : Type 0 where
  pub every : (model : FznModel) (kernels : List Kernel) (depth : ℕ) (b : Bounds) → CanBeCut model kernels b →
      (paths : List (Option Bounds)) × ArePaths model kernels depth b paths
  pub one : (model : FznModel) (kernels : List Kernel) (depth : ℕ) (b : Bounds) (number : ℕ) (found other : Option Bounds) → IsSearchOf model →
      LeadsTo model kernels depth b number found → LeadsTo model kernels depth b number other → found ≡ other
  pub inside : (model : FznModel) (kernels : List Kernel) (depth : ℕ) (b : Bounds) (number : ℕ) (found : Bounds) → CanBeCut model kernels b →
      LeadsTo model kernels depth b number (Some found) → IsInside found b
  -- the boxes that the numbers lead to, the least number first, are the subproblems
  pub subproblems : (model : FznModel) (kernels : List Kernel) (depth : ℕ) (b : Bounds) (paths : List (Option Bounds)) → CanBeCut model kernels b →
      ArePaths model kernels depth b paths → AreSubproblems model kernels depth b (boxes_of paths)
  -- so the list of solutions in the box is those of what the numbers lead to, one behind the other
  pub solutions : (model : FznModel) (kernels : List Kernel) (depth : ℕ) (b : Bounds) (paths : List (Option Bounds)) (found : List (List ℤ)) → CanBeCut model kernels b →
      ArePaths model kernels depth b paths → SolutionsOfAll model kernels paths found → SolutionsIn model kernels b found
  pub solutions_back : (model : FznModel) (kernels : List Kernel) (depth : ℕ) (b : Bounds) (paths : List (Option Bounds)) (found : List (List ℤ)) → CanBeCut model kernels b →
      ArePaths model kernels depth b paths → SolutionsIn model kernels b found → SolutionsOfAll model kernels paths found
