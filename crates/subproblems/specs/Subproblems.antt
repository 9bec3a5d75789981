-- The subproblems into which a box is cut to a depth, in the order of the search tree.
use Rattle.std.specs.Prelude.{◌≡◌, ℕ, zero, suc, ◌<◌, ℤ, List, [], ◌∷◌, ◌++◌, length, All}
use Rattle.interval.specs.Boxes.{Bounds, IsInside}
use Rattle.guarded_tell.specs.declared.kernel.Kernel.{Kernel}
use Rattle.constraint_model.specs.declared.model.FznModel.{FznModel}
use Rattle.constraint_model.specs.Searches.{IsSearchOf}
use Rattle.branching.specs.Tree.{SolutionsIn}
use Rattle.subproblems.specs.declared.cutting.Cut.{Cut}
use Rattle.subproblems.specs.declared.cutting.Cut.TheVariants.{Failed, Fixed, Parted}
use Rattle.subproblems.specs.Cuts.{IsCutInto, CanBeCut}

-- the subproblems of a box by what it is cut into, where `Below` says what those of a part are: none where it fails, the
-- closed box where that is a solution, else those of the left part and then those of the right one
abbrev pub AreBelow : Cut → (Bounds → List Bounds → Type 0) → List Bounds → Type 0
AreBelow Failed Below subs = subs ≡ []
AreBelow (Fixed closed) Below subs = subs ≡ closed ∷ []
AreBelow (Parted left right) Below subs =
    (first : List Bounds) × (second : List Bounds) × Below left first × Below right second × (subs ≡ first ++ second)

-- these are the subproblems of a box to a depth: to depth 0 the box itself
abbrev pub AreSubproblems : FznModel → List Kernel → ℕ → Bounds → List Bounds → Type 0
AreSubproblems model kernels zero b subs = subs ≡ b ∷ []
AreSubproblems model kernels (suc depth) b subs =
    (cut : Cut) × IsCutInto model kernels b cut × AreBelow cut (AreSubproblems model kernels depth) subs

-- the lists of solutions in these boxes, one behind the other
abbrev pub SolutionsInEach : FznModel → List Kernel → List Bounds → List (List ℤ) → Type 0
SolutionsInEach model kernels [] found = found ≡ []
SolutionsInEach model kernels (b ∷ subs) found =
    (first : List (List ℤ)) × (rest : List (List ℤ)) × SolutionsIn model kernels b first × SolutionsInEach model kernels subs rest × (found ≡ first ++ rest)

-- the laws of subproblems
pub record SubproblemLaws : Type 0 where
  -- a box that can be cut has them, to each depth, and they are inside it
  pub every : (model : FznModel) (kernels : List Kernel) (depth : ℕ) (b : Bounds) → CanBeCut model kernels b →
      (subs : List Bounds) × AreSubproblems model kernels depth b subs
  pub one : (model : FznModel) (kernels : List Kernel) (depth : ℕ) (b : Bounds) (subs others : List Bounds) → IsSearchOf model →
      AreSubproblems model kernels depth b subs → AreSubproblems model kernels depth b others → subs ≡ others
  pub inside : (model : FznModel) (kernels : List Kernel) (depth : ℕ) (b : Bounds) (subs : List Bounds) → CanBeCut model kernels b →
      AreSubproblems model kernels depth b subs → All (λ sub. IsInside sub b) subs
  -- the list of solutions in a box is those of its subproblems, one behind the other
  pub solutions : (model : FznModel) (kernels : List Kernel) (depth : ℕ) (b : Bounds) (subs : List Bounds) (found : List (List ℤ)) → IsSearchOf model →
      AreSubproblems model kernels depth b subs → SolutionsInEach model kernels subs found → SolutionsIn model kernels b found
  pub solutions_back : (model : FznModel) (kernels : List Kernel) (depth : ℕ) (b : Bounds) (subs : List Bounds) (found : List (List ℤ)) → IsSearchOf model →
      AreSubproblems model kernels depth b subs → SolutionsIn model kernels b found → SolutionsInEach model kernels subs found
