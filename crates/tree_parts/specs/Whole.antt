-- From what is known of parts that cover a search tree to what is known of the whole.
use Rattle.std.specs.Prelude.{◌≡◌, ℤ, ◌≤ℤ◌, List, [], ◌∷◌, flat_map, All, Option, Some}
use Rattle.interval.specs.Boxes.{Bounds}
use Rattle.guarded_tell.specs.declared.kernel.Kernel.{Kernel}
use Rattle.constraint_model.specs.declared.model.Goal.{Goal}
use Rattle.constraint_model.specs.declared.model.FznModel.{FznModel}
use Rattle.constraint_model.specs.Relations.{cost_of}
use Rattle.branching.specs.Tree.{SolutionsIn}
use Rattle.subproblems.specs.Cuts.{CanBeCut}
use Rattle.subproblems.specs.Paths.{LeadsTo, SolutionsOf}
use Rattle.tree_cover.specs.declared.part.Part.{Part}
use Rattle.tree_cover.specs.Covers.{IsPart, AreCover}

-- the list has the solutions in what the part leads to, in order
pub record IsListed (model : FznModel) (kernels : List Kernel) (b : Bounds) (part : Part) (found : List (List ℤ)) : Type 0 where
  pub path : Option Bounds
  pub leads : LeadsTo model kernels part.depth b part.number path
  pub listed : SolutionsOf model kernels path found

-- so it is of each part and the list at its place
abbrev pub AreListed : FznModel → List Kernel → Bounds → List Part → List (List (List ℤ)) → Type 0
AreListed model kernels b [] [] = Unit {0}
AreListed model kernels b [] (found ∷ lists) = ⊥
AreListed model kernels b (part ∷ parts) [] = ⊥
AreListed model kernels b (part ∷ parts) (found ∷ lists) = IsListed model kernels b part found × AreListed model kernels b parts lists

-- one behind the other
abbrev pub joined : List (List (List ℤ)) → List (List ℤ)
joined lists = flat_map (λ (found : List (List ℤ)). found) lists

-- the lists of parts that cover the tree, one behind the other, are that of the tree
abbrev pub WholeOfParts : Type 0
WholeOfParts = (model : FznModel) (kernels : List Kernel) (b : Bounds) (parts : List Part) (lists : List (List (List ℤ))) → CanBeCut model kernels b →
    All IsPart parts → AreCover parts → AreListed model kernels b parts lists → SolutionsIn model kernels b (joined lists)

-- the assignment costs so much at least
abbrev pub CostsAtLeast : Goal → ℤ → List ℤ → Type 0
CostsAtLeast goal least a = (cost : ℤ) → cost_of goal a ≡ Some cost → least ≤ℤ cost

-- so does each solution in what the part leads to
abbrev pub EachCostsAtLeast : FznModel → List Kernel → Bounds → ℤ → Part → Type 0
EachCostsAtLeast model kernels b least part = (found : List (List ℤ)) → IsListed model kernels b part found → All (CostsAtLeast model.goal least) found

-- where each solution in parts that cover the tree costs so much at least, each of all its solutions does
abbrev pub LeastOfParts : Type 0
LeastOfParts = (model : FznModel) (kernels : List Kernel) (b : Bounds) (parts : List Part) (least : ℤ) (found : List (List ℤ)) → CanBeCut model kernels b →
    All IsPart parts → AreCover parts → All (EachCostsAtLeast model kernels b least) parts → SolutionsIn model kernels b found → All (CostsAtLeast model.goal least) found
