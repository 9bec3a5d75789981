-- What one node does to the stack and to the recorded solutions.
use Rattle.std.specs.Prelude.{◌≡◌, ◌⊎◌, ℕ, ℤ, List, [], ◌∷◌, ◌++◌, Option}
use Rattle.interval.specs.Boxes.{Bounds}
use Rattle.guarded_tell.specs.declared.kernel.Kernel.{Kernel}
use Rattle.constraint_model.specs.declared.model.FznModel.{FznModel}
use Rattle.branching.specs.Parts.{IsBranch}
use Rattle.branching.specs.Tree.{AreFixed, values_of}
use Rattle.search.specs.declared.node.Visit.{Visit}
use Rattle.search.specs.declared.kind.Kind.TheVariants.{Least}
use Rattle.moved_fixpoint.specs.Sweeps.{SpendsSweeps}
use Rattle.narrowing.specs.Narrowing.{MayGiveUp}
use Rattle.search.specs.Machine.{Node, cut_by}
use Rattle.search.specs.LeastEnds.{last_of}

-- the two parts of a box are put behind the stack, the left one last
pub record IsParted (model : FznModel) (b : Bounds) (before after : List Bounds) : Type 0 where
  pub left : Bounds
  pub right : Bounds
  pub branch : IsBranch model b left right
  pub stack : after ≡ before ++ right ∷ left ∷ []

-- a box that fixes each declared variable is recorded, another is parted
abbrev pub IsSettled : FznModel → Bounds → List Bounds → List Bounds → List (List ℤ) → List (List ℤ) → Type 0
IsSettled model b before after found more =
    (AreFixed model b × ((after ≡ before) × (more ≡ found ++ values_of model b ∷ []))) ⊎ (IsParted model b before after × (more ≡ found))

-- the box's node puts its boxes behind the stack, and what it records behind the solutions
pub record IsNode (model : FznModel) (kernels : List Kernel) (round_limit lanes : ℕ) (b : Bounds) (before after : List Bounds)
    (found more : List (List ℤ)) : Type 0 where
  pub back : List Bounds
  pub recorded : List (List ℤ)
  pub node : Node model kernels round_limit b back recorded
  pub unspent : lanes ≡ 1 → SpendsSweeps kernels round_limit b → ⊥
  pub stack : after ≡ before ++ back
  pub solutions : more ≡ found ++ recorded

-- the box was given up
pub record IsGivenUp (kernels : List Kernel) (round_limit lanes : ℕ) (b : Bounds) : Type 0 where
  pub given_up : MayGiveUp kernels round_limit b
  pub spent : lanes ≡ 1 → SpendsSweeps kernels round_limit b

-- the box had its node, or was given up and nothing is put or recorded
abbrev pub IsVisit : FznModel → List Kernel → ℕ → ℕ → Bounds → List Bounds → List Bounds → List (List ℤ) → List (List ℤ) → Visit → Type 0
IsVisit model kernels round_limit lanes b before after found more Visit.Done = IsNode model kernels round_limit lanes b before after found more
IsVisit model kernels round_limit lanes b before after found more Visit.GivenUp = IsGivenUp kernels round_limit lanes b × (more ≡ found)

-- the last box of a stack was taken, and what of it costs less than the best had its node
pub record IsTopVisit (model : FznModel) (kernels : List Kernel) (round_limit lanes : ℕ) (best : Option ℤ) (before after : List Bounds)
    (found more : List (List ℤ)) (how : Visit) : Type 0 where
  pub rest : List Bounds
  pub top : Bounds
  pub taken : before ≡ rest ++ top ∷ []
  pub visit : IsVisit model kernels round_limit lanes (cut_by Least model.goal best top) rest after found more how

-- so it was, with no limit on rounds; the answer is what was recorded last
pub record HasVisited (model : FznModel) (kernels : List Kernel) (round_limit lanes : ℕ) (best : Option ℤ) (before after : List Bounds)
    (answer : Option (List ℤ)) : Type 0 where
  pub found : List (List ℤ)
  pub visit : IsTopVisit model kernels round_limit lanes best before after [] found Visit.Done
  pub is_last : answer ≡ last_of found
