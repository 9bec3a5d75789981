-- How a box on a way is cut.
use Rattle.std.specs.Prelude.{ℕ, List, length, Option, IfSome}
use Rattle.interval.specs.Boxes.{Bounds}
use Rattle.guarded_tell.specs.declared.kernel.Kernel.{Kernel}
use Rattle.fixpoint_laws.specs.Fixpoints.{IsGreatest, Fails}
use Rattle.constraint_model.specs.declared.model.FznModel.{FznModel}
use Rattle.branching.specs.declared.branch.Branching.{Branching}
use Rattle.branching.specs.Fronts.{FitsBox, left_by, right_by}
use Rattle.branching.specs.Parts.{IsBranch, AreParts}
use Rattle.branching.specs.Tree.{AreFixed}
use Rattle.moved_fixpoint.specs.declared.sets.MovedSets.{MovedSets}
use Rattle.moved_fixpoint.specs.Moved.{Fit}
use Rattle.moved_fixpoint.specs.Resting.{FitRests}
use Rattle.subproblem_walk.specs.declared.cutter.Node.{Node}

-- a box is parted by the model's search, in this way
pub record IsPartedAt (model : FznModel) (closed : Bounds) (branching : Branching) : Type 0 where
  pub branch : IsBranch model closed (left_by closed branching) (right_by closed branching)
  pub are_parts : AreParts closed (left_by closed branching) (right_by closed branching)
  pub fits : FitsBox closed branching

-- a closed box fixes each declared variable, or is parted
abbrev pub IsKeptOrParted : FznModel → Bounds → Node → Type 0
IsKeptOrParted model closed Node.Failed = ⊥
IsKeptOrParted model closed Node.Fixed = AreFixed model closed
IsKeptOrParted model closed (Node.Parted branching) = IsPartedAt model closed branching

-- what a box is cut into, where it has become another: its greatest closed one, if there is one
abbrev pub IsNodeOf : FznModel → List Kernel → Bounds → Bounds → Node → Type 0
IsNodeOf model kernels b now Node.Failed = Fails b kernels
IsNodeOf model kernels b now Node.Fixed = IsGreatest now b kernels × AreFixed model now
IsNodeOf model kernels b now (Node.Parted branching) = IsGreatest now b kernels × IsPartedAt model now branching

-- propagation of these kernels, on boxes of so many variables, may work with these sets
pub record Serve (sets : MovedSets) (kernels : List Kernel) (count : ℕ) : Type 0 where
  pub fit : Fit count (length kernels) sets.moved sets.asking.asked
  pub rests : FitRests (length kernels) sets.asking.rests

-- so it may where there are some
abbrev pub MayServe : Option MovedSets → List Kernel → ℕ → Type 0
MayServe sets kernels count = IfSome sets (λ s. Serve s kernels count)
