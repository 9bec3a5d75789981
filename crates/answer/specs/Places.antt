-- Entries of a list at their places, and the results of parts.
use Rattle.std.specs.Prelude.{◌≡◌, ℕ, ℤ, List, length, slice_get, Option, Some}
use Rattle.interval.specs.Boxes.{Bounds}
use Rattle.guarded_tell.specs.declared.kernel.Kernel.{Kernel}
use Rattle.constraint_model.specs.declared.model.FznModel.{FznModel}
use Rattle.decompose.specs.Kernels.{kernels_of}
use Rattle.subproblems.specs.Paths.{LeadsTo}
use Rattle.subproblem_walk.specs.Beaten.{LeadsBelow}
use Rattle.tree_cover.specs.declared.part.Part.{Part}

-- this entry is at the place, counted from 0
abbrev pub StandsAt : {E : Type 0} → List E → ℕ → E → Type 0
StandsAt xs place entry = slice_get xs place ≡ Some entry

-- the part that stands at the place leads there from a box: to a subproblem or to nothing
pub record PartLeadsTo (model : FznModel) (kernels : List Kernel) (parts : List Part) (b : Bounds) (place : ℕ) (found : Option Bounds) : Type 0 where
  pub part : Part
  pub stands : StandsAt parts place part
  pub leads : LeadsTo model kernels part.depth b part.number found

-- or to nothing too where there is a best cost, and it beats what the part leads to
pub record PartLeadsBelow (model : FznModel) (kernels : List Kernel) (parts : List Part) (b : Bounds) (place : ℕ) (best : Option ℤ) (found : Option Bounds) : Type 0 where
  pub part : Part
  pub stands : StandsAt parts place part
  pub leads : LeadsBelow model kernels part.depth b part.number best found

-- what the part at the place leads to from a box, a subproblem or nothing, has this result
pub record HasResult {E : Type 0} (model : FznModel) (parts : List Part) (b : Bounds) (IsResult : ℕ → Option Bounds → E → Type 0) (place : ℕ) (result : E) : Type 0 where
  pub path : Option Bounds
  pub leads : PartLeadsTo model (kernels_of model) parts b place path
  pub is_result : IsResult place path result

-- the list has one result for each part, in order
pub record AreResults {E : Type 0} (model : FznModel) (parts : List Part) (b : Bounds) (IsResult : ℕ → Option Bounds → E → Type 0) (results : List E) : Type 0 where
  pub count : length results ≡ length parts
  pub each : (place : ℕ) (result : E) → StandsAt results place result → HasResult model parts b IsResult place result
