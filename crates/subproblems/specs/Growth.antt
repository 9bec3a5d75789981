-- A list of subproblems that grows.
use Rattle.std.specs.Prelude.{◌≡◌, ℕ, List, ◌++◌}
use Rattle.interval.specs.Boxes.{Bounds}
use Rattle.guarded_tell.specs.declared.kernel.Kernel.{Kernel}
use Rattle.constraint_model.specs.declared.model.FznModel.{FznModel}
use Rattle.subproblems.specs.Subproblems.{AreSubproblems}

-- the subproblems of the box are appended to the others
pub record IsMore (model : FznModel) (kernels : List Kernel) (depth : ℕ) (b : Bounds) (before after : List Bounds) : Type 0 where
  pub subs : List Bounds
  pub are_subs : AreSubproblems model kernels depth b subs
  pub is_after : after ≡ before ++ subs
