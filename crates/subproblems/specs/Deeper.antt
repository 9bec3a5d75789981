-- What a number leads to, and what the two numbers one turn deeper lead to.
use Rattle.std.specs.Prelude.{◌≡◌, ℕ, suc, ◌+◌, ◌*◌, ◌^◌, ◌<◌, ℤ, List, ◌++◌, Option, None, Some}
use Rattle.interval.specs.Boxes.{Bounds}
use Rattle.guarded_tell.specs.declared.kernel.Kernel.{Kernel}
use Rattle.constraint_model.specs.declared.model.FznModel.{FznModel}
use Rattle.subproblems.specs.Cuts.{CanBeCut}
use Rattle.subproblems.specs.Paths.{LeadsTo, SolutionsOf}

pub record DeeperLaws : Type 0 where
  -- a box that a number leads to can be cut
  pub can : (model : FznModel) (kernels : List Kernel) (depth : ℕ) (b : Bounds) (number : ℕ) (sub : Bounds) → CanBeCut model kernels b →
      LeadsTo model kernels depth b number (Some sub) → CanBeCut model kernels sub
  -- where the number leads to nothing both lead to nothing
  pub nothing : (model : FznModel) (kernels : List Kernel) (depth : ℕ) (b : Bounds) (number bit : ℕ) → number < 2 ^ depth → bit < 2 →
      LeadsTo model kernels depth b number None → LeadsTo model kernels (suc depth) b (2 * number + bit) None
  -- where it leads to a box they lead to what that is cut into
  pub below : (model : FznModel) (kernels : List Kernel) (depth : ℕ) (b : Bounds) (number bit : ℕ) (sub : Bounds) (found : Option Bounds) →
      CanBeCut model kernels b → number < 2 ^ depth → bit < 2 →
      LeadsTo model kernels depth b number (Some sub) → LeadsTo model kernels 1 sub bit found → LeadsTo model kernels (suc depth) b (2 * number + bit) found
  -- so its solutions are those of both, one behind the other
  pub joined : (model : FznModel) (kernels : List Kernel) (depth : ℕ) (b : Bounds) (number : ℕ) (found left right : Option Bounds) (all lefts rights : List (List ℤ)) →
      CanBeCut model kernels b → number < 2 ^ depth → LeadsTo model kernels depth b number found →
      LeadsTo model kernels (suc depth) b (2 * number) left → LeadsTo model kernels (suc depth) b (2 * number + 1) right →
      SolutionsOf model kernels found all → SolutionsOf model kernels left lefts → SolutionsOf model kernels right rights → all ≡ lefts ++ rights
