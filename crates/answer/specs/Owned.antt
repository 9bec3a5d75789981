-- What a worker keeps over its numbers.
use Rattle.std.specs.Prelude.{ℕ, List}
use Rattle.interval.specs.Boxes.{Bounds}
use Rattle.guarded_tell.specs.declared.kernel.Kernel.{Kernel}
use Rattle.constraint_model.specs.declared.model.FznModel.{FznModel}
use Rattle.subproblem_walk.specs.Walks.{IsWalkFrom}
use Rattle.search.specs.Keeping.{IsKeptFor}
use Rattle.answer.specs.declared.plan.Own.{Own}

-- a walk from the box, and what runs by so many lanes over boxes of so many variables may use
pub record IsOwnFrom (model : FznModel) (kernels : List Kernel) (start : Bounds) (lanes count : ℕ) (own : Own) : Type 0 where
  pub walk : IsWalkFrom model kernels start own.walk
  pub kept : IsKeptFor kernels lanes count own.kept
