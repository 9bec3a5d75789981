-- The least cost of a model's solutions.
use Rattle.std.specs.Prelude.{◌≡◌, ℤ, ◌≤ℤ◌, List, Some}
use Rattle.constraint_model.specs.declared.model.FznModel.{FznModel}
use Rattle.constraint_model.specs.Relations.{cost_of, IsSolution}
use Rattle.search.specs.LeastEnds.{IsCost}

-- some solution costs so much, and none costs less
pub record IsLeastCost (model : FznModel) (cost : ℤ) : Type 0 where
  pub some : IsCost model cost
  pub least : (a : List ℤ) (other : ℤ) → IsSolution model a → cost_of model.goal a ≡ Some other → cost ≤ℤ other
