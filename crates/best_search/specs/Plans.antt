-- Plans: solutions of a model, a number for each declared variable, of which each costs less than the one before it.
use Rattle.std.specs.Prelude.{◌≡◌, ◌≢◌, ◌↔◌, ℤ, List, [], ◌∷◌, Option, Some, None, Contains}
use Rattle.constraint_model.specs.declared.model.Goal.{Goal}
use Rattle.constraint_model.specs.declared.model.FznModel.{FznModel}
use Rattle.constraint_model.specs.Relations.{cost_of, IsSolution}
use Rattle.branching.specs.Tree.{AreDistinct}
use Rattle.search.specs.Costs.{IsAtMost, IsBelow}

abbrev pub Plan : Type 0
Plan = List ℤ

-- a solution with this cost, below another cost if that is known
pub record IsCheaper (model : FznModel) (before after : Option ℤ) (plan : Plan) : Type 0 where
  pub solves : IsSolution model plan
  pub costs : cost_of model.goal plan ≡ after
  pub cost : ℤ
  pub is_cost : after ≡ Some cost
  pub below : IsBelow cost before

-- each of the plans is a solution that costs less than the one before it, the first less than `before` if that is known; and the
-- last costs `after`
abbrev pub GetCheaper : FznModel → Option ℤ → List Plan → Option ℤ → Type 0
GetCheaper model before [] after = after ≡ before
GetCheaper model before (plan ∷ plans) after = (cost : Option ℤ) × (IsCheaper model before cost plan × GetCheaper model cost plans after)

-- each solution costs at least so much; and where no cost is given there is none
abbrev pub NoneIsCheaper : FznModel → Option ℤ → Type 0
NoneIsCheaper model lowest = (plan : Plan) (cost : ℤ) → IsSolution model plan → cost_of model.goal plan ≡ Some cost → IsAtMost lowest cost

-- a solution, or none where the model has none
abbrev pub IsAny : FznModel → Option Plan → Type 0
IsAny model None = (plan : Plan) → IsSolution model plan → ⊥
IsAny model (Some plan) = IsSolution model plan

-- all solutions of the model, each once
pub record AreAll (model : FznModel) (plans : List Plan) : Type 0 where
  pub each : (plan : Plan) → Contains plans plan ↔ IsSolution model plan
  pub once : AreDistinct plans
