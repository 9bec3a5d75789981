-- Boxes in which nothing costs less than a cost that is known.
use Rattle.std.specs.Prelude.{◌≡◌, ◌⊎◌, ℕ, suc, ℤ, neg_ℤ, ◌≤ℤ◌, List, Option, None, Some, MatchOption}
use Rattle.interval.specs.Boxes.{Bounds, low_of, high_of, IsInside}
use Rattle.guarded_tell.specs.declared.kernel.Kernel.{Kernel}
use Rattle.fixpoint_laws.specs.Fixpoints.{IsClosed}
use Rattle.constraint_model.specs.declared.model.Term.{Term}
use Rattle.constraint_model.specs.declared.model.Goal.{Goal}
use Rattle.constraint_model.specs.declared.model.FznModel.{FznModel}
use Rattle.subproblems.specs.Paths.{LeadsTo}

-- each number that a box has for the objective costs at least so much; of an objective that is a constant it isn't said
abbrev pub CostsFrom : Goal → ℤ → Bounds → Type 0
CostsFrom Goal.Satisfy cost b = ⊥
CostsFrom (Goal.Minimize (Term.Var v)) cost b = cost ≤ℤ low_of b (suc v)
CostsFrom (Goal.Minimize (Term.Number n)) cost b = ⊥
CostsFrom (Goal.Maximize (Term.Var v)) cost b = cost ≤ℤ neg_ℤ (high_of b (suc v))
CostsFrom (Goal.Maximize (Term.Number n)) cost b = ⊥

-- so it is of each closed box inside
abbrev pub IsBeaten : FznModel → List Kernel → ℤ → Bounds → Type 0
IsBeaten model kernels cost b = (c : Bounds) → IsClosed c kernels → IsInside c b → CostsFrom model.goal cost c

-- where the number leads to a box, each number that it has for the objective costs at least so much: it needs no propagation
-- to see that nothing in it costs less
abbrev pub LeadsToBeaten : FznModel → List Kernel → ℕ → Bounds → ℕ → ℤ → Type 0
LeadsToBeaten model kernels depth start number cost = (b : Bounds) → LeadsTo model kernels depth start number (Some b) → CostsFrom model.goal cost b

-- what the number leads to; or nothing where there is a best cost, and it beats what the number leads to
abbrev pub LeadsBelow : FznModel → List Kernel → ℕ → Bounds → ℕ → Option ℤ → Option Bounds → Type 0
LeadsBelow model kernels depth start number best found =
    LeadsTo model kernels depth start number found ⊎ ((found ≡ None) × MatchOption best ⊥ (λ cost. LeadsToBeaten model kernels depth start number cost))
