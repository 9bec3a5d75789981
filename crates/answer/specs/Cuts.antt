-- Boxes cut to one value of the objective.
use Rattle.std.specs.Prelude.{ℕ, suc, ℤ, neg_ℤ}
use Rattle.std.specs.Int.{int_min, int_max}
use Rattle.interval.specs.Boxes.{Bounds, low_of, high_of, put_of}
use Rattle.constraint_model.specs.declared.model.Term.{Term}
use Rattle.constraint_model.specs.declared.model.Goal.{Goal}

-- the box with the one number z of a pair, if it is there
abbrev pub at_value : Bounds → ℕ → ℤ → Bounds
at_value b p z = put_of b p (int_max (low_of b p) z) (int_min (high_of b p) z)

-- the box with its objective cut to the value that costs so much; a constant leaves it
abbrev pub cut_to : Goal → ℤ → Bounds → Bounds
cut_to Goal.Satisfy cost b = b
cut_to (Goal.Minimize (Term.Var v)) cost b = at_value b (suc v) cost
cut_to (Goal.Minimize (Term.Number n)) cost b = b
cut_to (Goal.Maximize (Term.Var v)) cost b = at_value b (suc v) (neg_ℤ cost)
cut_to (Goal.Maximize (Term.Number n)) cost b = b
