-- What solutions cost: the objective that is minimized, or the negation of the one that is maximized.
use Rattle.std.specs.Prelude.{ℕ, suc, ℤ, pos, neg_ℤ, ◌<◌, ◌≤ℤ◌, ◌<ℤ◌, int_le, cond, Option, Some, None}
use Rattle.std.specs.Int.{int_min, int_max}
use Rattle.interval.specs.Limits.{IsNumber}
use Rattle.interval.specs.Boxes.{Bounds, low_of, high_of, put_of}
use Rattle.constraint_model.specs.declared.model.Term.{Term}
use Rattle.constraint_model.specs.declared.model.Goal.{Goal}

-- the cost is below the best one so far, or there is none
abbrev pub IsBelow : ℤ → Option ℤ → Type 0
IsBelow cost None = Unit {0}
IsBelow cost (Some best) = cost <ℤ best

-- there is a best cost, and it is at most this one
abbrev pub IsAtMost : Option ℤ → ℤ → Type 0
IsAtMost None cost = ⊥
IsAtMost (Some best) cost = best ≤ℤ cost

-- the box with the numbers of a pair up to z, and with those from z on
abbrev pub up_to : Bounds → ℕ → ℤ → Bounds
up_to b p z = put_of b p (low_of b p) (int_min (high_of b p) z)

abbrev pub from_on : Bounds → ℕ → ℤ → Bounds
from_on b p z = put_of b p (int_max (low_of b p) z) (high_of b p)

-- the box itself where a constant costs that much at most; else no number is left for the constant 1
abbrev pub where_at_most : ℤ → ℤ → Bounds → Bounds
where_at_most cost most b = cond (int_le cost most) b (up_to b 0 (pos 0))

-- the box with its objective cut to costs up to `most`
abbrev pub at_most : Goal → ℤ → Bounds → Bounds
at_most Goal.Satisfy most b = b
at_most (Goal.Minimize (Term.Var v)) most b = up_to b (suc v) most
at_most (Goal.Minimize (Term.Number n)) most b = where_at_most n most b
at_most (Goal.Maximize (Term.Var v)) most b = from_on b (suc v) (neg_ℤ most)
at_most (Goal.Maximize (Term.Number n)) most b = where_at_most (neg_ℤ n) most b

-- ---- what is asked of an objective

-- a number of a model, or one of the first `count` variables
abbrev pub IsTermIn : ℕ → Term → Type 0
IsTermIn count (Term.Number n) = IsNumber n
IsTermIn count (Term.Var v) = v < count

-- there is an objective, and it is such a term
abbrev pub IsObjectiveIn : ℕ → Goal → Type 0
IsObjectiveIn count Goal.Satisfy = ⊥
IsObjectiveIn count (Goal.Minimize t) = IsTermIn count t
IsObjectiveIn count (Goal.Maximize t) = IsTermIn count t
