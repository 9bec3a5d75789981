-- Which assignments are solutions.
use Rattle.std.specs.Prelude.{ℤ, neg_ℤ, ◌≤ℤ◌, List, [], ◌∷◌, All, Option, Some, None}
use Rattle.constraint_model.specs.declared.model.Constraint.{Constraint}
use Rattle.constraint_model.specs.declared.model.VarDecl.{VarDecl}
use Rattle.constraint_model.specs.declared.model.Goal.{Goal}
use Rattle.constraint_model.specs.declared.model.FznModel.{FznModel}
pub use Rattle.constraint_model.specs.Shapes.{value, IsTrueNumber, One2, One3, OneRow, RowOne, Row2, Row2One, OneRowOne, OneSet, OneRowAlone, Row3One, Reified, dot, Linear, IsQuotient, IsRemainder, IsEntry, IsMaximum, IsMinimum, IsConjunction, IsDisjunction, IsClause, Differs, AreAllDifferent, is_under_way, used_at, IsCumulative}
unfoldable pub use Rattle.constraint_model.specs.Shapes.{quotient}
unfoldable pub use Rattle.constraint_model.specs.Table.{HoldsOn}

-- the constraint holds under an assignment
abbrev pub Holds : Constraint → List ℤ → Type 0
Holds c a = HoldsOn c.name a c.operands

-- the assignment keeps a variable within the bounds that it starts with
abbrev pub IsWithin : List ℤ → List VarDecl → Type 0
IsWithin [] [] = Unit {0}
IsWithin (z ∷ zs) (d ∷ ds) = (d.low ≤ℤ z) × (z ≤ℤ d.high) × IsWithin zs ds
IsWithin _ _ = ⊥

-- an assignment of the declared variables, within their bounds, of which every constraint holds
pub record IsSolution (model : FznModel) (a : List ℤ) : Type 0 where
  pub within : IsWithin a model.vars
  pub holds : All (λ c. Holds c a) model.constraints

-- what a solution costs: the objective to be minimized, or the negation of the one to be maximized
abbrev pub cost_of : Goal → List ℤ → Option ℤ
cost_of Goal.Satisfy a = None
cost_of (Goal.Minimize t) a = Some (value a t)
cost_of (Goal.Maximize t) a = Some (neg_ℤ (value a t))
