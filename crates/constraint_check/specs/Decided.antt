-- What the tests decide, in the words of the table of constraints.
use Rattle.std.specs.Prelude.{◌≡◌, ◌↔◌, ℤ, pos, unsigned_abs, ◌+ℤ◌, ◌*ℤ◌, ◌≤ℤ◌, ◌<ℤ◌, List, [], ◌∷◌, All, Any}
use Rattle.std.specs.Int.{int_min, int_max}
use Rattle.constraint_model.specs.declared.model.Operand.{Operand}
use Rattle.constraint_model.specs.Ranges.{IsIn}
use Rattle.constraint_model.specs.Shapes.{One2, One3, OneRow, RowOne, Row2, OneRowOne, OneSet, OneRowAlone, Row3One, Reified, Linear, Differs, IsTrueNumber, IsQuotient, IsRemainder, IsEntry, IsMaximum, IsMinimum, IsClause, AreAllDifferent, IsCumulative}
use Rattle.constraint_check.specs.declared.comparing.Comparison.{Comparison}
use Rattle.constraint_check.specs.declared.comparing.Operation.{Operation}
use Rattle.constraint_check.specs.declared.comparing.Extreme.{Extreme}
use Rattle.constraint_check.specs.declared.comparing.Junction.{Junction}
use Rattle.constraint_check.specs.declared.holding.Demand.{Demand}
use Rattle.constraint_check.specs.declared.shapes.Test.{Test}

-- two numbers compare so
abbrev pub Compares : Comparison → ℤ → ℤ → Type 0
Compares Comparison.Equal x y = x ≡ y
Compares Comparison.Different x y = x ≡ y → ⊥
Compares Comparison.AtMost x y = x ≤ℤ y
Compares Comparison.Less x y = x <ℤ y

-- the third number is that of the first two
abbrev pub Gives : Operation → ℤ → ℤ → ℤ → Type 0
Gives Operation.Sum x y z = x +ℤ y ≡ z
Gives Operation.Product x y z = x *ℤ y ≡ z
Gives Operation.Quotient x y z = IsQuotient x y z
Gives Operation.Remainder x y z = IsRemainder x y z
Gives Operation.Greatest x y z = int_max x y ≡ z
Gives Operation.Least x y z = int_min x y ≡ z

-- all booleans are true, or some is
abbrev pub Joined : Junction → List ℤ → Type 0
Joined Junction.All xs = All IsTrueNumber xs
Joined Junction.Some xs = Any IsTrueNumber xs

-- m is the greatest of the numbers, or the least
abbrev pub IsExtreme : Extreme → ℤ → List ℤ → Type 0
IsExtreme Extreme.Greatest m xs = IsMaximum m xs
IsExtreme Extreme.Least m xs = IsMinimum m xs

-- the relation that a test decides
abbrev pub Decided : Test → List ℤ → List Operand → Type 0
Decided (Test.Two comparison) = One2 (Compares comparison)
Decided (Test.Three operation) = One3 (Gives operation)
Decided (Test.Sum comparison) = Linear (Compares comparison)
Decided Test.Absolute = One2 (λ x y. pos (unsigned_abs x) ≡ y)
Decided (Test.Extreme extreme) = OneRow (IsExtreme extreme)
Decided Test.Entry = OneRowOne IsEntry
Decided Test.Member = OneSet (λ x s. IsIn s x)
Decided Test.Differing = Differs
Decided (Test.TwoJoined junction) = One3 (λ x y r. IsTrueNumber r ↔ Joined junction (x ∷ y ∷ []))
Decided (Test.RowJoined junction) = RowOne (λ xs r. IsTrueNumber r ↔ Joined junction xs)
Decided Test.Clause = Row2 IsClause
Decided Test.AllDifferent = OneRowAlone AreAllDifferent
Decided Test.Tasks = Row3One IsCumulative

-- that relation, or that the last argument is true exactly where it holds of the others
abbrev pub Demanded : Demand → List ℤ → List Operand → Type 0
Demanded (Demand.Plain test) a = Decided test a
Demanded (Demand.Reified test) a = Reified (Decided test a) a
