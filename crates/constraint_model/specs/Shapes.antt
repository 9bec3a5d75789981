-- What constraints are made of: the shapes of arguments, and the relations of their numbers.
-- (MiniZinc Handbook: FlatZinc builtins.)
use Rattle.std.specs.Prelude.{◌≡◌, ◌≢◌, ◌⊎◌, ◌↔◌, ℕ, ◌+◌, ◌<◌, ℤ, pos, int_div, ◌+ℤ◌, ◌-ℤ◌, ◌*ℤ◌, ◌≤ℤ◌, List, [], ◌∷◌, length, map, All, Any, AllPairs, Contains, slice_index_or, Bool, ◌&&◌, cond, int_le, int_lt}
use Rattle.constraint_model.specs.declared.model.Term.{Term}
use Rattle.constraint_model.specs.declared.model.Operand.{Operand}
use Rattle.constraint_model.specs.Ranges.{Range}

-- the number of a term: its own, or the one that the assignment gives to its variable
abbrev pub value : List ℤ → Term → ℤ
value a (Term.Number n) = n
value a (Term.Var v) = slice_index_or a v (pos 0)

-- a boolean is a number, 1 for true and 0 for false
abbrev pub IsTrueNumber : ℤ → Type 0
IsTrueNumber z = pos 1 ≤ℤ z

-- ---- the shapes of arguments

abbrev pub One2 : (ℤ → ℤ → Type 0) → List ℤ → List Operand → Type 0
One2 R a (Operand.One x ∷ Operand.One y ∷ []) = R (value a x) (value a y)
One2 R a _ = ⊥

abbrev pub One3 : (ℤ → ℤ → ℤ → Type 0) → List ℤ → List Operand → Type 0
One3 R a (Operand.One x ∷ Operand.One y ∷ Operand.One z ∷ []) = R (value a x) (value a y) (value a z)
One3 R a _ = ⊥

abbrev pub OneRow : (ℤ → List ℤ → Type 0) → List ℤ → List Operand → Type 0
OneRow R a (Operand.One x ∷ Operand.Row ys ∷ []) = R (value a x) (map (value a) ys.terms)
OneRow R a _ = ⊥

abbrev pub RowOne : (List ℤ → ℤ → Type 0) → List ℤ → List Operand → Type 0
RowOne R a (Operand.Row xs ∷ Operand.One y ∷ []) = R (map (value a) xs.terms) (value a y)
RowOne R a _ = ⊥

abbrev pub Row2 : (List ℤ → List ℤ → Type 0) → List ℤ → List Operand → Type 0
Row2 R a (Operand.Row xs ∷ Operand.Row ys ∷ []) = R (map (value a) xs.terms) (map (value a) ys.terms)
Row2 R a _ = ⊥

abbrev pub Row2One : (List ℤ → List ℤ → ℤ → Type 0) → List ℤ → List Operand → Type 0
Row2One R a (Operand.Row xs ∷ Operand.Row ys ∷ Operand.One z ∷ []) = R (map (value a) xs.terms) (map (value a) ys.terms) (value a z)
Row2One R a _ = ⊥

abbrev pub OneRowOne : (ℤ → List ℤ → ℤ → Type 0) → List ℤ → List Operand → Type 0
OneRowOne R a (Operand.One x ∷ Operand.Row ys ∷ Operand.One z ∷ []) = R (value a x) (map (value a) ys.terms) (value a z)
OneRowOne R a _ = ⊥

abbrev pub OneSet : (ℤ → List Range → Type 0) → List ℤ → List Operand → Type 0
OneSet R a (Operand.One x ∷ Operand.Set s ∷ []) = R (value a x) s
OneSet R a _ = ⊥

abbrev pub OneRowAlone : (List ℤ → Type 0) → List ℤ → List Operand → Type 0
OneRowAlone R a (Operand.Row xs ∷ []) = R (map (value a) xs.terms)
OneRowAlone R a _ = ⊥

abbrev pub Row3One : (List ℤ → List ℤ → List ℤ → ℤ → Type 0) → List ℤ → List Operand → Type 0
Row3One R a (Operand.Row xs ∷ Operand.Row ys ∷ Operand.Row zs ∷ Operand.One c ∷ []) =
    R (map (value a) xs.terms) (map (value a) ys.terms) (map (value a) zs.terms) (value a c)
Row3One R a _ = ⊥

-- behind the arguments of a constraint comes a boolean, which is true exactly where the constraint holds
abbrev pub Reified : (List Operand → Type 0) → List ℤ → List Operand → Type 0
Reified Holds a [] = ⊥
Reified Holds a (Operand.One r ∷ []) = IsTrueNumber (value a r) ↔ Holds []
Reified Holds a (o ∷ os) = Reified (λ rest. Holds (o ∷ rest)) a os

-- ---- the relations

-- the sum of the products of coefficients and numbers
abbrev pub dot : List ℤ → List ℤ → ℤ
dot (c ∷ cs) (x ∷ xs) = (c *ℤ x) +ℤ dot cs xs
dot _ _ = pos 0

abbrev pub Linear : (ℤ → ℤ → Type 0) → List ℤ → List Operand → Type 0
Linear R a operands = Row2One (λ cs xs c. R (dot cs xs) c) a operands

-- x divided by y, rounded toward zero
unfoldable pub quotient : ℤ → ℤ → ℤ
quotient x y = int_div x y

-- z is that quotient, or what y times it leaves of x; there is neither where y is 0
abbrev pub IsQuotient : ℤ → ℤ → ℤ → Type 0
IsQuotient x y z = (y ≢ pos 0) × (quotient x y ≡ z)

abbrev pub IsRemainder : ℤ → ℤ → ℤ → Type 0
IsRemainder x y z = (y ≢ pos 0) × (x -ℤ (y *ℤ quotient x y) ≡ z)

-- the entry at place x, counted from 1, is c
pub record IsEntry (x : ℤ) (entries : List ℤ) (c : ℤ) : Type 0 where
  pub place : ℕ
  pub inside : place < length entries
  pub counted : x ≡ pos (place + 1)
  pub entry : slice_index_or entries place (pos 0) ≡ c

-- m is an entry and none is greater, or less
abbrev pub IsMaximum : ℤ → List ℤ → Type 0
IsMaximum m xs = Contains xs m × All (λ x. x ≤ℤ m) xs

abbrev pub IsMinimum : ℤ → List ℤ → Type 0
IsMinimum m xs = Contains xs m × All (λ x. m ≤ℤ x) xs

-- r is true exactly where all are true, or where some is
abbrev pub IsConjunction : List ℤ → ℤ → Type 0
IsConjunction xs r = IsTrueNumber r ↔ All IsTrueNumber xs

abbrev pub IsDisjunction : List ℤ → ℤ → Type 0
IsDisjunction xs r = IsTrueNumber r ↔ Any IsTrueNumber xs

-- one of the first is true or one of the second is false
abbrev pub IsClause : List ℤ → List ℤ → Type 0
IsClause ps ns = Any IsTrueNumber ps ⊎ Any (λ x. IsTrueNumber x → ⊥) ns

-- two arguments differ; or the third is true exactly where they do
abbrev pub Differs : List ℤ → List Operand → Type 0
Differs a (Operand.One x ∷ Operand.One y ∷ []) = value a x ≢ value a y
Differs a (Operand.One x ∷ Operand.One y ∷ Operand.One r ∷ []) = IsTrueNumber (value a r) ↔ (value a x ≢ value a y)
Differs a _ = ⊥

-- no two places have the same number
abbrev pub AreAllDifferent : List ℤ → Type 0
AreAllDifferent xs = AllPairs (λ x y. x ≢ y) xs

-- a task with this start and this duration is under way at a time
abbrev pub is_under_way : ℤ → ℤ → ℤ → Bool
is_under_way start duration t = int_le start t && int_lt t (start +ℤ duration)

-- what the tasks with these starts, durations and usages use at a time
abbrev pub used_at : List ℤ → List ℤ → List ℤ → ℤ → ℤ
used_at (s ∷ ss) (d ∷ ds) (r ∷ rs) t = cond (is_under_way s d t) r (pos 0) +ℤ used_at ss ds rs t
used_at _ _ _ t = pos 0

-- at no whole time they use more than the limit
abbrev pub IsCumulative : List ℤ → List ℤ → List ℤ → ℤ → Type 0
IsCumulative starts durations usages limit = (t : ℤ) → used_at starts durations usages t ≤ℤ limit
