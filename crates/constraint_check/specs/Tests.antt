-- The relations of constraints as tests: what `Relations` says of numbers, with an answer that is computed.
use Rattle.std.specs.Prelude.{◌-◌, ℤ, pos, ◌+ℤ◌, ◌*ℤ◌, unsigned_abs, int_rem, Bool, true, false, not, ◌&&◌, ◌||◌, int_le, List, [], ◌∷◌, map, slice_get}
use Rattle.std.specs.Option.{option_map_or}
use Rattle.std.specs.Int.{int_min, int_max}
use Rattle.std.specs.List.{list_any, list_all}
use Rattle.std.specs.Ordering.{int_eq}
use Rattle.constraint_model.specs.declared.model.Term.{Term}
use Rattle.constraint_model.specs.declared.model.Operand.{Operand}
use Rattle.constraint_model.specs.Ranges.{Range}
use Rattle.constraint_model.specs.Relations.{value, dot, quotient, used_at}
use Rattle.constraint_check.specs.declared.comparing.Comparison.{Comparison}
use Rattle.constraint_check.specs.declared.comparing.Operation.{Operation}
use Rattle.constraint_check.specs.declared.comparing.Extreme.{Extreme}
use Rattle.constraint_check.specs.declared.comparing.Junction.{Junction}
use Rattle.constraint_check.specs.declared.holding.Demand.{Demand}
use Rattle.constraint_check.specs.declared.shapes.Test.{Test}
use Rattle.constraint_check.specs.declared.tasks.Tasks.{Tasks}

-- a boolean is true
abbrev pub is_true : ℤ → Bool
is_true z = int_le (pos 1) z

-- both are true, or neither is
abbrev pub same : Bool → Bool → Bool
same true b = b
same false b = not b

-- two numbers compare so
abbrev pub compares : Comparison → ℤ → ℤ → Bool
compares Comparison.Equal x y = int_eq x y
compares Comparison.Different x y = not (int_eq x y)
compares Comparison.AtMost x y = int_le x y
compares Comparison.Less x y = not (int_le y x)

-- the second is the first without its sign
abbrev pub is_absolute : ℤ → ℤ → Bool
is_absolute x y = int_eq (pos (unsigned_abs x)) y

-- the third number is that of the first two
unfoldable pub gives : Operation → ℤ → ℤ → ℤ → Bool
gives Operation.Sum x y z = int_eq (x +ℤ y) z
gives Operation.Product x y z = int_eq (x *ℤ y) z
gives Operation.Quotient x y z = not (int_eq y (pos 0)) && int_eq (quotient x y) z
gives Operation.Remainder x y z = not (int_eq y (pos 0)) && int_eq (int_rem x y) z
gives Operation.Greatest x y z = int_eq (int_max x y) z
gives Operation.Least x y z = int_eq (int_min x y) z

-- ---- rows of terms

abbrev pub some_true : List ℤ → List Term → Bool
some_true a terms = list_any (λ t. is_true (value a t)) terms

abbrev pub all_true : List ℤ → List Term → Bool
all_true a terms = list_all (λ t. is_true (value a t)) terms

-- all are true, or some is
abbrev pub joined : Junction → List ℤ → List Term → Bool
joined Junction.All a terms = all_true a terms
joined Junction.Some a terms = some_true a terms

-- one of the first is true or one of the second isn't
abbrev pub is_clause : List ℤ → List Term → List Term → Bool
is_clause a positive negative = some_true a positive || list_any (λ t. not (is_true (value a t))) negative

-- m is one of the numbers of the terms, and none is greater, or less
abbrev pub is_extreme : Extreme → List ℤ → ℤ → List Term → Bool
is_extreme Extreme.Greatest a m terms = list_any (λ t. int_eq (value a t) m) terms && list_all (λ t. int_le (value a t) m) terms
is_extreme Extreme.Least a m terms = list_any (λ t. int_eq (value a t) m) terms && list_all (λ t. int_le m (value a t)) terms

-- the term at place x, counted from 1, is c
abbrev pub is_entry : List ℤ → ℤ → List Term → ℤ → Bool
is_entry a x terms c = int_le (pos 1) x && option_map_or (λ t. int_eq (value a t) c) (slice_get terms (unsigned_abs x - 1)) false

-- the number lies in one of the ranges
abbrev pub is_in : ℤ → List Range → Bool
is_in x ranges = list_any (λ r. int_le r.0 x && int_le x r.1) ranges

-- no two of the terms have the same number
abbrev pub all_differ : List ℤ → List Term → Bool
all_differ a [] = true
all_differ a (t ∷ ts) = not (list_any (λ u. int_eq (value a u) (value a t)) ts) && all_differ a ts

-- what tasks use at a time
abbrev pub used_by : Tasks → List ℤ → ℤ → ℤ
used_by tasks a t = used_at (map (value a) tasks.starts.now) (map (value a) tasks.durations.now) (map (value a) tasks.usages.now) t

-- the times at which tasks with these starts and durations begin and end
abbrev pub changes : List ℤ → List ℤ → List ℤ
changes (s ∷ ss) (d ∷ ds) = s ∷ (s +ℤ d) ∷ changes ss ds
changes _ _ = []

-- what they use is within the limit wherever it changes, and where they use nothing
abbrev pub is_cumulative : List ℤ → List ℤ → List ℤ → ℤ → Bool
is_cumulative starts durations usages limit =
    int_le (pos 0) limit && list_all (λ t. int_le (used_at starts durations usages t) limit) (changes starts durations)

-- ---- the shapes of arguments

abbrev pub on_two : (ℤ → ℤ → Bool) → List ℤ → List Operand → Bool
on_two f a (Operand.One x ∷ Operand.One y ∷ []) = f (value a x) (value a y)
on_two f a _ = false

abbrev pub on_three : (ℤ → ℤ → ℤ → Bool) → List ℤ → List Operand → Bool
on_three f a (Operand.One x ∷ Operand.One y ∷ Operand.One z ∷ []) = f (value a x) (value a y) (value a z)
on_three f a _ = false

-- the third boolean is true exactly where the first two are so
abbrev pub on_two_joined : Junction → List ℤ → List Operand → Bool
on_two_joined j a (Operand.One x ∷ Operand.One y ∷ Operand.One r ∷ []) = same (is_true (value a r)) (joined j a (x ∷ y ∷ []))
on_two_joined j a _ = false

abbrev pub on_row_joined : Junction → List ℤ → List Operand → Bool
on_row_joined j a (Operand.Row row ∷ Operand.One r ∷ []) = same (is_true (value a r)) (joined j a row.terms)
on_row_joined j a _ = false

abbrev pub on_extreme : Extreme → List ℤ → List Operand → Bool
on_extreme e a (Operand.One m ∷ Operand.Row row ∷ []) = is_extreme e a (value a m) row.terms
on_extreme e a _ = false

abbrev pub on_entry : List ℤ → List Operand → Bool
on_entry a (Operand.One x ∷ Operand.Row row ∷ Operand.One c ∷ []) = is_entry a (value a x) row.terms (value a c)
on_entry a _ = false

abbrev pub on_set : List ℤ → List Operand → Bool
on_set a (Operand.One x ∷ Operand.Set ranges ∷ []) = is_in (value a x) ranges
on_set a _ = false

abbrev pub on_clause : List ℤ → List Operand → Bool
on_clause a (Operand.Row ps ∷ Operand.Row ns ∷ []) = is_clause a ps.terms ns.terms
on_clause a _ = false

abbrev pub on_all_differ : List ℤ → List Operand → Bool
on_all_differ a (Operand.Row xs ∷ []) = all_differ a xs.terms
on_all_differ a _ = false

abbrev pub on_tasks : List ℤ → List Operand → Bool
on_tasks a (Operand.Row ss ∷ Operand.Row ds ∷ Operand.Row rs ∷ Operand.One limit ∷ []) =
    is_cumulative (map (value a) ss.terms) (map (value a) ds.terms) (map (value a) rs.terms) (value a limit)
on_tasks a _ = false

-- the sum of the products of coefficients and numbers compares so with a third argument
abbrev pub sum_compares : Comparison → List ℤ → List Term → List Term → Term → Bool
sum_compares c a coefficients terms limit = compares c (dot (map (value a) coefficients) (map (value a) terms)) (value a limit)

abbrev pub on_sum : Comparison → List ℤ → List Operand → Bool
on_sum c a (Operand.Row cs ∷ Operand.Row xs ∷ Operand.One limit ∷ []) = sum_compares c a cs.terms xs.terms limit
on_sum c a _ = false

-- two arguments differ; or the third is true exactly where they do
abbrev pub on_differing : List ℤ → List Operand → Bool
on_differing a (Operand.One x ∷ Operand.One y ∷ []) = compares Comparison.Different (value a x) (value a y)
on_differing a (Operand.One x ∷ Operand.One y ∷ Operand.One r ∷ []) = same (is_true (value a r)) (compares Comparison.Different (value a x) (value a y))
on_differing a _ = false

-- behind the arguments of a constraint comes a boolean, which is true exactly where the constraint holds
abbrev pub reified : (List Operand → Bool) → List ℤ → List Operand → Bool
reified f a [] = false
reified f a (Operand.One r ∷ []) = same (is_true (value a r)) (f [])
reified f a (o ∷ os) = reified (λ rest. f (o ∷ rest)) a os

-- the last argument says so
abbrev pub says : List ℤ → Operand → Bool → Bool
says a (Operand.One r) b = same (is_true (value a r)) b
says a _ b = false

-- ---- tests

-- the arguments pass a test
abbrev pub passes : Test → List ℤ → List Operand → Bool
passes (Test.Two comparison) = on_two (compares comparison)
passes (Test.Three operation) = on_three (gives operation)
passes (Test.Sum comparison) = on_sum comparison
passes Test.Absolute = on_two is_absolute
passes (Test.Extreme extreme) = on_extreme extreme
passes Test.Entry = on_entry
passes Test.Member = on_set
passes Test.Differing = on_differing
passes (Test.TwoJoined junction) = on_two_joined junction
passes (Test.RowJoined junction) = on_row_joined junction
passes Test.Clause = on_clause
passes Test.AllDifferent = on_all_differ
passes Test.Tasks = on_tasks

-- they pass it, or the last of them says whether the others do
abbrev pub is_met : Demand → List ℤ → List Operand → Bool
is_met (Demand.Plain test) a operands = passes test a operands
is_met (Demand.Reified test) a operands = reified (passes test a) a operands
