-- Each test of a constraint answers whether the constraint holds.
use Rattle.std.proofs.Common.{◌≡◌, ◌↔◌, ℤ, pos, Bool, not, List, [], ◌∷◌, ◌++◌, map, refl, sym, ap, subst, ◌∙◌}
use Rattle.std.specs.Prelude.{unsigned_abs, int_le, int_rem, ◌&&◌, ◌≤ℤ◌, ◌+ℤ◌, ◌*ℤ◌}
use Rattle.std.specs.Int.{int_min, int_max}
use Rattle.std.specs.Bool.{Decides}
use Rattle.std.specs.Ordering.{int_eq}
use Rattle.std.proofs.lemmas.Bool.Decides.{Decides-int_eq, Decides-and, Decides-or, Decides-not}
use Rattle.constraint_model.specs.declared.model.Term.{Term}
use Rattle.constraint_model.specs.declared.model.Operand.{Operand}
use Rattle.constraint_model.specs.Ranges.{IsIn}
use Rattle.constraint_model.specs.Relations.{value, One2, One3, OneRow, RowOne, Row2, OneRowOne, OneSet, OneRowAlone, Row3One, Reified, Linear, Differs, IsTrueNumber, IsEntry, IsClause, AreAllDifferent, IsCumulative, dot, quotient}
use Rattle.constraint_check.specs.declared.comparing.Comparison.{Comparison}
use Rattle.constraint_check.specs.declared.comparing.Operation.{Operation}
use Rattle.constraint_check.specs.declared.comparing.Extreme.{Extreme}
use Rattle.constraint_check.specs.declared.comparing.Junction.{Junction}
use Rattle.constraint_check.specs.declared.holding.Demand.{Demand}
use Rattle.constraint_check.specs.declared.shapes.Test.{Test}
use Rattle.constraint_check.specs.Decided.{Compares, Gives, Joined, IsExtreme, Decided, Demanded}
use Rattle.constraint_check.specs.Tests.{is_true, compares, is_absolute, gives, joined, is_clause, is_extreme, on_two, on_three, on_two_joined, on_row_joined, on_extreme, on_entry, on_set, on_clause, on_sum, on_differing, on_all_differ, on_tasks, reified, says, passes, is_met}
use Rattle.constraint_check.proofs.SumLaws.{rest_is}
use Rattle.constraint_check.proofs.TestLaws.{never, same_decides, le_decides, less_decides, differs_decides, true_decides, any_decides, all_decides, contains_decides, in_decides, entry_decides, differ_decides}
use Rattle.constraint_check.proofs.TaskLaws.{cumulative_decides}

-- ---- relations of numbers

compares_decides : (c : Comparison) (x y : ℤ) → Decides (compares c x y) (Compares c x y)
compares_decides Comparison.Equal x y = Decides-int_eq x y
compares_decides Comparison.Different x y = differs_decides x y
compares_decides Comparison.AtMost x y = le_decides x y
compares_decides Comparison.Less x y = less_decides x y

gives_decides : (o : Operation) (x y z : ℤ) → Decides (gives o x y z) (Gives o x y z)
unfolding gives quotient
gives_decides Operation.Sum x y z = Decides-int_eq (x +ℤ y) z
gives_decides Operation.Product x y z = Decides-int_eq (x *ℤ y) z
gives_decides Operation.Quotient x y z = Decides-and (not (int_eq y (pos 0))) (int_eq (quotient x y) z) (differs_decides y (pos 0)) (Decides-int_eq (quotient x y) z)
gives_decides Operation.Remainder x y z =
    subst (λ (w : ℤ). Decides (not (int_eq y (pos 0)) && int_eq (int_rem x y) z) ((y ≡ pos 0 → ⊥) × (w ≡ z))) (rest_is x y)
    (Decides-and (not (int_eq y (pos 0))) (int_eq (int_rem x y) z) (differs_decides y (pos 0)) (Decides-int_eq (int_rem x y) z))
gives_decides Operation.Greatest x y z = Decides-int_eq (int_max x y) z
gives_decides Operation.Least x y z = Decides-int_eq (int_min x y) z

-- ---- relations of rows

joined_decides : (j : Junction) (a : List ℤ) (terms : List Term) → Decides (joined j a terms) (Joined j (map (value a) terms))
joined_decides Junction.All a terms = all_decides (value a) is_true IsTrueNumber true_decides terms
joined_decides Junction.Some a terms = any_decides (value a) is_true IsTrueNumber true_decides terms

clause_decides : (a : List ℤ) (ps ns : List Term) → Decides (is_clause a ps ns) (IsClause (map (value a) ps) (map (value a) ns))
clause_decides a ps ns =
    Decides-or _ _ (any_decides (value a) is_true IsTrueNumber true_decides ps)
    (any_decides (value a) (λ z. not (is_true z)) (λ z. IsTrueNumber z → ⊥) (λ z. Decides-not (is_true z) (true_decides z)) ns)

extreme_decides : (e : Extreme) (a : List ℤ) (m : ℤ) (terms : List Term) → Decides (is_extreme e a m terms) (IsExtreme e m (map (value a) terms))
extreme_decides Extreme.Greatest a m terms = Decides-and _ _ (contains_decides (value a) m terms) (all_decides (value a) (λ z. int_le z m) (λ z. z ≤ℤ m) (λ z. le_decides z m) terms)
extreme_decides Extreme.Least a m terms = Decides-and _ _ (contains_decides (value a) m terms) (all_decides (value a) (λ z. int_le m z) (λ z. m ≤ℤ z) (λ z. le_decides m z) terms)

-- ---- shapes

module _ (a : List ℤ) where
  two_law : (f : ℤ → ℤ → Bool) (R : ℤ → ℤ → Type 0) → ((x y : ℤ) → Decides (f x y) (R x y)) → (os : List Operand) → Decides (on_two f a os) (One2 R a os)
  two_law f R h (Operand.One x ∷ Operand.One y ∷ []) = h (value a x) (value a y)
  two_law f R h _ = never

  three_law : (f : ℤ → ℤ → ℤ → Bool) (R : ℤ → ℤ → ℤ → Type 0) → ((x y z : ℤ) → Decides (f x y z) (R x y z)) → (os : List Operand) → Decides (on_three f a os) (One3 R a os)
  three_law f R h (Operand.One x ∷ Operand.One y ∷ Operand.One z ∷ []) = h (value a x) (value a y) (value a z)
  three_law f R h _ = never

  two_joined_law : (j : Junction) (os : List Operand) → Decides (on_two_joined j a os) (One3 (λ x y r. IsTrueNumber r ↔ Joined j (x ∷ y ∷ [])) a os)
  two_joined_law j (Operand.One x ∷ Operand.One y ∷ Operand.One r ∷ []) = same_decides (is_true (value a r)) _ (true_decides (value a r)) (joined_decides j a (x ∷ y ∷ []))
  two_joined_law j _ = never

  row_joined_law : (j : Junction) (os : List Operand) → Decides (on_row_joined j a os) (RowOne (λ xs r. IsTrueNumber r ↔ Joined j xs) a os)
  row_joined_law j (Operand.Row row ∷ Operand.One r ∷ []) = same_decides (is_true (value a r)) _ (true_decides (value a r)) (joined_decides j a row.terms)
  row_joined_law j _ = never

  extreme_law : (e : Extreme) (os : List Operand) → Decides (on_extreme e a os) (OneRow (IsExtreme e) a os)
  extreme_law e (Operand.One m ∷ Operand.Row row ∷ []) = extreme_decides e a (value a m) row.terms
  extreme_law e _ = never

  entry_law : (os : List Operand) → Decides (on_entry a os) (OneRowOne IsEntry a os)
  entry_law (Operand.One x ∷ Operand.Row row ∷ Operand.One c ∷ []) = entry_decides (value a) (value a x) row.terms (value a c)
  entry_law _ = never

  set_law : (os : List Operand) → Decides (on_set a os) (OneSet (λ x s. IsIn s x) a os)
  set_law (Operand.One x ∷ Operand.Set ranges ∷ []) = in_decides (value a x) ranges
  set_law _ = never

  clause_law : (os : List Operand) → Decides (on_clause a os) (Row2 IsClause a os)
  clause_law (Operand.Row ps ∷ Operand.Row ns ∷ []) = clause_decides a ps.terms ns.terms
  clause_law _ = never

  sum_law : (c : Comparison) (os : List Operand) → Decides (on_sum c a os) (Linear (Compares c) a os)
  sum_law c (Operand.Row cs ∷ Operand.Row xs ∷ Operand.One limit ∷ []) = compares_decides c (dot (map (value a) cs.terms) (map (value a) xs.terms)) (value a limit)
  sum_law c _ = never

  differing_law : (os : List Operand) → Decides (on_differing a os) (Differs a os)
  differing_law (Operand.One x ∷ Operand.One y ∷ []) = differs_decides (value a x) (value a y)
  differing_law (Operand.One x ∷ Operand.One y ∷ Operand.One r ∷ []) = same_decides (is_true (value a r)) _ (true_decides (value a r)) (differs_decides (value a x) (value a y))
  differing_law _ = never

  all_differ_law : (os : List Operand) → Decides (on_all_differ a os) (OneRowAlone AreAllDifferent a os)
  all_differ_law (Operand.Row xs ∷ []) = differ_decides a xs.terms
  all_differ_law _ = never

  tasks_law : (os : List Operand) → Decides (on_tasks a os) (Row3One IsCumulative a os)
  tasks_law (Operand.Row ss ∷ Operand.Row ds ∷ Operand.Row rs ∷ Operand.One b ∷ []) = cumulative_decides (map (value a) ss.terms) (map (value a) ds.terms) (map (value a) rs.terms) (value a b)
  tasks_law _ = never

  reified_law : (f : List Operand → Bool) (H : List Operand → Type 0) → ((os : List Operand) → Decides (f os) (H os)) → (os : List Operand) → Decides (reified f a os) (Reified H a os)
  reified_law f H h [] = never
  reified_law f H h (Operand.One r ∷ []) = same_decides (is_true (value a r)) (f []) (true_decides (value a r)) (h [])
  reified_law f H h (Operand.One r ∷ o ∷ os) = reified_law (λ rest. f (Operand.One r ∷ rest)) (λ rest. H (Operand.One r ∷ rest)) (λ rest. h (Operand.One r ∷ rest)) (o ∷ os)
  reified_law f H h (Operand.Row row ∷ os) = reified_law (λ rest. f (Operand.Row row ∷ rest)) (λ rest. H (Operand.Row row ∷ rest)) (λ rest. h (Operand.Row row ∷ rest)) os
  reified_law f H h (Operand.Set ranges ∷ os) = reified_law (λ rest. f (Operand.Set ranges ∷ rest)) (λ rest. H (Operand.Set ranges ∷ rest)) (λ rest. h (Operand.Set ranges ∷ rest)) os

-- ---- tests

-- a fact is equivalent to itself, in whatever words
pub exactly : (A : Type 0) → A ↔ A
exactly A = (λ h. h, λ h. h)

test_law : (test : Test) (a : List ℤ) (os : List Operand) → Decides (passes test a os) (Decided test a os)
test_law (Test.Two c) a os = two_law a (compares c) (Compares c) (compares_decides c) os
test_law (Test.Three o) a os = three_law a (gives o) (Gives o) (gives_decides o) os
test_law (Test.Sum c) a os = sum_law a c os
test_law Test.Absolute a os = two_law a is_absolute (λ x y. pos (unsigned_abs x) ≡ y) (λ x y. Decides-int_eq (pos (unsigned_abs x)) y) os
test_law (Test.Extreme e) a os = extreme_law a e os
test_law Test.Entry a os = entry_law a os
test_law Test.Member a os = set_law a os
test_law Test.Differing a os = differing_law a os
test_law (Test.TwoJoined j) a os = two_joined_law a j os
test_law (Test.RowJoined j) a os = row_joined_law a j os
test_law Test.Clause a os = clause_law a os
test_law Test.AllDifferent a os = all_differ_law a os
test_law Test.Tasks a os = tasks_law a os

demand_law : (demand : Demand) (a : List ℤ) (os : List Operand) → Decides (is_met demand a os) (Demanded demand a os)
demand_law (Demand.Plain test) a os = test_law test a os
demand_law (Demand.Reified test) a os = reified_law a (passes test a) (Decided test a) (test_law test a) os

-- the answer of a constraint's test, where the test is that of its relation
pub holds_law : (demand : Demand) (a : List ℤ) (os : List Operand) (H : Type 0) → (H ↔ Demanded demand a os) → Decides (is_met demand a os) H
holds_law demand a os H is = let law = demand_law demand a os in (λ e. is.1 (law.0 e), λ k. law.1 (is.0 k))

-- ---- the last argument

pub reified_is : (f : List Operand → Bool) (a : List ℤ) (front : List Operand) (last : Operand) → reified f a (front ++ last ∷ []) ≡ says a last (f front)
reified_is f a [] (Operand.One r) = refl
reified_is f a [] (Operand.Row row) = refl
reified_is f a [] (Operand.Set ranges) = refl
reified_is f a (Operand.One x ∷ []) last = reified_is (λ rest. f (Operand.One x ∷ rest)) a [] last
reified_is f a (Operand.One x ∷ o ∷ os) last = reified_is (λ rest. f (Operand.One x ∷ rest)) a (o ∷ os) last
reified_is f a (Operand.Row row ∷ os) last = reified_is (λ rest. f (Operand.Row row ∷ rest)) a os last
reified_is f a (Operand.Set ranges ∷ os) last = reified_is (λ rest. f (Operand.Set ranges ∷ rest)) a os last

pub reified_last : (f : List Operand → Bool) (a : List ℤ) (all front : List Operand) (last : Operand) (b r : Bool) → all ≡ front ++ last ∷ [] → b ≡ f front → r ≡ says a last b → r ≡ reified f a all
reified_last f a all front last b r split is said = said ∙ ap (says a last) is ∙ sym (reified_is f a front last) ∙ ap (reified f a) (sym split)
