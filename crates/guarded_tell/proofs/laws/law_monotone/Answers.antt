-- One line for each kernel.
use Rattle.std.proofs.Common.{◌≡◌, ℕ, ℤ, List, length, [], ◌∷◌, ◌≤◌}
use Rattle.std.specs.List.{All}
use Rattle.interval.specs.Boxes.{Bounds, IsInRange}
use Rattle.guarded_tell.specs.declared.kernel.Kernel.{Kernel}
use Rattle.guarded_tell.specs.declared.kernel.Kernel.TheVariants.{Le, Eq, Times, Div, Mod, Abs, Max, Min, Clause, Element, InSet, AllDiff, Cumulative}
use Rattle.guarded_tell.specs.Words.{Keeps, IsProperIn, IsInsideIn, AreVariables}
use Rattle.guarded_tell.specs.Kernels.{vars_of, tells, IsKernel, IsClosedUnder, HasNumbers}
use Rattle.set_tells.specs.InSet.{IsSet}
use Rattle.set_tells.specs.InSet.{in_set_tells}
use Rattle.tells.specs.declared.tell.Lit.{Lit}
use Rattle.element_tells.specs.Element.{element_tells}
use Rattle.extreme_tells.specs.Extremes.{member_limit}
use Rattle.extreme_tells.specs.Maximum.{max_tells}
use Rattle.extreme_tells.specs.Minimum.{min_tells}
use Rattle.tells.specs.Laws.{IsMonotone}
use Rattle.sum_tells.specs.Linear.{at_most_tells}
use Rattle.sum_tells.specs.Equality.{eq_tells}
use Rattle.clause_tells.specs.Clause.{clause_vars, clause_tells}
use Rattle.arithmetic_tells.specs.Absolute.{abs_tells}
use Rattle.arithmetic_tells.specs.Division.{div_tells}
use Rattle.arithmetic_tells.specs.Remainder.{mod_tells}
use Rattle.arithmetic_tells.specs.Times.{times_tells}
use Rattle.global_tells.specs.AllDifferent.{all_different_tells}
use Rattle.global_tells.specs.Cumulative.{AreTasks, tasks_of, cumulative_tells}
use Rattle.guarded_tell.proofs.laws.law_monotone.Goals as goal

-- the laws of the families
record Monotone : Type 0 where
  inequality : (l : Lit) (coeffs : List ℤ) (vars : List ℕ) (limit : ℤ) → length coeffs ≡ length vars → IsMonotone (l.var ∷ vars) (at_most_tells l coeffs vars limit)
  equation : (l : Lit) (coeffs : List ℤ) (vars : List ℕ) (limit : ℤ) → length coeffs ≡ length vars → IsMonotone (l.var ∷ vars) (eq_tells l coeffs vars limit)
  clause : (lits : List Lit) → IsMonotone (clause_vars lits) (clause_tells lits)
  product : (x y z : ℕ) → IsMonotone (x ∷ y ∷ z ∷ []) (times_tells x y z)
  quotient : (x y z : ℕ) → IsMonotone (x ∷ y ∷ z ∷ []) (div_tells x y z)
  remainder : (x y z : ℕ) → IsMonotone (x ∷ y ∷ z ∷ []) (mod_tells x y z)
  absolute : (x y : ℕ) → IsMonotone (x ∷ y ∷ []) (abs_tells x y)
  maximum : (m : ℕ) (xs : List ℕ) → IsMonotone (m ∷ xs) (max_tells m xs)
  minimum : (m : ℕ) (xs : List ℕ) → IsMonotone (m ∷ xs) (min_tells m xs)
  element : (x : ℕ) (entries : List ℕ) (z : ℕ) → length entries ≤ member_limit → IsMonotone (x ∷ z ∷ entries) (element_tells x entries z)
  in_set : (l : Lit) (x : ℕ) (ranges : List (ℤ × ℤ)) → IsSet ranges → IsMonotone (l.var ∷ x ∷ []) (in_set_tells l x ranges)
  different : (xs : List ℕ) (outer inner : Bounds) → AreVariables (length outer) xs → IsInRange outer → IsProperIn xs inner → IsInsideIn xs inner outer
      → All (Keeps inner) (all_different_tells xs inner) → All (Keeps inner) (all_different_tells xs outer)
  cumulative : (s : List ℕ) (d r : List ℤ) (limit : ℤ) (outer inner : Bounds) → AreTasks s d r limit → AreVariables (length outer) s → IsInRange outer → IsProperIn s inner → IsInsideIn s inner outer
      → All (Keeps inner) (cumulative_tells (tasks_of s d r) limit inner) → All (Keeps inner) (cumulative_tells (tasks_of s d r) limit outer)

monotone : Monotone → (k : Kernel) (outer inner : Bounds) → IsKernel (length outer) k → IsInRange outer → IsClosedUnder k inner → IsInsideIn (vars_of k) inner outer → All (Keeps inner) (tells k outer)
unfolding vars_of tells HasNumbers
monotone o (Le l coeffs vars limit) outer inner k range closed inside = o.inequality l coeffs vars limit k.numbers.same_length outer inner k.variables range closed.proper inside closed.kept
monotone o (Eq l coeffs vars limit) outer inner k range closed inside = o.equation l coeffs vars limit k.numbers.same_length outer inner k.variables range closed.proper inside closed.kept
monotone o (Times x y z) outer inner k range closed inside = o.product x y z outer inner k.variables range closed.proper inside closed.kept
monotone o (Div x y z) outer inner k range closed inside = o.quotient x y z outer inner k.variables range closed.proper inside closed.kept
monotone o (Mod x y z) outer inner k range closed inside = o.remainder x y z outer inner k.variables range closed.proper inside closed.kept
monotone o (Abs x y) outer inner k range closed inside = o.absolute x y outer inner k.variables range closed.proper inside closed.kept
monotone o (Max m xs) outer inner k range closed inside = o.maximum m xs outer inner k.variables range closed.proper inside closed.kept
monotone o (Min m xs) outer inner k range closed inside = o.minimum m xs outer inner k.variables range closed.proper inside closed.kept
monotone o (Clause lits) outer inner k range closed inside = o.clause lits outer inner k.variables range closed.proper inside closed.kept
monotone o (Element x entries z) outer inner k range closed inside = o.element x entries z k.numbers outer inner k.variables range closed.proper inside closed.kept
monotone o (InSet l x ranges) outer inner k range closed inside = o.in_set l x ranges k.numbers outer inner k.variables range closed.proper inside closed.kept
monotone o (AllDiff xs) outer inner k range closed inside = o.different xs outer inner k.variables range closed.proper inside closed.kept
monotone o (Cumulative starts durations usages limit) outer inner k range closed inside = o.cumulative starts durations usages limit outer inner k.numbers k.variables range closed.proper inside closed.kept

pub returns : goal.returns
returns c = λ k outer inner kernel range same proper closed inside.
    let laws : Monotone = record { inequality = c.law_inequality_monotone.ensures; equation = c.law_equation_monotone.ensures; clause = c.law_clause_monotone.ensures; product = c.law_product_monotone.ensures; quotient = c.law_quotient_monotone.ensures; remainder = c.law_remainder_monotone.ensures; absolute = c.law_absolute_monotone.ensures; maximum = c.law_maximum_monotone.ensures; minimum = c.law_minimum_monotone.ensures; element = c.law_element_monotone.ensures; in_set = c.law_in_set_monotone.ensures; different = c.law_all_different_monotone.ensures; cumulative = c.law_cumulative_monotone.ensures } in
    monotone laws k outer inner kernel range closed inside
