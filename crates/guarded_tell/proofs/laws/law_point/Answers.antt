-- One line for each kernel.
use Rattle.std.proofs.Common.{◌≡◌, ℕ, ℤ, ◌<◌, ◌↔◌, List, length, arith, [], ◌∷◌}
use Rattle.std.proofs.lemmas.Int.{ints}
use Rattle.std.specs.List.{All}
use Rattle.interval.specs.Limits.{IsNumber}
use Rattle.interval.specs.Boxes.{Bounds, low_of, IsPoint}
use Rattle.guarded_tell.specs.declared.kernel.Kernel.{Kernel}
use Rattle.guarded_tell.specs.declared.kernel.Kernel.TheVariants.{Le, Eq, Times, Div, Mod, Abs, Max, Min, Clause, Element, InSet, AllDiff, Cumulative}
use Rattle.guarded_tell.specs.Words.{Keeps, IsProperIn, point_of, AreVariables}
use Rattle.guarded_tell.specs.Kernels.{vars_of, tells, Holds, HasNumbers}
use Rattle.set_tells.specs.InSet.{in_set_tells, IsInSet}
use Rattle.tells.specs.declared.tell.Lit.{Lit}
use Rattle.element_tells.specs.Element.{element_tells, IsElement}
use Rattle.extreme_tells.specs.Maximum.{max_tells, IsGreatestOf}
use Rattle.extreme_tells.specs.Minimum.{min_tells, IsLeastOf}
use Rattle.tells.specs.Laws.{IsExact}
use Rattle.sum_tells.specs.Linear.{at_most_tells, IsAtMost}
use Rattle.sum_tells.specs.Equality.{eq_tells, IsEquation}
use Rattle.clause_tells.specs.Clause.{clause_vars, clause_tells, IsClause}
use Rattle.arithmetic_tells.specs.Absolute.{abs_tells, IsAbsolute}
use Rattle.arithmetic_tells.specs.Division.{div_tells, IsQuotient}
use Rattle.arithmetic_tells.specs.Remainder.{mod_tells, IsRemainder}
use Rattle.arithmetic_tells.specs.Times.{times_tells, IsProduct}
use Rattle.global_tells.specs.AllDifferent.{all_different_tells, AreAllDifferent}
use Rattle.global_tells.specs.Cumulative.{AreTasks, tasks_of, cumulative_tells, IsCumulative}
use Rattle.guarded_tell.proofs.laws.law_point.Goals as goal

-- the points of the families
record Points : Type 0 where
  inequality : (l : Lit) (coeffs : List ℤ) (vars : List ℕ) (limit : ℤ) → length coeffs ≡ length vars → IsExact (l.var ∷ vars) (at_most_tells l coeffs vars limit) (IsAtMost l coeffs vars limit)
  equation : (l : Lit) (coeffs : List ℤ) (vars : List ℕ) (limit : ℤ) → length coeffs ≡ length vars → IsExact (l.var ∷ vars) (eq_tells l coeffs vars limit) (IsEquation l coeffs vars limit)
  clause : (lits : List Lit) → IsExact (clause_vars lits) (clause_tells lits) (IsClause lits)
  product : (x y z : ℕ) → IsExact (x ∷ y ∷ z ∷ []) (times_tells x y z) (IsProduct x y z)
  quotient : (x y z : ℕ) → IsExact (x ∷ y ∷ z ∷ []) (div_tells x y z) (IsQuotient x y z)
  remainder : (x y z : ℕ) → IsExact (x ∷ y ∷ z ∷ []) (mod_tells x y z) (IsRemainder x y z)
  absolute : (x y : ℕ) → IsExact (x ∷ y ∷ []) (abs_tells x y) (IsAbsolute x y)
  maximum : (m : ℕ) (xs : List ℕ) → IsExact (m ∷ xs) (max_tells m xs) (IsGreatestOf m xs)
  minimum : (m : ℕ) (xs : List ℕ) → IsExact (m ∷ xs) (min_tells m xs) (IsLeastOf m xs)
  element : (x : ℕ) (entries : List ℕ) (z : ℕ) → IsExact (x ∷ z ∷ entries) (element_tells x entries z) (IsElement x entries z)
  in_set : (l : Lit) (x : ℕ) (ranges : List (ℤ × ℤ)) → IsExact (l.var ∷ x ∷ []) (in_set_tells l x ranges) (IsInSet l x ranges)
  different : (xs : List ℕ) (b : Bounds) → AreVariables (length b) xs → IsPoint b → All (Keeps b) (all_different_tells xs b) ↔ AreAllDifferent xs (point_of b)
  cumulative : (s : List ℕ) (d r : List ℤ) (limit : ℤ) (b : Bounds) → AreTasks s d r limit → AreVariables (length b) s → IsPoint b
      → All (Keeps b) (cumulative_tells (tasks_of s d r) limit b) ↔ IsCumulative (tasks_of s d r) limit (point_of b)

closed_holds : Points → (k : Kernel) (b : Bounds) → HasNumbers k → AreVariables (length b) (vars_of k) → IsPoint b → ((v : ℕ) → v < length b → IsNumber (low_of b v)) → All (Keeps b) (tells k b) → Holds k (point_of b)
unfolding vars_of tells HasNumbers Holds
closed_holds o (Le l coeffs vars limit) b n variables point numbers = (o.inequality l coeffs vars limit n.same_length b variables point numbers).0
closed_holds o (Eq l coeffs vars limit) b n variables point numbers = (o.equation l coeffs vars limit n.same_length b variables point numbers).0
closed_holds o (Times x y z) b n variables point numbers = (o.product x y z b variables point numbers).0
closed_holds o (Div x y z) b n variables point numbers = (o.quotient x y z b variables point numbers).0
closed_holds o (Mod x y z) b n variables point numbers = (o.remainder x y z b variables point numbers).0
closed_holds o (Abs x y) b n variables point numbers = (o.absolute x y b variables point numbers).0
closed_holds o (Max m xs) b n variables point numbers = (o.maximum m xs b variables point numbers).0
closed_holds o (Min m xs) b n variables point numbers = (o.minimum m xs b variables point numbers).0
closed_holds o (Clause lits) b n variables point numbers = (o.clause lits b variables point numbers).0
closed_holds o (Element x entries z) b n variables point numbers = (o.element x entries z b variables point numbers).0
closed_holds o (InSet l x ranges) b n variables point numbers = (o.in_set l x ranges b variables point numbers).0
closed_holds o (AllDiff xs) b n variables point numbers = (o.different xs b variables point).0
closed_holds o (Cumulative starts durations usages limit) b n variables point numbers = (o.cumulative starts durations usages limit b n variables point).0

holds_closed : Points → (k : Kernel) (b : Bounds) → HasNumbers k → AreVariables (length b) (vars_of k) → IsPoint b → ((v : ℕ) → v < length b → IsNumber (low_of b v)) → Holds k (point_of b) → All (Keeps b) (tells k b)
unfolding vars_of tells HasNumbers Holds
holds_closed o (Le l coeffs vars limit) b n variables point numbers = (o.inequality l coeffs vars limit n.same_length b variables point numbers).1
holds_closed o (Eq l coeffs vars limit) b n variables point numbers = (o.equation l coeffs vars limit n.same_length b variables point numbers).1
holds_closed o (Times x y z) b n variables point numbers = (o.product x y z b variables point numbers).1
holds_closed o (Div x y z) b n variables point numbers = (o.quotient x y z b variables point numbers).1
holds_closed o (Mod x y z) b n variables point numbers = (o.remainder x y z b variables point numbers).1
holds_closed o (Abs x y) b n variables point numbers = (o.absolute x y b variables point numbers).1
holds_closed o (Max m xs) b n variables point numbers = (o.maximum m xs b variables point numbers).1
holds_closed o (Min m xs) b n variables point numbers = (o.minimum m xs b variables point numbers).1
holds_closed o (Clause lits) b n variables point numbers = (o.clause lits b variables point numbers).1
holds_closed o (Element x entries z) b n variables point numbers = (o.element x entries z b variables point numbers).1
holds_closed o (InSet l x ranges) b n variables point numbers = (o.in_set l x ranges b variables point numbers).1
holds_closed o (AllDiff xs) b n variables point numbers = (o.different xs b variables point).1
holds_closed o (Cumulative starts durations usages limit) b n variables point numbers = (o.cumulative starts durations usages limit b n variables point).1

proper_point : (vars : List ℕ) (b : Bounds) → AreVariables (length b) vars → IsPoint b → IsProperIn vars b
proper_point vars b variables point i h = let e = point _ (variables.each i h) in omega (arith, ints)

pub returns : goal.returns
returns c = λ k b kernel range point numbers.
    let points : Points = record { inequality = c.law_inequality_point.ensures; equation = c.law_equation_point.ensures; clause = c.law_clause_point.ensures; product = c.law_product_point.ensures; quotient = c.law_quotient_point.ensures; remainder = c.law_remainder_point.ensures; absolute = c.law_absolute_point.ensures; maximum = c.law_maximum_point.ensures; minimum = c.law_minimum_point.ensures; element = c.law_element_point.ensures; in_set = c.law_in_set_point.ensures; different = c.law_all_different_point.ensures; cumulative = c.law_cumulative_point.ensures } in (
      λ closed. closed_holds points k b kernel.numbers kernel.variables point numbers closed.kept,
      λ holds. record {
        proper = proper_point (vars_of k) b kernel.variables point;
        kept = holds_closed points k b kernel.numbers kernel.variables point numbers holds;
      },
    )
