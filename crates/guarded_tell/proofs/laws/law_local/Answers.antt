-- One line for each kernel.
use Rattle.std.proofs.Common.{◌≡◌, ℕ, ℤ, List, [], ◌∷◌}
use Rattle.interval.specs.Boxes.{Bounds}
use Rattle.guarded_tell.specs.declared.kernel.Kernel.{Kernel}
use Rattle.guarded_tell.specs.declared.kernel.Kernel.TheVariants.{Le, Eq, Times, Div, Mod, Abs, Max, Min, Clause, Element, InSet, AllDiff, Cumulative}
use Rattle.guarded_tell.specs.Words.{AgreeIn, SameValuesIn}
use Rattle.guarded_tell.specs.Kernels.{vars_of, tells, Holds}
use Rattle.set_tells.specs.InSet.{in_set_tells, IsInSet}
use Rattle.tells.specs.declared.tell.Lit.{Lit}
use Rattle.element_tells.specs.Element.{element_tells, IsElement}
use Rattle.extreme_tells.specs.Maximum.{max_tells, IsGreatestOf}
use Rattle.extreme_tells.specs.Minimum.{min_tells, IsLeastOf}
use Rattle.tells.specs.Laws.{ReadsOnly, IsRelationOf}
use Rattle.sum_tells.specs.Linear.{at_most_tells, IsAtMost}
use Rattle.sum_tells.specs.Equality.{eq_tells, IsEquation}
use Rattle.clause_tells.specs.Clause.{clause_vars, clause_tells, IsClause}
use Rattle.arithmetic_tells.specs.Absolute.{abs_tells, IsAbsolute}
use Rattle.arithmetic_tells.specs.Division.{div_tells, IsQuotient}
use Rattle.arithmetic_tells.specs.Remainder.{mod_tells, IsRemainder}
use Rattle.arithmetic_tells.specs.Times.{times_tells, IsProduct}
use Rattle.global_tells.specs.AllDifferent.{all_different_tells, AreAllDifferent}
use Rattle.global_tells.specs.Cumulative.{tasks_of, cumulative_tells, IsCumulative}
use Rattle.guarded_tell.proofs.laws.law_local.Goals as goal

-- what the families depend on
record Locals : Type 0 where
  inequality : (l : Lit) (coeffs : List ℤ) (vars : List ℕ) (limit : ℤ) → ReadsOnly (l.var ∷ vars) (at_most_tells l coeffs vars limit)
  equation : (l : Lit) (coeffs : List ℤ) (vars : List ℕ) (limit : ℤ) → ReadsOnly (l.var ∷ vars) (eq_tells l coeffs vars limit)
  clause : (lits : List Lit) → ReadsOnly (clause_vars lits) (clause_tells lits)
  product : (x y z : ℕ) → ReadsOnly (x ∷ y ∷ z ∷ []) (times_tells x y z)
  quotient : (x y z : ℕ) → ReadsOnly (x ∷ y ∷ z ∷ []) (div_tells x y z)
  remainder : (x y z : ℕ) → ReadsOnly (x ∷ y ∷ z ∷ []) (mod_tells x y z)
  absolute : (x y : ℕ) → ReadsOnly (x ∷ y ∷ []) (abs_tells x y)
  maximum : (m : ℕ) (xs : List ℕ) → ReadsOnly (m ∷ xs) (max_tells m xs)
  minimum : (m : ℕ) (xs : List ℕ) → ReadsOnly (m ∷ xs) (min_tells m xs)
  element : (x : ℕ) (entries : List ℕ) (z : ℕ) → ReadsOnly (x ∷ z ∷ entries) (element_tells x entries z)
  in_set : (l : Lit) (x : ℕ) (ranges : List (ℤ × ℤ)) → ReadsOnly (l.var ∷ x ∷ []) (in_set_tells l x ranges)
  different : (xs : List ℕ) (b c : Bounds) → AgreeIn xs b c → all_different_tells xs b ≡ all_different_tells xs c
  cumulative : (s : List ℕ) (d r : List ℤ) (limit : ℤ) (b c : Bounds) → AgreeIn s b c → cumulative_tells (tasks_of s d r) limit b ≡ cumulative_tells (tasks_of s d r) limit c

record LocalRelations : Type 0 where
  inequality : (l : Lit) (coeffs : List ℤ) (vars : List ℕ) (limit : ℤ) → IsRelationOf (l.var ∷ vars) (IsAtMost l coeffs vars limit)
  equation : (l : Lit) (coeffs : List ℤ) (vars : List ℕ) (limit : ℤ) → IsRelationOf (l.var ∷ vars) (IsEquation l coeffs vars limit)
  clause : (lits : List Lit) → IsRelationOf (clause_vars lits) (IsClause lits)
  product : (x y z : ℕ) → IsRelationOf (x ∷ y ∷ z ∷ []) (IsProduct x y z)
  quotient : (x y z : ℕ) → IsRelationOf (x ∷ y ∷ z ∷ []) (IsQuotient x y z)
  remainder : (x y z : ℕ) → IsRelationOf (x ∷ y ∷ z ∷ []) (IsRemainder x y z)
  absolute : (x y : ℕ) → IsRelationOf (x ∷ y ∷ []) (IsAbsolute x y)
  maximum : (m : ℕ) (xs : List ℕ) → IsRelationOf (m ∷ xs) (IsGreatestOf m xs)
  minimum : (m : ℕ) (xs : List ℕ) → IsRelationOf (m ∷ xs) (IsLeastOf m xs)
  element : (x : ℕ) (entries : List ℕ) (z : ℕ) → IsRelationOf (x ∷ z ∷ entries) (IsElement x entries z)
  in_set : (l : Lit) (x : ℕ) (ranges : List (ℤ × ℤ)) → IsRelationOf (l.var ∷ x ∷ []) (IsInSet l x ranges)
  different : (xs : List ℕ) (f g : List ℤ) → SameValuesIn xs f g → AreAllDifferent xs f → AreAllDifferent xs g
  cumulative : (s : List ℕ) (d r : List ℤ) (limit : ℤ) (f g : List ℤ) → SameValuesIn s f g → IsCumulative (tasks_of s d r) limit f → IsCumulative (tasks_of s d r) limit g

local_tells : Locals → (k : Kernel) (b c : Bounds) → AgreeIn (vars_of k) b c → tells k b ≡ tells k c
unfolding vars_of tells
local_tells o (Le l coeffs vars limit) b c agree = o.inequality l coeffs vars limit b c agree
local_tells o (Eq l coeffs vars limit) b c agree = o.equation l coeffs vars limit b c agree
local_tells o (Times x y z) b c agree = o.product x y z b c agree
local_tells o (Div x y z) b c agree = o.quotient x y z b c agree
local_tells o (Mod x y z) b c agree = o.remainder x y z b c agree
local_tells o (Abs x y) b c agree = o.absolute x y b c agree
local_tells o (Max m xs) b c agree = o.maximum m xs b c agree
local_tells o (Min m xs) b c agree = o.minimum m xs b c agree
local_tells o (Clause lits) b c agree = o.clause lits b c agree
local_tells o (Element x entries z) b c agree = o.element x entries z b c agree
local_tells o (InSet l x ranges) b c agree = o.in_set l x ranges b c agree
local_tells o (AllDiff xs) b c agree = o.different xs b c agree
local_tells o (Cumulative starts durations usages limit) b c agree = o.cumulative starts durations usages limit b c agree

local_relation : LocalRelations → (k : Kernel) (f g : List ℤ) → SameValuesIn (vars_of k) f g → Holds k f → Holds k g
unfolding vars_of Holds
local_relation o (Le l coeffs vars limit) f g same holds = o.inequality l coeffs vars limit f g same holds
local_relation o (Eq l coeffs vars limit) f g same holds = o.equation l coeffs vars limit f g same holds
local_relation o (Times x y z) f g same holds = o.product x y z f g same holds
local_relation o (Div x y z) f g same holds = o.quotient x y z f g same holds
local_relation o (Mod x y z) f g same holds = o.remainder x y z f g same holds
local_relation o (Abs x y) f g same holds = o.absolute x y f g same holds
local_relation o (Max m xs) f g same holds = o.maximum m xs f g same holds
local_relation o (Min m xs) f g same holds = o.minimum m xs f g same holds
local_relation o (Clause lits) f g same holds = o.clause lits f g same holds
local_relation o (Element x entries z) f g same holds = o.element x entries z f g same holds
local_relation o (InSet l x ranges) f g same holds = o.in_set l x ranges f g same holds
local_relation o (AllDiff xs) f g same holds = o.different xs f g same holds
local_relation o (Cumulative starts durations usages limit) f g same holds = o.cumulative starts durations usages limit f g same holds

pub returns-clause-tells : goal.returns-clause-tells
returns-clause-tells c = local_tells (record { inequality = c.law_inequality_local.ensures.tells; equation = c.law_equation_local.ensures.tells; clause = c.law_clause_local.ensures.tells; product = c.law_product_local.ensures.tells; quotient = c.law_quotient_local.ensures.tells; remainder = c.law_remainder_local.ensures.tells; absolute = c.law_absolute_local.ensures.tells; maximum = c.law_maximum_local.ensures.tells; minimum = c.law_minimum_local.ensures.tells; element = c.law_element_local.ensures.tells; in_set = c.law_in_set_local.ensures.tells; different = c.law_all_different_local.ensures.tells; cumulative = c.law_cumulative_local.ensures.tells })

pub returns-clause-relation : goal.returns-clause-relation
returns-clause-relation c = local_relation (record { inequality = c.law_inequality_local.ensures.relation; equation = c.law_equation_local.ensures.relation; clause = c.law_clause_local.ensures.relation; product = c.law_product_local.ensures.relation; quotient = c.law_quotient_local.ensures.relation; remainder = c.law_remainder_local.ensures.relation; absolute = c.law_absolute_local.ensures.relation; maximum = c.law_maximum_local.ensures.relation; minimum = c.law_minimum_local.ensures.relation; element = c.law_element_local.ensures.relation; in_set = c.law_in_set_local.ensures.relation; different = c.law_all_different_local.ensures.relation; cumulative = c.law_cumulative_local.ensures.relation })
