-- One line for each kernel.
use Rattle.std.proofs.Common.{◌≡◌, ℕ, ℤ, ◌<◌, List, length, [], ◌∷◌}
use Rattle.std.specs.List.{All, Contains}
use Rattle.interval.specs.Limits.{IsBound}
use Rattle.interval.specs.Boxes.{Bounds}
use Rattle.guarded_tell.specs.declared.kernel.Kernel.{Kernel}
use Rattle.guarded_tell.specs.declared.kernel.Kernel.TheVariants.{Le, Eq, Times, Div, Mod, Abs, Max, Min, Clause, Element, InSet, AllDiff, Cumulative}
use Rattle.guarded_tell.specs.Words.{AreVariables}
use Rattle.guarded_tell.specs.Kernels.{vars_of, tells, HasNumbers}
use Rattle.set_tells.specs.InSet.{in_set_tells}
use Rattle.tells.specs.declared.tell.Lit.{Lit}
use Rattle.element_tells.specs.Element.{element_tells}
use Rattle.extreme_tells.specs.Maximum.{max_tells}
use Rattle.extreme_tells.specs.Minimum.{min_tells}
use Rattle.tells.specs.Laws.{TellsOnly}
use Rattle.sum_tells.specs.Linear.{at_most_tells}
use Rattle.sum_tells.specs.Equality.{eq_tells}
use Rattle.clause_tells.specs.Clause.{clause_vars, clause_tells}
use Rattle.arithmetic_tells.specs.Absolute.{abs_tells}
use Rattle.arithmetic_tells.specs.Division.{div_tells}
use Rattle.arithmetic_tells.specs.Remainder.{mod_tells}
use Rattle.arithmetic_tells.specs.Times.{times_tells}
use Rattle.tells.specs.declared.tell.Tell.{Tell}
use Rattle.global_tells.specs.AllDifferent.{all_different_tells}
use Rattle.global_tells.specs.Cumulative.{AreTasks, tasks_of, cumulative_tells}
use Rattle.tell_laws.proofs.PlaceLaws.{IsPlaced}
use Rattle.guarded_tell.proofs.laws.law_tell_place.Goals as goal

-- where the tells of the families are
abbrev AtPlace : List ℕ → Bounds → List Tell → Type 0
AtPlace vars b ts = All (λ t. Contains vars t.var × (t.var < length b) × IsBound t.bound) ts

record Places : Type 0 where
  inequality : (l : Lit) (coeffs : List ℤ) (vars : List ℕ) (limit : ℤ) → length coeffs ≡ length vars → TellsOnly (l.var ∷ vars) (at_most_tells l coeffs vars limit)
  equation : (l : Lit) (coeffs : List ℤ) (vars : List ℕ) (limit : ℤ) → length coeffs ≡ length vars → TellsOnly (l.var ∷ vars) (eq_tells l coeffs vars limit)
  clause : (lits : List Lit) → TellsOnly (clause_vars lits) (clause_tells lits)
  product : (x y z : ℕ) → TellsOnly (x ∷ y ∷ z ∷ []) (times_tells x y z)
  quotient : (x y z : ℕ) → TellsOnly (x ∷ y ∷ z ∷ []) (div_tells x y z)
  remainder : (x y z : ℕ) → TellsOnly (x ∷ y ∷ z ∷ []) (mod_tells x y z)
  absolute : (x y : ℕ) → TellsOnly (x ∷ y ∷ []) (abs_tells x y)
  maximum : (m : ℕ) (xs : List ℕ) → TellsOnly (m ∷ xs) (max_tells m xs)
  minimum : (m : ℕ) (xs : List ℕ) → TellsOnly (m ∷ xs) (min_tells m xs)
  element : (x : ℕ) (entries : List ℕ) (z : ℕ) → TellsOnly (x ∷ z ∷ entries) (element_tells x entries z)
  in_set : (l : Lit) (x : ℕ) (ranges : List (ℤ × ℤ)) → TellsOnly (l.var ∷ x ∷ []) (in_set_tells l x ranges)
  different : (xs : List ℕ) (b : Bounds) → AreVariables (length b) xs → AtPlace xs b (all_different_tells xs b)
  cumulative : (s : List ℕ) (d r : List ℤ) (limit : ℤ) (b : Bounds) → AreTasks s d r limit → AreVariables (length b) s → AtPlace s b (cumulative_tells (tasks_of s d r) limit b)

as_placed : (vars : List ℕ) (b : Bounds) (ts : List Tell) → AtPlace vars b ts → All (IsPlaced (length b) vars) ts
as_placed vars b ts all i d h = let p = all i d h in record { named = p.0; in_box = p.1; bound = p.2 }

placed : Places → (k : Kernel) (b : Bounds) → HasNumbers k → AreVariables (length b) (vars_of k) → All (IsPlaced (length b) (vars_of k)) (tells k b)
unfolding vars_of tells HasNumbers
placed o (Le l coeffs vars limit) b n variables = as_placed (l.var ∷ vars) b (at_most_tells l coeffs vars limit b) (o.inequality l coeffs vars limit n.same_length b variables)
placed o (Eq l coeffs vars limit) b n variables = as_placed (l.var ∷ vars) b (eq_tells l coeffs vars limit b) (o.equation l coeffs vars limit n.same_length b variables)
placed o (Times x y z) b n variables = as_placed (x ∷ y ∷ z ∷ []) b (times_tells x y z b) (o.product x y z b variables)
placed o (Div x y z) b n variables = as_placed (x ∷ y ∷ z ∷ []) b (div_tells x y z b) (o.quotient x y z b variables)
placed o (Mod x y z) b n variables = as_placed (x ∷ y ∷ z ∷ []) b (mod_tells x y z b) (o.remainder x y z b variables)
placed o (Abs x y) b n variables = as_placed (x ∷ y ∷ []) b (abs_tells x y b) (o.absolute x y b variables)
placed o (Max m xs) b n variables = as_placed (m ∷ xs) b (max_tells m xs b) (o.maximum m xs b variables)
placed o (Min m xs) b n variables = as_placed (m ∷ xs) b (min_tells m xs b) (o.minimum m xs b variables)
placed o (Clause lits) b n variables = as_placed (clause_vars lits) b (clause_tells lits b) (o.clause lits b variables)
placed o (Element x entries z) b n variables = as_placed (x ∷ z ∷ entries) b (element_tells x entries z b) (o.element x entries z b variables)
placed o (InSet l x ranges) b n variables = as_placed (l.var ∷ x ∷ []) b (in_set_tells l x ranges b) (o.in_set l x ranges b variables)
placed o (AllDiff xs) b n variables = as_placed xs b (all_different_tells xs b) (o.different xs b variables)
placed o (Cumulative starts durations usages limit) b n variables = as_placed starts b (cumulative_tells (tasks_of starts durations usages) limit b) (o.cumulative starts durations usages limit b n variables)

pub returns : goal.returns
returns c = λ k b kernel i d h. let p = placed (record { inequality = c.law_inequality_place.ensures; equation = c.law_equation_place.ensures; clause = c.law_clause_place.ensures; product = c.law_product_place.ensures; quotient = c.law_quotient_place.ensures; remainder = c.law_remainder_place.ensures; absolute = c.law_absolute_place.ensures; maximum = c.law_maximum_place.ensures; minimum = c.law_minimum_place.ensures; element = c.law_element_place.ensures; in_set = c.law_in_set_place.ensures; different = c.law_all_different_place.ensures; cumulative = c.law_cumulative_place.ensures }) k b kernel.numbers kernel.variables i d h in (p.named, p.in_box, p.bound)
