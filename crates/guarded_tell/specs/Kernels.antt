-- The kernels: what each means, which variables it names, and which tells it gives on a box.
use Rattle.std.specs.Prelude.{◌≤◌, ℕ, ℤ, List, [], ◌∷◌, length}
use Rattle.std.specs.List.{All}
use Rattle.interval.specs.Boxes.{Bounds}
use Rattle.tells.specs.declared.tell.Tell.{Tell}
use Rattle.guarded_tell.specs.declared.kernel.Kernel.{Kernel}
use Rattle.guarded_tell.specs.declared.kernel.Kernel.TheVariants.{Le, Eq, Times, Div, Mod, Abs, Max, Min, Clause, Element, InSet, AllDiff, Cumulative}
use Rattle.guarded_tell.specs.Words.{Keeps, IsProperIn, AreVariables}
use Rattle.sum_tells.specs.Linear.{at_most_tells, IsAtMost, IsLinear}
use Rattle.sum_tells.specs.Equality.{eq_tells, IsEquation}
use Rattle.arithmetic_tells.specs.Times.{times_tells, IsProduct}
use Rattle.arithmetic_tells.specs.Division.{div_tells, IsQuotient}
use Rattle.arithmetic_tells.specs.Remainder.{mod_tells, IsRemainder}
use Rattle.arithmetic_tells.specs.Absolute.{abs_tells, IsAbsolute}
use Rattle.extreme_tells.specs.Extremes.{member_limit}
use Rattle.extreme_tells.specs.Maximum.{max_tells, IsGreatestOf}
use Rattle.extreme_tells.specs.Minimum.{min_tells, IsLeastOf}
use Rattle.clause_tells.specs.Clause.{clause_vars, clause_tells, IsClause, IsShortClause}
use Rattle.element_tells.specs.Element.{element_tells, IsElement}
use Rattle.set_tells.specs.InSet.{in_set_tells, IsInSet, IsSet}
use Rattle.global_tells.specs.Ranges.{place_limit}
use Rattle.global_tells.specs.AllDifferent.{all_different_tells, AreAllDifferent}
use Rattle.global_tells.specs.Cumulative.{tasks_of, cumulative_tells, IsCumulative, AreTasks}

-- the variables that a kernel names, with repeats
unfoldable pub vars_of : Kernel → List ℕ
vars_of (Le l coeffs vars limit) = l.var ∷ vars
vars_of (Eq l coeffs vars limit) = l.var ∷ vars
vars_of (Times x y z) = x ∷ y ∷ z ∷ []
vars_of (Div x y z) = x ∷ y ∷ z ∷ []
vars_of (Mod x y z) = x ∷ y ∷ z ∷ []
vars_of (Abs x y) = x ∷ y ∷ []
vars_of (Max m xs) = m ∷ xs
vars_of (Min m xs) = m ∷ xs
vars_of (Clause lits) = clause_vars lits
vars_of (Element x entries c) = x ∷ c ∷ entries
vars_of (InSet l x ranges) = l.var ∷ x ∷ []
vars_of (AllDiff xs) = xs
vars_of (Cumulative starts durations usages limit) = starts

-- the tells of a kernel on a box that is proper in the kernel's variables
unfoldable pub tells : Kernel → Bounds → List Tell
tells (Le l coeffs vars limit) b = at_most_tells l coeffs vars limit b
tells (Eq l coeffs vars limit) b = eq_tells l coeffs vars limit b
tells (Times x y z) b = times_tells x y z b
tells (Div x y z) b = div_tells x y z b
tells (Mod x y z) b = mod_tells x y z b
tells (Abs x y) b = abs_tells x y b
tells (Max m xs) b = max_tells m xs b
tells (Min m xs) b = min_tells m xs b
tells (Clause lits) b = clause_tells lits b
tells (Element x entries c) b = element_tells x entries c b
tells (InSet l x ranges) b = in_set_tells l x ranges b
tells (AllDiff xs) b = all_different_tells xs b
tells (Cumulative starts durations usages limit) b = cumulative_tells (tasks_of starts durations usages) limit b

-- an assignment meets the kernel's relation
unfoldable pub Holds : Kernel → List ℤ → Type 0
Holds (Le l coeffs vars limit) numbers = IsAtMost l coeffs vars limit numbers
Holds (Eq l coeffs vars limit) numbers = IsEquation l coeffs vars limit numbers
Holds (Times x y z) numbers = IsProduct x y z numbers
Holds (Div x y z) numbers = IsQuotient x y z numbers
Holds (Mod x y z) numbers = IsRemainder x y z numbers
Holds (Abs x y) numbers = IsAbsolute x y numbers
Holds (Max m xs) numbers = IsGreatestOf m xs numbers
Holds (Min m xs) numbers = IsLeastOf m xs numbers
Holds (Clause lits) numbers = IsClause lits numbers
Holds (Element x entries c) numbers = IsElement x entries c numbers
Holds (InSet l x ranges) numbers = IsInSet l x ranges numbers
Holds (AllDiff xs) numbers = AreAllDifferent xs numbers
Holds (Cumulative starts durations usages limit) numbers = IsCumulative (tasks_of starts durations usages) limit numbers

-- the kernel's numbers are within the range and its lists fit together
unfoldable pub HasNumbers : Kernel → Type 0
HasNumbers (Le l coeffs vars limit) = IsLinear coeffs vars limit
HasNumbers (Eq l coeffs vars limit) = IsLinear coeffs vars limit
HasNumbers (Times x y z) = Unit {0}
HasNumbers (Div x y z) = Unit {0}
HasNumbers (Mod x y z) = Unit {0}
HasNumbers (Abs x y) = Unit {0}
HasNumbers (Max m xs) = length xs ≤ member_limit
HasNumbers (Min m xs) = length xs ≤ member_limit
HasNumbers (Clause lits) = IsShortClause lits
HasNumbers (Element x entries c) = length entries ≤ member_limit
HasNumbers (InSet l x ranges) = IsSet ranges
HasNumbers (AllDiff xs) = length xs ≤ place_limit
HasNumbers (Cumulative starts durations usages limit) = AreTasks starts durations usages limit

-- the kernel can be run on a box of `count` variables
pub record IsKernel (count : ℕ) (k : Kernel) : Type 0 where
  pub variables : AreVariables count (vars_of k)
  pub numbers : HasNumbers k

-- a box is closed under a kernel where it is proper in the kernel's variables and no tell narrows it
pub record IsClosedUnder (k : Kernel) (b : Bounds) : Type 0 where
  pub proper : IsProperIn (vars_of k) b
  pub kept : All (Keeps b) (tells k b)
