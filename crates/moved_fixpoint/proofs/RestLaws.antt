-- Kernels that rest.
use Rattle.std.proofs.Common.{◌≡◌, ℕ, Bool, true, false, length, get_or, refl, sym, ◌∙◌, ◌⊎◌, inl, inr, arith}
use Rattle.std.proofs.lemmas.Bool.{true≢false}
use Rattle.interval.specs.Boxes.{Bounds, IsInside, IsProper, InsideOrder}
use Rattle.guarded_tell.specs.declared.kernel.Kernel.{Kernel}
use Rattle.guarded_tell.specs.Words.{IsProperIn}
use Rattle.guarded_tell.specs.Kernels.{vars_of, IsKernel, IsClosedUnder}
use Rattle.kernel_visits.specs.Rests.{IsFixedAt, FixesNoOther, IsEntailed, IsQuietUntilFixed}
use Rattle.moved_set.specs.Sets.{IsIn}
use Rattle.moved_fixpoint.specs.Moved.{Set}
use Rattle.moved_fixpoint.specs.Runs.{SameAt}

is_or_not : (b : Bool) → (b ≡ true) ⊎ (b ≡ true → ⊥)
is_or_not true = inl refl
is_or_not false = inr (λ e. true≢false (sym e))

pub in_or_not : (s : Set) (j : ℕ) → IsIn s j ⊎ (IsIn s j → ⊥)
in_or_not s j = is_or_not (get_or s j false)

-- a variable with the same bounds is fixed in both boxes
pub same_fixed : (a b : Bounds) (v : ℕ) → SameAt a b v → IsFixedAt a v → IsFixedAt b v
same_fixed a b v same fixed = sym same.low ∙ fixed ∙ same.high

pub proper_of : (k : Kernel) (n : ℕ) (b : Bounds) → IsKernel n k → length b ≡ n → IsProper b → IsProperIn (vars_of k) b
proper_of k n b kernel same proper i h = let l = kernel.variables.each i h in proper _ (omega arith)

-- what rests for good rests until a variable is fixed
pub entailed_quiet : (k : Kernel) (b : Bounds) → IsEntailed k b → IsQuietUntilFixed k b
entailed_quiet k b e c i proper fixes = e c i proper

-- what rests on a box rests on those inside it
module _ (order : InsideOrder) (k : Kernel) where
  pub entailed_inside : (inner outer : Bounds) → IsInside inner outer → IsEntailed k outer → IsEntailed k inner
  entailed_inside inner outer i e c j = e c (order.through c inner outer j i)

  pub quiet_inside : (inner outer : Bounds) → IsInside inner outer → FixesNoOther (vars_of k) outer inner → IsQuietUntilFixed k outer → IsQuietUntilFixed k inner
  quiet_inside inner outer i fixes q c j proper f = q c (order.through c inner outer j i) proper (λ x d l fixed. fixes x d l (f x d l fixed))

  -- and is quiet there
  pub entailed_here : (b : Bounds) → IsProperIn (vars_of k) b → IsEntailed k b → IsClosedUnder k b
  entailed_here b proper e = e b (order.itself b) proper

  pub quiet_here : (b : Bounds) → IsProperIn (vars_of k) b → IsQuietUntilFixed k b → IsClosedUnder k b
  quiet_here b proper q = q b (order.itself b) proper (λ x d l fixed. fixed)
