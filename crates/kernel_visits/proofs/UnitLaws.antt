-- A variable that must not have one number, with a coefficient of 1 or -1.
use Rattle.std.proofs.Common.{◌≡◌, ℕ, zero, suc, ◌++◌, ℤ, pos, negsuc, ◌*ℤ◌, unsigned_abs, to_z, of_z, sym, ◌∙◌, arith}
use Rattle.std.proofs.lemmas.Int.{ints}
use Rattle.std.proofs.lemmas.List.Elements.{filter-append}
use mir.Syntax.{w64}
use Rattle.interval.specs.Limits.{IsBound, bound_limit, largest_number}
use Rattle.interval.specs.Boxes.{Bounds}
use Rattle.sum_tells.specs.Equality.{low_is_not, high_is_not, product_is_not}
use Rattle.tell_laws.specs.Narrowing.{narrows, narrowing}

pub unit_product : (a z : ℤ) → unsigned_abs a ≡ 1 → IsBound z → to_z w64 (of_z w64 (to_z w64 (of_z w64 a) *ℤ to_z w64 (of_z w64 z))) ≡ a *ℤ z
unfolding bound_limit largest_number
unit_product (pos zero) z e h = absurd (omega arith)
unit_product (pos (suc zero)) z e h = omega (arith, ints)
unit_product (pos (suc (suc n))) z e h = absurd (omega arith)
unit_product (negsuc zero) z e h = omega (arith, ints)
unit_product (negsuc (suc n)) z e h = absurd (omega arith)

pub not_zero : (a : ℤ) → unsigned_abs a ≡ 1 → a ≡ pos 0 → ⊥
not_zero (pos zero) e q = absurd (omega arith)
not_zero (pos (suc n)) e q = absurd (omega (arith, ints))
not_zero (negsuc n) e q = absurd (omega (arith, ints))

-- what is told at the low and at the high, with the numbers as the code reads them
pub apart_parts : (b : Bounds) (x : ℕ) (a p a' p' : ℤ) → a' ≡ a → p' ≡ p → narrowing b (product_is_not x a p b) ≡ narrowing b (low_is_not x a' p' b) ++ narrowing b (high_is_not x a' p' b)
apart_parts b x a p a' p' e f =
    (λ i. narrowing b (product_is_not x (sym e i) (sym f i) b))
    ∙ filter-append (narrows b) (low_is_not x a' p' b) (high_is_not x a' p' b)
