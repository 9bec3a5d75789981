-- A factor that reaches the product is told nothing that narrows.
use Rattle.std.proofs.Common.{◌≡◌, ◌∙◌, ℕ, [], ◌∷◌, ◌++◌, ℤ, pos, ◌*ℤ◌, ◌≤ℤ◌, ◌<ℤ◌, ⊎_elim, sym, subst, arith, FitsSigned, to_z, of_z}
use Rattle.std.proofs.lemmas.Int.{ints, clamps, to_z-of_z}
use mir.Syntax.{w64}
use Rattle.std.proofs.lemmas.List.Elements.{filter-append}
use Rattle.tells.specs.declared.tell.Tell.{Tell}
use Rattle.std.specs.Int.RustNames.{int_le}
use Rattle.std.specs.List.{All}
use Rattle.interval.specs.Limits.{IsBound, ClampOrder}
use Rattle.interval.specs.Quotients.{QuotientOrder}
use Rattle.interval.specs.Corners.{Range, least_ceiling, greatest_floor}
use Rattle.interval.specs.Boxes.{Bounds, low_of, high_of}
use Rattle.tells.specs.Words.{low_tell, high_tell, Keeps}
use Rattle.arithmetic_tells.specs.Times.{range_of, excludes_zero, product_tells, quotient_tells, factor_tells, times_tells}
use Rattle.arithmetic_tells.specs.Products.{IsUnderOne, IsOverOne, IsFactorQuiet}
use Rattle.tell_laws.specs.Narrowing.{narrows, narrowing}
use Rattle.arithmetic_tells.proofs.Lists.{All-two, All-when}
use Rattle.arithmetic_tells.proofs.LiteralLaws.{by_bool}
use Rattle.arithmetic_tells.proofs.TimesLaws.{one_sided}

-- the low and the high of a variable are bounds
record HasBounds (b : Bounds) (v : ℕ) : Type 0 where
  low : IsBound (low_of b v)
  high : IsBound (high_of b v)

-- what the code makes of a number and a factor
module _ (z w : ℤ) (y : Range) (f : FitsSigned w64 z) (g : FitsSigned w64 w) where
  pub coded_under : IsUnderOne (to_z w64 (of_z w64 z)) (to_z w64 (of_z w64 w)) y → IsUnderOne z w y
  coded_under h = subst (λ p. IsUnderOne z p y) (to_z-of_z w64 w g) (subst (λ p. IsUnderOne p (to_z w64 (of_z w64 w)) y) (to_z-of_z w64 z f) h)

  pub coded_over : IsOverOne (to_z w64 (of_z w64 z)) (to_z w64 (of_z w64 w)) y → IsOverOne z w y
  coded_over h = subst (λ p. IsOverOne z p y) (to_z-of_z w64 w g) (subst (λ p. IsOverOne p (to_z w64 (of_z w64 w)) y) (to_z-of_z w64 z f) h)

-- a range that was read from the box
pub proper_range : (b : Bounds) (v : ℕ) (r : Range) → r ≡ range_of b v → low_of b v ≤ℤ high_of b v → r.0 ≤ℤ r.1
proper_range b v r e h = let P : Range → Type 0 = λ s. s.0 ≤ℤ s.1 in subst P (sym e) h

-- what is not tighter than a bound keeps it
module _ (clamped : ClampOrder) (b : Bounds) (v : ℕ) (own : HasBounds b v) where
  keeps_from : (z : ℤ) → z ≤ℤ low_of b v → Keeps b (low_tell v z)
  keeps_from z h = let same = clamped.same (low_of b v) own.low in let rise = clamped.rises z (low_of b v) h in omega (arith, ints)

  keeps_to : (z : ℤ) → high_of b v ≤ℤ z → Keeps b (high_tell v z)
  keeps_to z h = let same = clamped.same (high_of b v) own.high in let rise = clamped.rises (high_of b v) z h in omega (arith, ints)

-- the least corner ceiling is at most a number whose product with a divisor reaches z, and the mirror
module _ (quotients : QuotientOrder) (z y : Range) (proper : y.0 ≤ℤ y.1) (w : ℤ) where
  ceiling_above : pos 0 <ℤ y.0 → IsUnderOne z.0 w y → least_ceiling z y ≤ℤ w
  unfolding least_ceiling
  ceiling_above s h =
      by_bool (int_le z.0 (w *ℤ y.0))
      (λ e. let one = (quotients.ceiling_above_zero z.0 y.0 w s).1 (omega (arith, ints)) in omega (arith, ints, clamps))
      (λ e. let one = (quotients.ceiling_above_zero z.0 y.1 w (omega (arith, ints))).1 (omega (arith, ints, clamps)) in omega (arith, ints, clamps))

  floor_above : pos 0 <ℤ y.0 → IsOverOne z.1 w y → w ≤ℤ greatest_floor z y
  unfolding greatest_floor
  floor_above s h =
      by_bool (int_le (w *ℤ y.0) z.1)
      (λ e. let one = (quotients.floor_above_zero z.1 y.0 w s).1 (omega (arith, ints)) in omega (arith, ints, clamps))
      (λ e. let one = (quotients.floor_above_zero z.1 y.1 w (omega (arith, ints))).1 (omega (arith, ints, clamps)) in omega (arith, ints, clamps))

  ceiling_below : y.1 <ℤ pos 0 → IsOverOne z.1 w y → least_ceiling z y ≤ℤ w
  unfolding least_ceiling
  ceiling_below s h =
      by_bool (int_le (w *ℤ y.0) z.1)
      (λ e. let one = (quotients.ceiling_below_zero z.1 y.0 w (omega (arith, ints))).1 (omega (arith, ints)) in omega (arith, ints, clamps))
      (λ e. let one = (quotients.ceiling_below_zero z.1 y.1 w s).1 (omega (arith, ints, clamps)) in omega (arith, ints, clamps))

  floor_below : y.1 <ℤ pos 0 → IsUnderOne z.0 w y → w ≤ℤ greatest_floor z y
  unfolding greatest_floor
  floor_below s h =
      by_bool (int_le z.0 (w *ℤ y.0))
      (λ e. let one = (quotients.floor_below_zero z.0 y.0 w (omega (arith, ints))).1 (omega (arith, ints)) in omega (arith, ints, clamps))
      (λ e. let one = (quotients.floor_below_zero z.0 y.1 w s).1 (omega (arith, ints, clamps)) in omega (arith, ints, clamps))

module _ (quotients : QuotientOrder) (clamped : ClampOrder) (b : Bounds) where
  factor_quiet : (x y z : ℕ) → HasBounds b x → low_of b y ≤ℤ high_of b y → IsFactorQuiet (range_of b x) (range_of b y) (range_of b z) → All (Keeps b) (factor_tells x y z b)
  factor_quiet x y z own proper q =
      All-when (Keeps b) (excludes_zero (range_of b y)) (quotient_tells x (range_of b z) (range_of b y)) (λ e.
      ⊎_elim {C = All (Keeps b) (quotient_tells x (range_of b z) (range_of b y))}
      (λ s. All-two (Keeps b) (low_tell x (least_ceiling (range_of b z) (range_of b y))) (high_tell x (greatest_floor (range_of b z) (range_of b y)))
      (keeps_from clamped b x own _ (ceiling_above quotients (range_of b z) (range_of b y) proper (low_of b x) s (q.low_above_zero s)))
      (keeps_to clamped b x own _ (floor_above quotients (range_of b z) (range_of b y) proper (high_of b x) s (q.high_above_zero s))))
      (λ s. All-two (Keeps b) (low_tell x (least_ceiling (range_of b z) (range_of b y))) (high_tell x (greatest_floor (range_of b z) (range_of b y)))
      (keeps_from clamped b x own _ (ceiling_below quotients (range_of b z) (range_of b y) proper (low_of b x) s (q.low_below_zero s)))
      (keeps_to clamped b x own _ (floor_below quotients (range_of b z) (range_of b y) proper (high_of b x) s (q.high_below_zero s))))
      (one_sided (range_of b y) e))

  -- the same for ranges that were read from the box
  pub ranges_quiet : (x y z : ℕ) (rx ry rz : Range) → rx ≡ range_of b x → ry ≡ range_of b y → rz ≡ range_of b z
      → IsBound rx.0 → IsBound rx.1 → low_of b y ≤ℤ high_of b y → IsFactorQuiet rx ry rz → All (Keeps b) (factor_tells x y z b)
  ranges_quiet x y z rx ry rz ex ey ez xl xh proper q =
      let Q : Range → Range → Range → Type 0 = λ r s t. IsFactorQuiet r s t in
      let R : Range → Type 0 = λ r. IsBound r.0 in
      let S : Range → Type 0 = λ r. IsBound r.1 in
      factor_quiet x y z (record { low = subst R ex xl; high = subst S ex xh }) proper
      (subst (λ t. Q (range_of b x) (range_of b y) t) ez (subst (λ s. Q (range_of b x) s rz) ey (subst (λ r. Q r ry rz) ex q)))

-- what narrows, of two tells and of three lists
pub two_parts : (b : Bounds) (t u : Tell) → narrowing b (t ∷ u ∷ []) ≡ narrowing b (t ∷ []) ++ narrowing b (u ∷ [])
two_parts b t u = filter-append (narrows b) (t ∷ []) (u ∷ [])

pub times_parts : (b : Bounds) (x y z : ℕ) → narrowing b (times_tells x y z b) ≡ narrowing b (product_tells x y z b) ++ (narrowing b (factor_tells x y z b) ++ narrowing b (factor_tells y x z b))
unfolding times_tells
times_parts b x y z =
    filter-append (narrows b) (product_tells x y z b) (factor_tells x y z b ++ factor_tells y x z b)
    ∙ (λ i. narrowing b (product_tells x y z b) ++ filter-append (narrows b) (factor_tells x y z b) (factor_tells y x z b) i)
