-- The tells of a product of natural factors, and where they narrow nothing.
use Rattle.std.proofs.Common.{◌≡◌, ℕ, ◌<◌, List, [], ◌∷◌, ◌++◌, ◌||◌, length, Bool, true, ℤ, pos, negsuc, ◌+ℤ◌, ◌-ℤ◌, ◌*ℤ◌, ◌≤ℤ◌, ◌<ℤ◌, FitsSigned, to_z, of_z, refl, sym, subst, ◌∙◌, arith}
use Rattle.std.proofs.lemmas.Int.{ints, by_lt_z, to_z-of_z, fits_signed_mul}
use Rattle.std.proofs.lemmas.List.{append-nil, append_assoc}
use Rattle.std.proofs.lemmas.List.Elements.{All-append}
use Rattle.std.specs.List.{All}
use Rattle.std.specs.Int.RustNames.{int_div, int_lt}
use Rattle.std.proofs.Math.Nat.{div-le_self}
use mir.Syntax.{w64, w128}
use Rattle.tells.specs.declared.tell.Tell.{Tell}
use Rattle.interval.specs.Limits.{IsBound, ClampOrder, bound_limit, largest_number}
use Rattle.interval.specs.Quotients.{QuotientOrder, floor_of, ceiling_of}
use Rattle.interval.specs.Corners.{least_ceiling, greatest_floor}
use Rattle.interval.specs.Boxes.{Bounds, low_of, high_of}
use Rattle.interval.proofs.QuotientLaws.{plus_times}
use Rattle.interval.proofs.NaturalCorners.{natural_least, natural_greatest, natural_ceiling, natural_floor}
use Rattle.tells.specs.Words.{low_tell, high_tell, when, Keeps}
use Rattle.arithmetic_tells.specs.Times.{range_of, excludes_zero, product_tells, factor_tells, times_tells}
use Rattle.arithmetic_tells.proofs.ProductQuiet.{two_parts, times_parts}
use Rattle.tell_laws.specs.Narrowing.{narrowing}
use Rattle.tell_laws.proofs.NarrowingLaws.{none_narrows}
use Rattle.tell_laws.proofs.Lists.{All-one}
use Rattle.guarded_tell.specs.declared.kernel.Kernel.{Kernel}
use Rattle.kernel_visits.specs.declared.shape.Shape.TheVariants.{Product}
use Rattle.seen_tells.specs.declared.seen.Seen.{Seen}
use Rattle.guarded_tell.specs.Words.{AreVariables, IsProperIn}
use Rattle.guarded_tell.specs.Kernels.{vars_of, tells, IsKernel}
use Rattle.kernel_visits.specs.Narrowing.{narrowing_tells}
use Rattle.kernel_visits.specs.Shapes.{IsShapeOf}
use Rattle.seen_tells.specs.Few.{AreFew}
use Rattle.seen_tells.specs.Natural.{factor_limit, IsFactor, IsNaturalProduct}

-- ---- numbers

-- a number as the code reads it
pub read : (z : ℤ) → FitsSigned w64 z → to_z w64 (of_z w64 z) ≡ z
read z f = to_z-of_z w64 z f

pub read_wide : (z : ℤ) → FitsSigned w64 z → to_z w128 (of_z w128 (to_z w64 (of_z w64 z))) ≡ z
read_wide z f = let wide : FitsSigned w128 z = omega (arith, ints) in (λ i. to_z w128 (of_z w128 (read z f i))) ∙ to_z-of_z w128 z wide

-- a product of two factors, as the code forms it
pub coded_product : (a b : ℤ) → IsFactor a → IsFactor b
    → to_z w64 (of_z w64 (to_z w128 (of_z w128 (to_z w128 (of_z w128 (to_z w64 (of_z w64 a))) *ℤ to_z w128 (of_z w128 (to_z w64 (of_z w64 b))))))) ≡ a *ℤ b
unfolding factor_limit
coded_product a b p q =
    let a_short : FitsSigned w64 a = omega (arith, ints) in
    let b_short : FitsSigned w64 b = omega (arith, ints) in
    let a_wide : FitsSigned w128 a = omega (arith, ints) in
    let b_wide : FitsSigned w128 b = omega (arith, ints) in
    let short : FitsSigned w64 (a *ℤ b) = fits_signed_mul w64 a b 2147483648 2147483648 (omega (arith, ints)) (omega (arith, ints)) (omega arith) in
    let wide : FitsSigned w128 (a *ℤ b) = fits_signed_mul w128 a b 2147483648 2147483648 (omega (arith, ints)) (omega (arith, ints)) (omega arith) in
    (λ i. to_z w64 (of_z w64 (to_z w128 (of_z w128 (to_z w128 (of_z w128 (to_z-of_z w64 a a_short i)) *ℤ to_z w128 (of_z w128 (to_z-of_z w64 b b_short i)))))))
    ∙ (λ i. to_z w64 (of_z w64 (to_z w128 (of_z w128 (to_z-of_z w128 a a_wide i *ℤ to_z-of_z w128 b b_wide i)))))
    ∙ (λ i. to_z w64 (of_z w64 (to_z-of_z w128 (a *ℤ b) wide i)))
    ∙ to_z-of_z w64 (a *ℤ b) short

-- the floor of a quotient of natural numbers, as the code divides
quotient_floor : (a b : ℤ) → pos 0 ≤ℤ a → pos 0 <ℤ b → int_div a b ≡ floor_of a b
unfolding floor_of
quotient_floor (pos a) (pos b) p q = refl
quotient_floor (pos a) (negsuc b) p q = absurd (omega (arith, ints))
quotient_floor (negsuc a) b p q = absurd (omega (arith, ints))

floor_fits : (a b : ℤ) → FitsSigned w64 a → pos 0 ≤ℤ a → pos 0 <ℤ b → FitsSigned w64 (floor_of a b)
unfolding floor_of
floor_fits (pos a) (pos b) f p q = omega (arith, ints, div-le_self a b)
floor_fits (pos a) (negsuc b) f p q = absurd (omega (arith, ints))
floor_fits (negsuc a) b f p q = absurd (omega (arith, ints))

pub coded_floor : (a b : ℤ) → FitsSigned w64 a → FitsSigned w64 b → pos 0 ≤ℤ a → IsFactor b → to_z w64 (of_z w64 (int_div (to_z w64 (of_z w64 a)) (to_z w64 (of_z w64 b)))) ≡ floor_of a b
coded_floor a b f g p q =
    let above : pos 0 <ℤ b = let one = q.0 in omega (arith, ints) in
    (λ i. to_z w64 (of_z w64 (int_div (read a f i) (read b g i))))
    ∙ (λ i. to_z w64 (of_z w64 (quotient_floor a b p above i)))
    ∙ read (floor_of a b) (floor_fits a b f p above)

-- the ceiling is the floor of one less than a divisor more
pub ceiling_by_floor : QuotientOrder → (a b s d r : ℤ) → IsFactor b → r ≡ floor_of s d → d ≡ b → s ≡ (a +ℤ (b -ℤ pos 1)) → r ≡ ceiling_of a b
ceiling_by_floor quotients a b s d r p e g f =
    let above : pos 0 <ℤ b = let one = p.0 in omega (arith, ints) in
    let w = ceiling_of a b in
    let q = floor_of s b in
    let next = plus_times q (pos 1) b in
    let before = plus_times q (negsuc 0) b in
    let under : w ≤ℤ q = by_lt_z s ((q +ℤ pos 1) *ℤ b)
    (λ lt. (quotients.ceiling_above_zero a b q above).1 (omega (arith, ints)))
    (λ le. let more = (quotients.floor_above_zero s b (q +ℤ pos 1) above).1 le in absurd (omega (arith, ints))) in
    let over : q ≤ℤ w = by_lt_z w q
    (λ lt.
    let own = (quotients.floor_above_zero s b q above).0 (omega (arith, ints)) in
    let less = (quotients.ceiling_above_zero a b (q +ℤ negsuc 0) above).0 (omega (arith, ints)) in
    absurd (omega (arith, ints)))
    (λ le. le) in
    e ∙ (λ i. floor_of s (g i)) ∙ omega (arith, ints)

factor_bound : (z : ℤ) → IsFactor z → IsBound z
unfolding factor_limit bound_limit largest_number
factor_bound z p = omega (arith, ints)

-- ---- the variables of a product stand in the box

pub record HasTerms (b : Bounds) (x y z : ℕ) : Type 0 where
  pub first : x < length b
  pub second : y < length b
  pub product : z < length b
  pub first_proper : low_of b x ≤ℤ high_of b x
  pub second_proper : low_of b y ≤ℤ high_of b y
  pub product_proper : low_of b z ≤ℤ high_of b z

pub product_places : (k : Kernel) (b : Bounds) (x y z : ℕ) → IsKernel (length b) k → IsProperIn (vars_of k) b → IsShapeOf k (Product x y z) → HasTerms b x y z
unfolding IsShapeOf vars_of
product_places k b x y z kernel proper e =
    let there : AreVariables (length b) (x ∷ y ∷ z ∷ []) = subst (λ (j : Kernel). AreVariables (length b) (vars_of j)) e kernel.variables in
    let left : IsProperIn (x ∷ y ∷ z ∷ []) b = subst (λ (j : Kernel). IsProperIn (vars_of j) b) e proper in
    record {
      first = there.each 0 (omega arith);
      second = there.each 1 (omega arith);
      product = there.each 2 (omega arith);
      first_proper = left 0 (omega arith);
      second_proper = left 1 (omega arith);
      product_proper = left 2 (omega arith);
    }

pub swapped : (b : Bounds) (x y z : ℕ) → IsNaturalProduct b x y z → IsNaturalProduct b y x z
swapped b x y z p = record { first = p.second; second = p.first; product = p.product; order = p.order }

-- ---- the tells

module _ (b : Bounds) (x y z : ℕ) (natural : IsNaturalProduct b x y z) where
  abbrev pub least_tells : List Tell
  least_tells = low_tell x (ceiling_of (low_of b z) (high_of b y)) ∷ []

  abbrev pub most_tells : List Tell
  most_tells = high_tell x (floor_of (high_of b z) (low_of b y)) ∷ []

  abbrev pub least_product_tells : List Tell
  least_product_tells = low_tell z (low_of b x *ℤ low_of b y) ∷ []

  abbrev pub greatest_product_tells : List Tell
  greatest_product_tells = high_tell z (high_of b x *ℤ high_of b y) ∷ []

  pub natural_product_tells : product_tells x y z b ≡ least_product_tells ++ greatest_product_tells
  natural_product_tells =
      let first : pos 0 ≤ℤ low_of b x = let p = natural.first.low.0 in omega (arith, ints) in
      let second : pos 0 ≤ℤ low_of b y = let p = natural.second.low.0 in omega (arith, ints) in
      let least = natural_least (range_of b x) (range_of b y) first natural.first.order second natural.second.order in
      let greatest = natural_greatest (range_of b x) (range_of b y) first natural.first.order second natural.second.order in
      λ i. low_tell z (sym least i) ∷ high_tell z (sym greatest i) ∷ []

  without_zero : excludes_zero (range_of b y) ≡ true
  without_zero =
      let p = natural.second.low.0 in
      let e : true ≡ int_lt (pos 0) (low_of b y) = omega (arith, ints) in
      subst (λ (t : Bool). (t || int_lt (high_of b y) (pos 0)) ≡ true) e refl

  pub natural_factor_tells : factor_tells x y z b ≡ least_tells ++ most_tells
  natural_factor_tells =
      let second : pos 0 <ℤ low_of b y = let p = natural.second.low.0 in omega (arith, ints) in
      let least = natural_ceiling (range_of b z) (range_of b y) natural.product natural.order second natural.second.order in
      let greatest = natural_floor (range_of b z) (range_of b y) natural.product natural.order second natural.second.order in
      (λ i. when (without_zero i) (low_tell x (least_ceiling (range_of b z) (range_of b y)) ∷ high_tell x (greatest_floor (range_of b z) (range_of b y)) ∷ []))
      ∙ (λ i. low_tell x (sym least i) ∷ high_tell x (sym greatest i) ∷ [])

  -- ---- where they narrow nothing

  module _ (clamped : ClampOrder) where
    kept_low : (v : ℕ) (n : ℤ) → IsBound (low_of b v) → n ≤ℤ low_of b v → Keeps b (low_tell v n)
    kept_low v n own h = let same = clamped.same (low_of b v) own in let rise = clamped.rises n (low_of b v) h in omega (arith, ints)

    kept_high : (v : ℕ) (n : ℤ) → IsBound (high_of b v) → high_of b v ≤ℤ n → Keeps b (high_tell v n)
    kept_high v n own h = let same = clamped.same (high_of b v) own in let rise = clamped.rises (high_of b v) n h in omega (arith, ints)

    pub least_kept : QuotientOrder → low_of b z ≤ℤ (low_of b x *ℤ high_of b y) → All (Keeps b) least_tells
    least_kept quotients h =
        let p = natural.second.high.0 in
        All-one (Keeps b) _ (kept_low x _ (factor_bound (low_of b x) natural.first.low)
        ((quotients.ceiling_above_zero (low_of b z) (high_of b y) (low_of b x) (omega (arith, ints))).1 h))

    pub most_kept : QuotientOrder → (high_of b x *ℤ low_of b y) ≤ℤ high_of b z → All (Keeps b) most_tells
    most_kept quotients h =
        let p = natural.second.low.0 in
        All-one (Keeps b) _ (kept_high x _ (factor_bound (high_of b x) natural.first.high)
        ((quotients.floor_above_zero (high_of b z) (low_of b y) (high_of b x) (omega (arith, ints))).1 h))

    pub factor_kept : QuotientOrder → low_of b z ≤ℤ (low_of b x *ℤ high_of b y) → (high_of b x *ℤ low_of b y) ≤ℤ high_of b z → All (Keeps b) (factor_tells x y z b)
    factor_kept quotients from to =
        subst (λ (ts : List Tell). All (Keeps b) ts) (sym natural_factor_tells)
        (All-append (Keeps b) least_tells most_tells (least_kept quotients from) (most_kept quotients to))

    least_product_kept : IsBound (low_of b z) → (low_of b x *ℤ low_of b y) ≤ℤ low_of b z → All (Keeps b) least_product_tells
    least_product_kept own h = All-one (Keeps b) _ (kept_low z _ own h)

    greatest_product_kept : IsBound (high_of b z) → high_of b z ≤ℤ (high_of b x *ℤ high_of b y) → All (Keeps b) greatest_product_tells
    greatest_product_kept own h = All-one (Keeps b) _ (kept_high z _ own h)

    pub product_kept : IsBound (low_of b z) → IsBound (high_of b z) → (low_of b x *ℤ low_of b y) ≤ℤ low_of b z → high_of b z ≤ℤ (high_of b x *ℤ high_of b y) → All (Keeps b) (product_tells x y z b)
    product_kept low high from to =
        subst (λ (ts : List Tell). All (Keeps b) ts) (sym natural_product_tells)
        (All-append (Keeps b) least_product_tells greatest_product_tells (least_product_kept low from) (greatest_product_kept high to))

    -- ---- gathered one after the other

    left_out : (us : List Tell) → All (Keeps b) us → (ts : List Tell) (f : Seen) → AreFew ts f → AreFew (ts ++ narrowing b us) f
    left_out us kept ts f few =
        subst (λ (vs : List Tell). AreFew (ts ++ vs) f) (sym (none_narrows b us kept))
        (subst (λ (vs : List Tell). AreFew vs f) (sym (append-nil ts)) few)

    pub without_least : QuotientOrder → low_of b z ≤ℤ (low_of b x *ℤ high_of b y) → (ts : List Tell) (f : Seen) → AreFew ts f → AreFew (ts ++ narrowing b least_tells) f
    without_least quotients h = left_out least_tells (least_kept quotients h)

    pub without_most : QuotientOrder → (high_of b x *ℤ low_of b y) ≤ℤ high_of b z → (ts : List Tell) (f : Seen) → AreFew ts f → AreFew (ts ++ narrowing b most_tells) f
    without_most quotients h = left_out most_tells (most_kept quotients h)

    pub without_least_product : IsBound (low_of b z) → (low_of b x *ℤ low_of b y) ≤ℤ low_of b z → (ts : List Tell) (f : Seen) → AreFew ts f → AreFew (ts ++ narrowing b least_product_tells) f
    without_least_product own h = left_out least_product_tells (least_product_kept own h)

    pub without_greatest_product : IsBound (high_of b z) → high_of b z ≤ℤ (high_of b x *ℤ high_of b y) → (ts : List Tell) (f : Seen) → AreFew ts f → AreFew (ts ++ narrowing b greatest_product_tells) f
    without_greatest_product own h = left_out greatest_product_tells (greatest_product_kept own h)

  pub few_of_product : (f : Seen) → AreFew (narrowing b least_product_tells ++ narrowing b greatest_product_tells) f → AreFew (narrowing b (product_tells x y z b)) f
  few_of_product f few =
      subst (λ (ts : List Tell). AreFew ts f)
      (sym (two_parts b (low_tell z (low_of b x *ℤ low_of b y)) (high_tell z (high_of b x *ℤ high_of b y))) ∙ (λ i. narrowing b (sym natural_product_tells i))) few

  pub few_with_factor : (ts : List Tell) (f : Seen) → AreFew ((ts ++ narrowing b least_tells) ++ narrowing b most_tells) f → AreFew (ts ++ narrowing b (factor_tells x y z b)) f
  few_with_factor ts f few =
      let parts = sym (two_parts b (low_tell x (ceiling_of (low_of b z) (high_of b y))) (high_tell x (floor_of (high_of b z) (low_of b y)))) ∙ (λ i. narrowing b (sym natural_factor_tells i)) in
      subst (λ (us : List Tell). AreFew us f)
      (append_assoc ts (narrowing b least_tells) (narrowing b most_tells) ∙ (λ i. ts ++ parts i)) few

-- of the product, and then of each factor
pub few_of_all : (b : Bounds) (x y z : ℕ) (f : Seen)
    → AreFew ((narrowing b (product_tells x y z b) ++ narrowing b (factor_tells x y z b)) ++ narrowing b (factor_tells y x z b)) f → AreFew (narrowing b (times_tells x y z b)) f
few_of_all b x y z f few =
    subst (λ (ts : List Tell). AreFew ts f)
    (append_assoc (narrowing b (product_tells x y z b)) (narrowing b (factor_tells x y z b)) (narrowing b (factor_tells y x z b)) ∙ sym (times_parts b x y z)) few

-- ---- of the kernel

pub all_kept : (k : Kernel) (b : Bounds) (x y z : ℕ) → IsShapeOf k (Product x y z) → All (Keeps b) (product_tells x y z b) → All (Keeps b) (factor_tells x y z b) → All (Keeps b) (factor_tells y x z b)
    → All (Keeps b) (tells k b)
unfolding IsShapeOf tells times_tells
all_kept k b x y z e p q r =
    subst (λ (j : Kernel). All (Keeps b) (tells j b)) (sym e)
    (All-append (Keeps b) (product_tells x y z b) (factor_tells x y z b ++ factor_tells y x z b) p (All-append (Keeps b) (factor_tells x y z b) (factor_tells y x z b) q r))

pub few_of_kernel : (k : Kernel) (b : Bounds) (x y z : ℕ) (f : Seen) → IsShapeOf k (Product x y z) → AreFew (narrowing b (times_tells x y z b)) f → AreFew (narrowing_tells k b) f
unfolding IsShapeOf tells
few_of_kernel k b x y z f e few = subst (λ (j : Kernel). AreFew (narrowing_tells j b) f) (sym e) few
