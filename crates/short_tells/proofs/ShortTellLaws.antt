-- The tells of a sum, and those that narrow the box, by the room that its least and greatest values leave.
use Rattle.std.proofs.Common.{◌≡◌, ℕ, suc, List, [], ◌∷◌, ◌++◌, Some, ℤ, pos, negsuc, ◌+ℤ◌, ◌-ℤ◌, ◌*ℤ◌, ◌≤ℤ◌, ◌<ℤ◌, ◌+◌, ◌*◌, ◌≤◌, unsigned_abs, FitsSigned, to_z, of_z, refl, sym, ap, ◌∙◌, arith}
use Rattle.std.proofs.lemmas.Int.{ints, clamps, to_z-of_z, fits_signed_from_abs}
use Rattle.std.proofs.Math.Nat.{mul-le-mul_left, div-le_self}
use Rattle.std.proofs.lemmas.List.Elements.{filter-append}
use Rattle.std.specs.List.{flat_map}
use borrow.Author.Differences.{up, down}
use Rattle.tells.specs.declared.tell.Tell.{Tell}
use mir.Syntax.{w64, w128}
use Rattle.interval.specs.Limits.{IsBound, IsNumber, bound_limit, largest_number, ClampOrder}
use Rattle.interval.specs.Quotients.{floor_of, ceiling_of, QuotientOrder}
use Rattle.interval.specs.Boxes.{Bounds, low_of, high_of}
use Rattle.tells.specs.Words.{low_tell, high_tell, Keeps}
use Rattle.sum_tells.specs.Linear.{least_of, greatest_of}
use Rattle.tell_laws.specs.Narrowing.{narrows, narrowing}
use Rattle.short_tells.specs.ShortTells.{rise_tells, fall_tells}
use Rattle.tell_laws.proofs.Lists.{All-one}
use Rattle.tell_laws.proofs.HearingLaws.{along}
use Rattle.tell_laws.proofs.NarrowingLaws.{none_narrows}
use Rattle.sum_tells.proofs.ProductLaws.{at_most_above, at_most_below, at_least_above, at_least_below}

-- ---- products along the order

product_rises : (a l z : ℤ) → pos 0 <ℤ a → l ≤ℤ z → (a *ℤ l) ≤ℤ (a *ℤ z)
product_rises (pos n) l z s h =
    let one : up l + down z ≤ up z + down l = omega (arith, ints) in
    omega (arith, ints, mul-le-mul_left n one)
product_rises (negsuc n) l z s h = absurd (omega (arith, ints))

pub product_falls : (a l z : ℤ) → a <ℤ pos 0 → l ≤ℤ z → (a *ℤ z) ≤ℤ (a *ℤ l)
product_falls (pos n) l z s h = absurd (omega (arith, ints))
product_falls (negsuc n) l z s h =
    let one : up l + down z ≤ up z + down l = omega (arith, ints) in
    omega (arith, ints, mul-le-mul_left (suc n) one)

-- a product of a sum, of a difference, and with an opposite
plus_times : (y z a : ℤ) → (y +ℤ z) *ℤ a ≡ y *ℤ a +ℤ z *ℤ a
plus_times y z a =
    let e : up (y +ℤ z) + (down y + down z) ≡ down (y +ℤ z) + (up y + up z) = omega (arith, ints) in
    omega (arith, ints, ap (λ (n : ℕ). n * up a) e, ap (λ (n : ℕ). n * down a) e)

pub minus_times : (y z a : ℤ) → (y -ℤ z) *ℤ a ≡ y *ℤ a -ℤ z *ℤ a
minus_times y z a =
    let e : up (y -ℤ z) + (down y + up z) ≡ down (y -ℤ z) + (up y + down z) = omega (arith, ints) in
    omega (arith, ints, ap (λ (n : ℕ). n * up a) e, ap (λ (n : ℕ). n * down a) e)

pub times_opposite : (z a : ℤ) → z *ℤ (pos 0 -ℤ a) ≡ pos 0 -ℤ z *ℤ a
times_opposite z a = let e = minus_times (pos 0) a z in omega (arith, ints)

module _ (b : Bounds) (a : ℤ) (x : ℕ) (proper : low_of b x ≤ℤ high_of b x) where
  pub least_above : pos 0 <ℤ a → least_of b (a, x) ≡ a *ℤ low_of b x
  unfolding least_of
  least_above s = let r = product_rises a (low_of b x) (high_of b x) s proper in omega (arith, ints, clamps)

  pub least_below : a <ℤ pos 0 → least_of b (a, x) ≡ a *ℤ high_of b x
  unfolding least_of
  least_below s = let r = product_falls a (low_of b x) (high_of b x) s proper in omega (arith, ints, clamps)

  pub greatest_above : pos 0 <ℤ a → greatest_of b (a, x) ≡ a *ℤ high_of b x
  unfolding greatest_of
  greatest_above s = let r = product_rises a (low_of b x) (high_of b x) s proper in omega (arith, ints, clamps)

  pub greatest_below : a <ℤ pos 0 → greatest_of b (a, x) ≡ a *ℤ low_of b x
  unfolding greatest_of
  greatest_below s = let r = product_falls a (low_of b x) (high_of b x) s proper in omega (arith, ints, clamps)

-- ---- quotients of a multiple and a rest

module _ (quotients : QuotientOrder) (a z r : ℤ) where
  floor_rises : pos 0 <ℤ a → floor_of (a *ℤ z +ℤ r) a ≡ z +ℤ floor_of r a
  floor_rises s =
      let q = floor_of (a *ℤ z +ℤ r) a in
      let f = floor_of r a in
      let own : (q *ℤ a) ≤ℤ (a *ℤ z +ℤ r) = (quotients.floor_above_zero (a *ℤ z +ℤ r) a q s).0 (omega (arith, ints)) in
      let rest : ((q -ℤ z) *ℤ a) ≤ℤ r = omega (arith, ints, minus_times q z a) in
      let most = (quotients.floor_above_zero r a (q -ℤ z) s).1 rest in
      let floor : (f *ℤ a) ≤ℤ r = (quotients.floor_above_zero r a f s).0 (omega (arith, ints)) in
      let least = (quotients.floor_above_zero (a *ℤ z +ℤ r) a (z +ℤ f) s).1 (omega (arith, ints, plus_times z f a, times_opposite f a)) in
      omega (arith, ints)

  ceiling_rises : a <ℤ pos 0 → ceiling_of (a *ℤ z +ℤ r) a ≡ z -ℤ floor_of r (pos 0 -ℤ a)
  ceiling_rises s =
      let m = pos 0 -ℤ a in
      let t : pos 0 <ℤ m = omega (arith, ints) in
      let q = ceiling_of (a *ℤ z +ℤ r) a in
      let f = floor_of r m in
      let own : (q *ℤ a) ≤ℤ (a *ℤ z +ℤ r) = (quotients.ceiling_below_zero (a *ℤ z +ℤ r) a q s).0 (omega (arith, ints)) in
      let rest : ((z -ℤ q) *ℤ m) ≤ℤ r = omega (arith, ints, minus_times z q m, times_opposite z a, times_opposite q a) in
      let most = (quotients.floor_above_zero r m (z -ℤ q) t).1 rest in
      let floor : (f *ℤ m) ≤ℤ r = (quotients.floor_above_zero r m f t).0 (omega (arith, ints)) in
      let least = (quotients.ceiling_below_zero (a *ℤ z +ℤ r) a (z -ℤ f) s).1 (omega (arith, ints, minus_times z f a, times_opposite f a)) in
      omega (arith, ints)

  ceiling_falls : pos 0 <ℤ a → ceiling_of (a *ℤ z -ℤ r) a ≡ z -ℤ floor_of r a
  ceiling_falls s =
      let q = ceiling_of (a *ℤ z -ℤ r) a in
      let f = floor_of r a in
      let own : (a *ℤ z -ℤ r) ≤ℤ (q *ℤ a) = (quotients.ceiling_above_zero (a *ℤ z -ℤ r) a q s).0 (omega (arith, ints)) in
      let rest : ((z -ℤ q) *ℤ a) ≤ℤ r = omega (arith, ints, minus_times z q a) in
      let most = (quotients.floor_above_zero r a (z -ℤ q) s).1 rest in
      let floor : (f *ℤ a) ≤ℤ r = (quotients.floor_above_zero r a f s).0 (omega (arith, ints)) in
      let least = (quotients.ceiling_above_zero (a *ℤ z -ℤ r) a (z -ℤ f) s).1 (omega (arith, ints, minus_times z f a, times_opposite f a)) in
      omega (arith, ints)

  floor_falls : a <ℤ pos 0 → floor_of (a *ℤ z -ℤ r) a ≡ z +ℤ floor_of r (pos 0 -ℤ a)
  floor_falls s =
      let m = pos 0 -ℤ a in
      let t : pos 0 <ℤ m = omega (arith, ints) in
      let q = floor_of (a *ℤ z -ℤ r) a in
      let f = floor_of r m in
      let own : (a *ℤ z -ℤ r) ≤ℤ (q *ℤ a) = (quotients.floor_below_zero (a *ℤ z -ℤ r) a q s).0 (omega (arith, ints)) in
      let rest : ((q -ℤ z) *ℤ m) ≤ℤ r = omega (arith, ints, minus_times q z m, times_opposite q a, times_opposite z a) in
      let most = (quotients.floor_above_zero r m (q -ℤ z) t).1 rest in
      let floor : (f *ℤ m) ≤ℤ r = (quotients.floor_above_zero r m f t).0 (omega (arith, ints)) in
      let least = (quotients.floor_below_zero (a *ℤ z -ℤ r) a (z +ℤ f) s).1 (omega (arith, ints, plus_times z f a, times_opposite f a)) in
      omega (arith, ints)

-- a quotient by a number above zero is no larger than the dividend
pub floor_small : (r a : ℤ) (n : ℕ) → pos 0 <ℤ a → unsigned_abs r ≤ n → unsigned_abs (floor_of r a) ≤ n
unfolding floor_of
floor_small (pos r) (pos a) n s h = omega (arith, div-le_self r a)
floor_small (negsuc r) (pos a) n s h = omega (arith, div-le_self r a)
floor_small r (negsuc a) n s h = absurd (omega (arith, ints))

-- ---- the tells of a term that has room, with the slack and the size of its coefficient as the code reads them

module _ (quotients : QuotientOrder) (b : Bounds) (a : ℤ) (x : ℕ) (proper : low_of b x ≤ℤ high_of b x) (r s n : ℤ) (same : s ≡ r) where
  pub rise_above : pos 0 <ℤ a → n ≡ a → rise_tells b (Some r) (a, x) ≡ high_tell x (low_of b x +ℤ floor_of s n) ∷ []
  rise_above sign e =
      at_most_above x a (least_of b (a, x) +ℤ r) sign
      ∙ (λ i. high_tell x (floor_of (least_above b a x proper sign i +ℤ r) a) ∷ [])
      ∙ (λ i. high_tell x (floor_rises quotients a (low_of b x) r sign i) ∷ [])
      ∙ (λ i. high_tell x (low_of b x +ℤ floor_of (sym same i) (sym e i)) ∷ [])

  pub rise_below : a <ℤ pos 0 → n ≡ pos 0 -ℤ a → rise_tells b (Some r) (a, x) ≡ low_tell x (high_of b x -ℤ floor_of s n) ∷ []
  rise_below sign e =
      at_most_below x a (least_of b (a, x) +ℤ r) sign
      ∙ (λ i. low_tell x (ceiling_of (least_below b a x proper sign i +ℤ r) a) ∷ [])
      ∙ (λ i. low_tell x (ceiling_rises quotients a (high_of b x) r sign i) ∷ [])
      ∙ (λ i. low_tell x (high_of b x -ℤ floor_of (sym same i) (sym e i)) ∷ [])

  pub fall_above : pos 0 <ℤ a → n ≡ a → fall_tells b (Some r) (a, x) ≡ low_tell x (high_of b x -ℤ floor_of s n) ∷ []
  fall_above sign e =
      at_least_above x a (greatest_of b (a, x) -ℤ r) sign
      ∙ (λ i. low_tell x (ceiling_of (greatest_above b a x proper sign i -ℤ r) a) ∷ [])
      ∙ (λ i. low_tell x (ceiling_falls quotients a (high_of b x) r sign i) ∷ [])
      ∙ (λ i. low_tell x (high_of b x -ℤ floor_of (sym same i) (sym e i)) ∷ [])

  pub fall_below : a <ℤ pos 0 → n ≡ pos 0 -ℤ a → fall_tells b (Some r) (a, x) ≡ high_tell x (low_of b x +ℤ floor_of s n) ∷ []
  fall_below sign e =
      at_least_below x a (greatest_of b (a, x) -ℤ r) sign
      ∙ (λ i. high_tell x (floor_of (greatest_below b a x proper sign i -ℤ r) a) ∷ [])
      ∙ (λ i. high_tell x (floor_falls quotients a (low_of b x) r sign i) ∷ [])
      ∙ (λ i. high_tell x (low_of b x +ℤ floor_of (sym same i) (sym e i)) ∷ [])

pub coded_opposite : (a o : ℤ) → IsNumber a → o ≡ pos 0 -ℤ to_z w64 (of_z w64 a) → to_z w64 (of_z w64 o) ≡ pos 0 -ℤ a
unfolding largest_number
coded_opposite a o h e = omega (arith, ints)

-- ---- a term that grows by no more than the slack isn't narrowed

module _ (quotients : QuotientOrder) (clamped : ClampOrder) (b : Bounds) (x : ℕ) (size r : ℤ) (positive : pos 0 <ℤ size) (within : ((high_of b x -ℤ low_of b x) *ℤ size) ≤ℤ r) where
  pub high_stays : IsBound (high_of b x) → narrowing b (high_tell x (low_of b x +ℤ floor_of r size) ∷ []) ≡ []
  high_stays bound =
      let most = (quotients.floor_above_zero r size (high_of b x -ℤ low_of b x) positive).1 within in
      let same = clamped.same (high_of b x) bound in
      let rise = clamped.rises (high_of b x) (low_of b x +ℤ floor_of r size) (omega (arith, ints)) in
      none_narrows b (high_tell x (low_of b x +ℤ floor_of r size) ∷ []) (All-one (Keeps b) (high_tell x (low_of b x +ℤ floor_of r size)) (omega (arith, ints)))

  pub low_stays : IsBound (low_of b x) → narrowing b (low_tell x (high_of b x -ℤ floor_of r size) ∷ []) ≡ []
  low_stays bound =
      let most = (quotients.floor_above_zero r size (high_of b x -ℤ low_of b x) positive).1 within in
      let same = clamped.same (low_of b x) bound in
      let rise = clamped.rises (high_of b x -ℤ floor_of r size) (low_of b x) (omega (arith, ints)) in
      none_narrows b (low_tell x (high_of b x -ℤ floor_of r size) ∷ []) (All-one (Keeps b) (low_tell x (high_of b x -ℤ floor_of r size)) (omega (arith, ints)))

-- what the code compares is exact
size_of : (a : ℤ) → FitsSigned w64 a → unsigned_abs a ≤ 9223372036854775808
size_of (pos n) f = let h = f.sfits in omega arith
size_of (negsuc n) f = let h = f.sfits in omega arith

pub wide_number : (a : ℤ) → FitsSigned w64 a → to_z w128 (of_z w128 (to_z w64 (of_z w64 a))) ≡ a
wide_number a f =
    let size = size_of a f in
    (λ i. to_z w128 (of_z w128 (to_z-of_z w64 a f i))) ∙ to_z-of_z w128 a (fits_signed_from_abs w128 a (omega arith))

pub within_is : (b : Bounds) (x : ℕ) (low high size r : ℤ) → IsBound low → low ≡ low_of b x → IsBound high → high ≡ high_of b x → FitsSigned w64 size → FitsSigned w64 r
    → ((to_z w64 (of_z w64 high) -ℤ to_z w64 (of_z w64 low)) *ℤ to_z w64 (of_z w64 size)) ≤ℤ to_z w64 (of_z w64 r) → ((high_of b x -ℤ low_of b x) *ℤ size) ≤ℤ r
unfolding bound_limit largest_number
within_is b x low high size r p e q f s t h =
    let span : to_z w64 (of_z w64 high) -ℤ to_z w64 (of_z w64 low) ≡ high_of b x -ℤ low_of b x = omega (arith, ints) in
    along (λ (y : ℤ) (z : ℤ) (w : ℤ). (y *ℤ z) ≤ℤ w) span (to_z-of_z w64 size s) (to_z-of_z w64 r t) h

-- ---- lists of what narrows

pub narrowing_flat_map : {X : Type 0} (b : Bounds) (f : X → List Tell) (xs : List X) → narrowing b (flat_map f xs) ≡ flat_map (λ x. narrowing b (f x)) xs
narrowing_flat_map b f [] = refl
narrowing_flat_map b f (x ∷ xs) = filter-append (narrows b) (f x) (flat_map f xs) ∙ ap (λ (ts : List Tell). narrowing b (f x) ++ ts) (narrowing_flat_map b f xs)
