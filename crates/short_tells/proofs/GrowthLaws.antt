-- What the terms of a short sum grow by, and the tells of those that grow by more than a slack.
use Rattle.std.proofs.Common.{◌≡◌, Bool, ℕ, ◌≤◌, List, [], ◌∷◌, true, false, Option, None, Some, ℤ, pos, negsuc, ◌+ℤ◌, ◌-ℤ◌, ◌*ℤ◌, ◌≤ℤ◌, ◌<ℤ◌, ◌+◌, unsigned_abs, FitsSigned, to_z, of_z, refl, sym, ap, subst, ◌∙◌, arith}
use Rattle.std.proofs.lemmas.Int.{ints, clamps, to_z-of_z, fits_signed_from_abs}
use Rattle.std.proofs.Math.Nat.{mul-le-mul_left}
use borrow.Author.Differences.{up, down}
use Rattle.std.proofs.lemmas.Bool.{cond-true}
use Rattle.std.proofs.lemmas.List.Elements.{All-append}
use Rattle.std.specs.Int.{int_min, int_max}
use Rattle.std.specs.Int.RustNames.{int_lt, int_le, int_div}
use Rattle.std.specs.List.{All}
use Rattle.std.specs.Prelude.{IfSome}
use mir.Syntax.{w64}
use Rattle.tells.specs.declared.tell.Side.TheVariants.{Low, High}
use Rattle.tells.specs.declared.tell.Tell.{Tell}
use Rattle.interval.specs.Limits.{IsBound, ClampOrder, bound_limit, largest_number}
use Rattle.interval.specs.Quotients.{floor_of, QuotientOrder}
use Rattle.interval.specs.Boxes.{Bounds, low_of, high_of}
use Rattle.small_sums.specs.declared.short.Sums.{Sums}
use Rattle.short_tells.specs.declared.short_terms.Room.{Room}
use Rattle.tells.specs.Words.{low_tell, high_tell, Keeps}
use Rattle.sum_tells.specs.Linear.{least_of, greatest_of}
use Rattle.tell_laws.specs.Narrowing.{narrows, narrowing}
use Rattle.small_sums.specs.Short.{AreSums, HasBounds, growth_of, growth_limit, AreShortGrowths}
use Rattle.short_tells.specs.ShortTells.{rise_tells, fall_tells, room_tells, IsSlackOf}
use Rattle.tell_laws.proofs.LiteralLaws.{by_bool}
use Rattle.tell_laws.proofs.NarrowingLaws.{none_narrows}
use Rattle.small_sums.proofs.QuietLaws.{at_most_wide, at_least_wide}
use Rattle.short_tells.proofs.ShortTellLaws.{least_above, least_below, greatest_above, greatest_below, product_falls, minus_times, times_opposite, floor_small}

-- the widest growth is a number of 64 bits, so each is short
pub sums_grow_short : (b : Bounds) (coeffs : List ℤ) (vars : List ℕ) (s : Sums) → FitsSigned w64 s.widest → AreSums b coeffs vars s → AreShortGrowths b coeffs vars
unfolding growth_limit
sums_grow_short b coeffs vars s f sums = record {
  each = λ i h. record { bounds = sums.bounds i h; short = (let w = sums.within i h in let g = f.sfits in omega (arith, ints)) };
}

-- how much a term grows by, by the sign of its coefficient
module _ (b : Bounds) (a : ℤ) (x : ℕ) (proper : low_of b x ≤ℤ high_of b x) where
  pub growth_above : pos 0 <ℤ a → growth_of b a x ≡ (high_of b x -ℤ low_of b x) *ℤ a
  growth_above s = omega (arith, ints, least_above b a x proper s, greatest_above b a x proper s, minus_times (high_of b x) (low_of b x) a)

  pub growth_below : a <ℤ pos 0 → growth_of b a x ≡ (high_of b x -ℤ low_of b x) *ℤ (pos 0 -ℤ a)
  growth_below s = omega (arith, ints, least_below b a x proper s, greatest_below b a x proper s, minus_times (high_of b x) (low_of b x) (pos 0 -ℤ a), times_opposite (high_of b x) a, times_opposite (low_of b x) a)

-- ---- a term that grows by no more than the slack isn't narrowed

module _ (quotients : QuotientOrder) (clamped : ClampOrder) (b : Bounds) (a : ℤ) (x : ℕ) (bounds : HasBounds b x) (slack : ℤ) (growth : growth_of b a x ≤ℤ slack) where
  rise_kept : (o : Option ℤ) → IfSome o (λ r. slack ≤ℤ r) → All (Keeps b) (rise_tells b o (a, x))
  rise_kept None h = λ k d h. absurd (omega arith)
  rise_kept (Some r) h = at_most_wide quotients clamped b x a (least_of b (a, x) +ℤ r) bounds.low bounds.high (omega (arith, ints))

  fall_kept : (o : Option ℤ) → IfSome o (λ r. slack ≤ℤ r) → All (Keeps b) (fall_tells b o (a, x))
  fall_kept None h = λ k d h. absurd (omega arith)
  fall_kept (Some r) h = at_least_wide quotients clamped b x a (greatest_of b (a, x) -ℤ r) bounds.low bounds.high (omega (arith, ints))

  pub room_kept : (room : Room) → IsSlackOf room slack → narrowing b (room_tells b room (a, x)) ≡ []
  room_kept room s = none_narrows b (room_tells b room (a, x)) (All-append (Keeps b) (rise_tells b room.rise (a, x)) (fall_tells b room.fall (a, x)) (rise_kept room.rise s.rise) (fall_kept room.fall s.fall))

-- ---- one that grows by more is told a bound inside its own

module _ (quotients : QuotientOrder) (size slack low high : ℤ) (positive : pos 0 <ℤ size) (above : pos 0 ≤ℤ slack) (wide : slack <ℤ ((high -ℤ low) *ℤ size)) where
  pub steps_above : pos 0 ≤ℤ floor_of slack size
  steps_above = (quotients.floor_above_zero slack size (pos 0) positive).1 (omega (arith, ints))

  pub steps_inside : floor_of slack size <ℤ (high -ℤ low)
  steps_inside = by_bool (int_le (high -ℤ low) (floor_of slack size))
      (λ e. let back = (quotients.floor_above_zero slack size (high -ℤ low) positive).0 (omega (arith, ints)) in absurd (omega (arith, ints)))
      (λ e. omega (arith, ints))

module _ (clamped : ClampOrder) (b : Bounds) (x : ℕ) (value : ℤ) (low_bound : IsBound (low_of b x)) (high_bound : IsBound (high_of b x)) where
  pub high_told : low_of b x ≤ℤ value → value <ℤ high_of b x → (t : Tell) → t ≡ record { var = x; side = High; bound = value } → narrowing b (high_tell x value ∷ []) ≡ t ∷ []
  high_told l h t e =
      let bound : IsBound value = omega (arith, ints) in
      let same = clamped.same value bound in
      let yes : true ≡ int_lt value (high_of b x) = omega (arith, ints) in
      let told : Tell = record { var = x; side = High; bound = value } in
      (λ i. narrowing b (record { var = x; side = High; bound = same i } ∷ []))
      ∙ cond-true (narrows b told) (told ∷ []) [] (sym yes)
      ∙ (λ i. sym e i ∷ [])

  pub low_told : low_of b x <ℤ value → value ≤ℤ high_of b x → (t : Tell) → t ≡ record { var = x; side = Low; bound = value } → narrowing b (low_tell x value ∷ []) ≡ t ∷ []
  low_told l h t e =
      let bound : IsBound value = omega (arith, ints) in
      let same = clamped.same value bound in
      let yes : true ≡ int_lt (low_of b x) value = omega (arith, ints) in
      let told : Tell = record { var = x; side = Low; bound = value } in
      (λ i. narrowing b (record { var = x; side = Low; bound = same i } ∷ []))
      ∙ cond-true (narrows b told) (told ∷ []) [] (sym yes)
      ∙ (λ i. sym e i ∷ [])

-- ---- a product with a size, as the code forms it

product_up : (n : ℕ) (l z : ℤ) → l ≤ℤ z → (pos n *ℤ l) ≤ℤ (pos n *ℤ z)
product_up n l z h =
    let one : up l + down z ≤ up z + down l = omega (arith, ints) in
    omega (arith, ints, mul-le-mul_left n one)

-- how far the products of a coefficient with two numbers are apart
pub apart_above : (a l h : ℤ) → pos 0 ≤ℤ a → l ≤ℤ h → int_max (a *ℤ l) (a *ℤ h) -ℤ int_min (a *ℤ l) (a *ℤ h) ≡ (h -ℤ l) *ℤ a
apart_above (pos n) l h s p = let r = product_up n l h p in omega (arith, ints, clamps, minus_times h l (pos n))
apart_above (negsuc n) l h s p = absurd (omega (arith, ints))

pub apart_below : (a l h : ℤ) → a <ℤ pos 0 → l ≤ℤ h → int_max (a *ℤ l) (a *ℤ h) -ℤ int_min (a *ℤ l) (a *ℤ h) ≡ (h -ℤ l) *ℤ (pos 0 -ℤ a)
apart_below a l h s p = let r = product_falls a l h s p in omega (arith, ints, clamps, minus_times h l a, times_opposite (h -ℤ l) a)

-- a product of two numbers that aren't below zero isn't either
pub span_short : (w n : ℤ) → pos 0 ≤ℤ w → pos 0 ≤ℤ n → (w *ℤ n) ≤ℤ pos growth_limit → unsigned_abs (w *ℤ n) ≤ growth_limit
span_short (pos w) (pos n) s t h = omega (arith, ints)
span_short (pos w) (negsuc n) s t h = absurd (omega (arith, ints))
span_short (negsuc w) n s t h = absurd (omega (arith, ints))

product_fits : (p : ℤ) → unsigned_abs p ≤ growth_limit → FitsSigned w64 p
unfolding growth_limit
product_fits p h = fits_signed_from_abs w64 p (omega arith)

module _ (a z : ℤ) (f : FitsSigned w64 a) (g : FitsSigned w64 z) (h : unsigned_abs (a *ℤ z) ≤ growth_limit) where
  pub coded_fits : FitsSigned w64 (to_z w64 (of_z w64 a) *ℤ to_z w64 (of_z w64 z))
  coded_fits =
      let P : ℤ → Type 0 = λ p. FitsSigned w64 p in
      subst P (λ i. sym (to_z-of_z w64 a f) i *ℤ sym (to_z-of_z w64 z g) i) (product_fits (a *ℤ z) h)

  pub coded_is : to_z w64 (of_z w64 (to_z w64 (of_z w64 a) *ℤ to_z w64 (of_z w64 z))) ≡ a *ℤ z
  coded_is = (λ i. to_z w64 (of_z w64 (to_z-of_z w64 a f i *ℤ to_z-of_z w64 z g i))) ∙ to_z-of_z w64 (a *ℤ z) (product_fits (a *ℤ z) h)

-- the width of two bounds times a size
pub coded_span : (w l h n : ℤ) → FitsSigned w64 w → FitsSigned w64 l → FitsSigned w64 h → FitsSigned w64 n → w ≡ to_z w64 (of_z w64 h) -ℤ to_z w64 (of_z w64 l)
    → to_z w64 (of_z w64 w) *ℤ to_z w64 (of_z w64 n) ≡ (h -ℤ l) *ℤ n
coded_span w l h n f g k m e =
    (λ i. (to_z-of_z w64 w f ∙ e) i *ℤ to_z-of_z w64 n m i) ∙ (λ i. (to_z-of_z w64 h k i -ℤ to_z-of_z w64 l g i) *ℤ n)

-- a variable with one number left makes a term still
pub still_grows : (b : Bounds) (a : ℤ) (x : ℕ) → low_of b x ≡ high_of b x → growth_of b a x ≡ pos 0
unfolding least_of greatest_of
still_grows b a x e = let f : a *ℤ low_of b x ≡ a *ℤ high_of b x = ap (λ (z : ℤ). a *ℤ z) e in omega (arith, ints, clamps)

-- a quotient of numbers that aren't below zero
pub short_floor : (r a : ℤ) → pos 0 ≤ℤ r → pos 0 <ℤ a → int_div r a ≡ floor_of r a
unfolding floor_of
short_floor (pos r) (pos a) s t = refl
short_floor (pos r) (negsuc a) s t = absurd (omega (arith, ints))
short_floor (negsuc r) a s t = absurd (omega (arith, ints))

pub coded_floor : (r a : ℤ) → FitsSigned w64 r → FitsSigned w64 a → pos 0 ≤ℤ r → pos 0 <ℤ a → to_z w64 (of_z w64 (int_div (to_z w64 (of_z w64 r)) (to_z w64 (of_z w64 a)))) ≡ floor_of r a
coded_floor r a f g s t =
    let size : unsigned_abs r ≤ 9223372036854775807 = above_size r f s in
    (λ i. to_z w64 (of_z w64 (int_div (to_z-of_z w64 r f i) (to_z-of_z w64 a g i))))
    ∙ (λ i. to_z w64 (of_z w64 (short_floor r a s t i)))
    ∙ to_z-of_z w64 (floor_of r a) (fits_signed_from_abs w64 (floor_of r a) (omega (arith, floor_small r a 9223372036854775807 t size)))
  where
    above_size : (z : ℤ) → FitsSigned w64 z → pos 0 ≤ℤ z → unsigned_abs z ≤ 9223372036854775807
    above_size (pos n) h k = let u = h.sfits in omega arith
    above_size (negsuc n) h k = absurd (omega (arith, ints))

-- the told bounds, as the code forms them
module _ (l h n : ℤ) (low : IsBound l) (high : IsBound h) (above : pos 0 ≤ℤ n) (inside : n <ℤ (h -ℤ l)) where
  pub high_value : to_z w64 (of_z w64 (l +ℤ n)) ≡ l +ℤ n
  unfolding bound_limit largest_number
  high_value = to_z-of_z w64 (l +ℤ n) (fits_signed_from_abs w64 (l +ℤ n) (omega (arith, ints)))

  pub low_value : to_z w64 (of_z w64 (h -ℤ n)) ≡ h -ℤ n
  unfolding bound_limit largest_number
  low_value = to_z-of_z w64 (h -ℤ n) (fits_signed_from_abs w64 (h -ℤ n) (omega (arith, ints)))

-- ---- what a comparison says

at_most : (y z : ℤ) → int_le y z ≡ true → y ≤ℤ z
at_most y z e = omega (arith, ints)

more : (y z : ℤ) → int_le y z ≡ false → z <ℤ y
more y z e = omega (arith, ints)

module _ (b : Bounds) (x : ℕ) (low high : ℤ) (low_bound : IsBound low) (low_is : low ≡ low_of b x) (high_bound : IsBound high) (high_is : high ≡ high_of b x) where
  span_read : to_z w64 (of_z w64 high) -ℤ to_z w64 (of_z w64 low) ≡ high_of b x -ℤ low_of b x
  unfolding bound_limit largest_number
  span_read = omega (arith, ints)

  pub short_read : (size : ℤ) → FitsSigned w64 size → ((high_of b x -ℤ low_of b x) *ℤ size) ≤ℤ pos growth_limit
      → ((to_z w64 (of_z w64 high) -ℤ to_z w64 (of_z w64 low)) *ℤ to_z w64 (of_z w64 size)) ≤ℤ pos growth_limit
  short_read size f h = let P : ℤ → Type 0 = λ z. z ≤ℤ pos growth_limit in subst P (λ i. sym span_read i *ℤ sym (to_z-of_z w64 size f) i) h

  module _ (size slack : ℤ) (f : FitsSigned w64 size) (g : FitsSigned w64 slack) (t : Bool)
      (tested : t ≡ int_le ((to_z w64 (of_z w64 high) -ℤ to_z w64 (of_z w64 low)) *ℤ to_z w64 (of_z w64 size)) (to_z w64 (of_z w64 slack))) where
    pub within_read : t ≡ true → ((high_of b x -ℤ low_of b x) *ℤ size) ≤ℤ slack
    within_read e = at_most _ _ (sym (λ i. int_le (span_read i *ℤ to_z-of_z w64 size f i) (to_z-of_z w64 slack g i)) ∙ sym tested ∙ e)

    pub wide_read : t ≡ false → to_z w64 (of_z w64 slack) <ℤ ((high_of b x -ℤ low_of b x) *ℤ to_z w64 (of_z w64 size))
    wide_read e = more _ _ (sym (λ i. int_le (span_read i *ℤ to_z w64 (of_z w64 size)) (to_z w64 (of_z w64 slack))) ∙ sym tested ∙ e)
