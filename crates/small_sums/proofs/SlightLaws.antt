-- The parts of a slight sum stay short, one term after the other.
use Rattle.std.proofs.Common.{◌≡◌, ℕ, ◌+◌, ◌*◌, ◌≤◌, ◌<◌, List, length, take, get_or, ℤ, pos, ◌+ℤ◌, ◌-ℤ◌, ◌*ℤ◌, ◌≤ℤ◌, ◌<ℤ◌, unsigned_abs, FitsSigned, to_z, of_z, refl, sym, subst, ◌∙◌, arith}
use Rattle.std.proofs.lemmas.Int.{ints, clamps, unsigned_abs-mul, fits_signed_from_abs, to_z-of_z}
use Rattle.std.proofs.lemmas.List.Sums.{sum_by_more, sum_by_more_le}
use Rattle.std.proofs.Math.Nat.{mul-le-mul_left}
use mir.Syntax.{w64}
use Rattle.std.specs.List.{sum_by}
use Rattle.interval.specs.Limits.{IsBound, bound_limit, largest_number}
use Rattle.small_sums.specs.declared.slight.Reach.{Reach}
use Rattle.small_sums.specs.Short.{slight_limit, short_sum_limit, small_limit, small_product_limit}
use Rattle.small_sums.specs.Slight.{IsReach, IsSlightWith, HasRoomFor, HasMoved}

-- a product with a bound is within the coefficient's share
pub product_share : (a z : ℤ) → IsBound z → unsigned_abs (a *ℤ z) ≤ unsigned_abs a * bound_limit
product_share a z h = omega (arith, unsigned_abs-mul a z, mul-le-mul_left (unsigned_abs a) h)

-- the share of a slight coefficient is small
pub share_small : (a z : ℤ) → unsigned_abs a ≤ slight_limit → IsBound z → unsigned_abs (a *ℤ z) ≤ small_product_limit
unfolding slight_limit bound_limit largest_number small_product_limit small_limit
share_small a z h k = omega (arith, product_share a z k)

pub reach_start : (r : Reach) → r.base ≡ pos 0 → r.down ≡ pos 0 → r.up ≡ pos 0 → r.widest ≡ pos 0 → IsReach 0 r
reach_start r b d u w = record { base = omega (arith, ints); least = omega (arith, ints); greatest = omega (arith, ints); above_zero = omega (arith, ints) }

pub reach_widens : (m n : ℕ) (r : Reach) → m ≤ n → IsReach m r → IsReach n r
unfolding bound_limit largest_number
reach_widens m n r h reach = record { base = omega (arith, reach.base); least = omega (arith, reach.least); greatest = omega (arith, reach.greatest); above_zero = reach.above_zero }

module _ (size n : ℕ) (before : Reach) (p q : ℤ) (reach : IsReach size before) (low : unsigned_abs p ≤ n * bound_limit) (high : unsigned_abs q ≤ n * bound_limit) where
  pub reach_room : size + n ≤ slight_limit → HasRoomFor before p q
  unfolding slight_limit short_sum_limit bound_limit largest_number
  reach_room room = record {
    base = omega (arith, ints, reach.base);
    least = omega (arith, ints, clamps, reach.least);
    greatest = omega (arith, ints, clamps, reach.greatest);
    above_zero = reach.above_zero;
  }

  pub reach_more : (r : Reach) → HasMoved before p q r → IsReach (size + n) r
  unfolding bound_limit largest_number
  reach_more r moved = record {
    base = omega (arith, ints, reach.base, moved.base);
    least = omega (arith, ints, clamps, reach.least, moved.least);
    greatest = omega (arith, ints, clamps, reach.greatest, moved.greatest);
    above_zero = omega (arith, ints, moved.wider, reach.above_zero);
  }

-- the sizes so far and the next one are within all sizes
pub next_size : (coeffs : List ℤ) (i : ℕ) → i < length coeffs → sum_by unsigned_abs coeffs ≤ slight_limit
    → sum_by unsigned_abs (take i coeffs) + unsigned_abs (get_or coeffs i (pos 0)) ≤ slight_limit
next_size coeffs i h s = omega (arith, sum_by_more_le unsigned_abs coeffs i (pos 0) h)

pub sizes_more : (coeffs : List ℤ) (i : ℕ) → i < length coeffs
    → sum_by unsigned_abs (take (i + 1) coeffs) ≡ sum_by unsigned_abs (take i coeffs) + unsigned_abs (get_or coeffs i (pos 0))
sizes_more coeffs i h = sum_by_more unsigned_abs coeffs i (pos 0) h

-- a move by two products, along equations
pub moved_along : (before r : Reach) (p q p' q' : ℤ) → p ≡ p' → q ≡ q' → HasMoved before p q r → HasMoved before p' q' r
moved_along before r p q p' q' e f m = let P : ℤ → ℤ → Type 0 = λ y z. HasMoved before y z r in subst (λ (y : ℤ). P y q') e (subst (λ (z : ℤ). P p z) f m)

pub room_along : (before : Reach) (p q p' q' : ℤ) → p ≡ p' → q ≡ q' → HasRoomFor before p q → HasRoomFor before p' q'
room_along before p q p' q' e f m = let P : ℤ → ℤ → Type 0 = λ y z. HasRoomFor before y z in subst (λ (y : ℤ). P y q') e (subst (λ (z : ℤ). P p z) f m)

-- ---- one move, as the code makes it

module _ (before r : Reach) (p q : ℤ) where
  pub moved_down : r.base ≡ before.base +ℤ p → r.down ≡ before.down +ℤ (q -ℤ p) → r.up ≡ before.up → before.widest ≤ℤ r.widest → (pos 0 -ℤ (q -ℤ p)) ≤ℤ r.widest → (q -ℤ p) <ℤ pos 0 → HasMoved before p q r
  moved_down base down up wider within falls = record {
    base = base;
    least = omega (arith, ints, clamps);
    greatest = omega (arith, ints, clamps);
    wider = wider;
    within = omega (arith, ints, clamps);
  }

  pub moved_up : r.base ≡ before.base +ℤ p → r.down ≡ before.down → r.up ≡ before.up +ℤ (q -ℤ p) → before.widest ≤ℤ r.widest → (q -ℤ p) ≤ℤ r.widest → pos 0 ≤ℤ (q -ℤ p) → HasMoved before p q r
  moved_up base down up wider within rises = record {
    base = base;
    least = omega (arith, ints, clamps);
    greatest = omega (arith, ints, clamps);
    wider = wider;
    within = omega (arith, ints, clamps);
  }

pub moved_one : (before r : Reach) (p : ℤ) → r.base ≡ before.base +ℤ p → r.down ≡ before.down → r.up ≡ before.up → r.widest ≡ before.widest → pos 0 ≤ℤ before.widest → HasMoved before p p r
moved_one before r p base down up widest above = record {
  base = base;
  least = omega (arith, ints, clamps);
  greatest = omega (arith, ints, clamps);
  wider = omega (arith, ints);
  within = omega (arith, ints, clamps);
}

-- what the code reads
pub coded_sum : (y z : ℤ) → FitsSigned w64 y → FitsSigned w64 z → FitsSigned w64 (y +ℤ z) → to_z w64 (of_z w64 (to_z w64 (of_z w64 y) +ℤ to_z w64 (of_z w64 z))) ≡ y +ℤ z
coded_sum y z f g h = (λ i. to_z w64 (of_z w64 (to_z-of_z w64 y f i +ℤ to_z-of_z w64 z g i))) ∙ to_z-of_z w64 (y +ℤ z) h

pub short_fits_sum : (z : ℤ) → unsigned_abs z ≤ short_sum_limit → FitsSigned w64 z
unfolding short_sum_limit
short_fits_sum z h = fits_signed_from_abs w64 z (omega arith)

module _ (p q : ℤ) (low : unsigned_abs p ≤ small_product_limit) (high : unsigned_abs q ≤ small_product_limit) where
  pub growth_fits : FitsSigned w64 (q -ℤ p)
  unfolding small_product_limit small_limit
  growth_fits = fits_signed_from_abs w64 (q -ℤ p) (omega (arith, ints))

  p_fits : FitsSigned w64 p
  unfolding small_product_limit small_limit
  p_fits = fits_signed_from_abs w64 p (omega arith)

  q_fits : FitsSigned w64 q
  unfolding small_product_limit small_limit
  q_fits = fits_signed_from_abs w64 q (omega arith)

  pub coded_growth : to_z w64 (of_z w64 (to_z w64 (of_z w64 q) -ℤ to_z w64 (of_z w64 p))) ≡ q -ℤ p
  coded_growth = (λ i. to_z w64 (of_z w64 (to_z-of_z w64 q q_fits i -ℤ to_z-of_z w64 p p_fits i))) ∙ to_z-of_z w64 (q -ℤ p) growth_fits

  pub coded_fall : to_z w64 (of_z w64 (pos 0 -ℤ to_z w64 (of_z w64 (to_z w64 (of_z w64 q) -ℤ to_z w64 (of_z w64 p))))) ≡ pos 0 -ℤ (q -ℤ p)
  unfolding small_product_limit small_limit
  coded_fall = (λ i. to_z w64 (of_z w64 (pos 0 -ℤ coded_growth i))) ∙ to_z-of_z w64 (pos 0 -ℤ (q -ℤ p)) (fits_signed_from_abs w64 (pos 0 -ℤ (q -ℤ p)) (omega (arith, ints)))

  module _ (before : Reach) (room : HasRoomFor before p q) where
    pub base_fits : FitsSigned w64 (before.base +ℤ p)
    base_fits = short_fits_sum (before.base +ℤ p) room.base

    pub down_fits : (q -ℤ p) <ℤ pos 0 → FitsSigned w64 (before.down +ℤ (q -ℤ p))
    unfolding short_sum_limit
    down_fits h = fits_signed_from_abs w64 (before.down +ℤ (q -ℤ p)) (omega (arith, ints, clamps, room.base, room.least))

    pub up_fits : pos 0 ≤ℤ (q -ℤ p) → FitsSigned w64 (before.up +ℤ (q -ℤ p))
    unfolding short_sum_limit
    up_fits h = fits_signed_from_abs w64 (before.up +ℤ (q -ℤ p)) (omega (arith, ints, clamps, room.base, room.greatest))

    -- as the code forms the two sums
    pub coded_down_fits : FitsSigned w64 before.down → (q -ℤ p) <ℤ pos 0 → FitsSigned w64 (to_z w64 (of_z w64 before.down) +ℤ to_z w64 (of_z w64 (to_z w64 (of_z w64 q) -ℤ to_z w64 (of_z w64 p))))
    coded_down_fits f h = let P : ℤ → Type 0 = λ z. FitsSigned w64 z in subst P (λ i. sym (to_z-of_z w64 before.down f) i +ℤ sym coded_growth i) (down_fits h)

    pub coded_up_fits : FitsSigned w64 before.up → pos 0 ≤ℤ (q -ℤ p) → FitsSigned w64 (to_z w64 (of_z w64 before.up) +ℤ to_z w64 (of_z w64 (to_z w64 (of_z w64 q) -ℤ to_z w64 (of_z w64 p))))
    coded_up_fits f h = let P : ℤ → Type 0 = λ z. FitsSigned w64 z in subst P (λ i. sym (to_z-of_z w64 before.up f) i +ℤ sym coded_growth i) (up_fits h)

    pub coded_base : FitsSigned w64 before.base → to_z w64 (of_z w64 (to_z w64 (of_z w64 before.base) +ℤ to_z w64 (of_z w64 p))) ≡ before.base +ℤ p
    coded_base f = coded_sum before.base p f p_fits base_fits

    pub coded_down : FitsSigned w64 before.down → (q -ℤ p) <ℤ pos 0 → to_z w64 (of_z w64 (to_z w64 (of_z w64 before.down) +ℤ to_z w64 (of_z w64 (to_z w64 (of_z w64 q) -ℤ to_z w64 (of_z w64 p))))) ≡ before.down +ℤ (q -ℤ p)
    coded_down f h = (λ i. to_z w64 (of_z w64 (to_z-of_z w64 before.down f i +ℤ coded_growth i))) ∙ to_z-of_z w64 (before.down +ℤ (q -ℤ p)) (down_fits h)

    pub coded_up : FitsSigned w64 before.up → pos 0 ≤ℤ (q -ℤ p) → to_z w64 (of_z w64 (to_z w64 (of_z w64 before.up) +ℤ to_z w64 (of_z w64 (to_z w64 (of_z w64 q) -ℤ to_z w64 (of_z w64 p))))) ≡ before.up +ℤ (q -ℤ p)
    coded_up f h = (λ i. to_z w64 (of_z w64 (to_z-of_z w64 before.up f i +ℤ coded_growth i))) ∙ to_z-of_z w64 (before.up +ℤ (q -ℤ p)) (up_fits h)

-- the two sums that the parts make
module _ (r : Reach) (reach : IsReach slight_limit r) where
  pub least_fits : FitsSigned w64 (r.base +ℤ r.down)
  unfolding slight_limit bound_limit largest_number
  least_fits = fits_signed_from_abs w64 (r.base +ℤ r.down) (omega (arith, reach.least))

  pub greatest_fits : FitsSigned w64 (r.base +ℤ r.up)
  unfolding slight_limit bound_limit largest_number
  greatest_fits = fits_signed_from_abs w64 (r.base +ℤ r.up) (omega (arith, reach.greatest))

  pub least_short : unsigned_abs (r.base +ℤ r.down) ≤ short_sum_limit
  unfolding slight_limit bound_limit largest_number short_sum_limit
  least_short = omega (arith, reach.least)

  pub greatest_short : unsigned_abs (r.base +ℤ r.up) ≤ short_sum_limit
  unfolding slight_limit bound_limit largest_number short_sum_limit
  greatest_short = omega (arith, reach.greatest)

-- what the code reads of a bound
pub bound_read : (z w : ℤ) → IsBound z → z ≡ w → to_z w64 (of_z w64 z) ≡ w
unfolding bound_limit largest_number
bound_read z w h e = (let read : to_z w64 (of_z w64 z) ≡ z = omega (arith, ints) in read) ∙ e

pub coded_share : (a z : ℤ) → FitsSigned w64 a → unsigned_abs a ≤ slight_limit → IsBound z → unsigned_abs (to_z w64 (of_z w64 a) *ℤ to_z w64 (of_z w64 z)) ≤ small_product_limit
coded_share a z f h k =
    let P : ℤ → ℤ → Type 0 = λ y w. unsigned_abs (y *ℤ w) ≤ small_product_limit in
    subst (λ (y : ℤ). P y (to_z w64 (of_z w64 z))) (sym (to_z-of_z w64 a f)) (subst (λ (w : ℤ). P a w) (sym (bound_read z z k refl)) (share_small a z h k))

-- a coefficient that is slight with others is slight
pub slight_alone : (coeff : ℤ) (r : Reach) → IsSlightWith coeff r → unsigned_abs coeff ≤ slight_limit
slight_alone coeff r s = let h = s.room in omega arith
