-- The floor and the ceiling of an exact quotient against products.
use Rattle.std.proofs.Common.{◌≡◌, ◌≢◌, ◌↔◌, ℕ, zero, suc, ◌+◌, ◌*◌, ◌/◌, ◌<◌, ◌≤◌, ℤ, pos, negsuc, neg_ℤ, ◌+ℤ◌, ◌-ℤ◌, ◌*ℤ◌, ◌≤ℤ◌, ◌<ℤ◌, refl, sym, ap, subst, arith, FitsSigned, to_z, of_z}
use Rattle.std.proofs.lemmas.Int.{ints, by_lt_z, quot-rem, rem_below, quot_is, rem_is, to_z-of_z, fits_signed_from_abs}
use Rattle.std.proofs.Math.Nat.{div-add-mod', mod-lt, div-le_self, mul-le-mul_right}
use Rattle.std.specs.Int.RustNames.{int_div, int_rem, unsigned_abs}
use Rattle.interval.specs.Limits.{dividend_limit, short_limit}
use mir.Syntax.{Width, w64, w128}
use Rattle.interval.specs.Quotients.{floor_of, ceiling_of, IsFloorOf, IsCeilingOf, AreParts, QuotientOrder}
use borrow.Author.Differences.{up, down, sum_is_lem, neg_is, product_is, same_in}

-- a product of a sum, and of an opposite
pub plus_times : (z w b : ℤ) → (z +ℤ w) *ℤ b ≡ z *ℤ b +ℤ w *ℤ b
plus_times z w b =
    let ups = ap (λ n. n * up b) (sum_is_lem z w) in
    let downs = ap (λ n. n * down b) (sum_is_lem z w) in
    omega (arith, same_in, product_is, sum_is_lem)

pub opposite_times : (z b : ℤ) → neg_ℤ z *ℤ b ≡ neg_ℤ (z *ℤ b)
opposite_times z b =
    let p = ap (λ n. n * up b) (neg_is z).0 in
    let q = ap (λ n. n * down b) (neg_is z).0 in
    let r = ap (λ n. n * up b) (neg_is z).1 in
    let s = ap (λ n. n * down b) (neg_is z).1 in
    omega (arith, same_in, product_is, neg_is)

-- a product by a natural number keeps the order, one by a number below zero turns it round
times_natural : (z w : ℤ) (n : ℕ) → z ≤ℤ w → (z *ℤ pos n) ≤ℤ (w *ℤ pos n)
times_natural z w n h =
    let sums : up z + down w ≤ up w + down z = omega (arith, ints) in
    omega (arith, ints, mul-le-mul_right n sums)

times_negative : (z w : ℤ) (n : ℕ) → z ≤ℤ w → (w *ℤ negsuc n) ≤ℤ (z *ℤ negsuc n)
times_negative z w n h =
    let sums : up z + down w ≤ up w + down z = omega (arith, ints) in
    omega (arith, ints, mul-le-mul_right (suc n) sums)

-- the floor is the floor
pub floor_exact : (a b : ℤ) → b ≢ pos 0 → IsFloorOf a b (floor_of a b)
unfolding floor_of
floor_exact (pos a) (pos zero) n = absurd (n refl)
floor_exact (pos a) (pos (suc b)) n = record {
  above_zero = λ h. (omega (arith, ints, div-add-mod' a (suc b)), omega (arith, ints, div-add-mod' a (suc b), mod-lt a {m = suc b} (omega arith)));
  below_zero = λ h. absurd (omega (arith, ints));
}
floor_exact (pos zero) (negsuc b) n = record {
  above_zero = λ h. absurd (omega (arith, ints));
  below_zero = λ h. (omega (arith, ints), omega (arith, ints));
}
floor_exact (pos (suc a)) (negsuc b) n = record {
  above_zero = λ h. absurd (omega (arith, ints));
  below_zero = λ h. (omega (arith, ints, div-add-mod' a (suc b), mod-lt a {m = suc b} (omega arith)), omega (arith, ints, div-add-mod' a (suc b), mod-lt a {m = suc b} (omega arith), plus_times (negsuc (a / suc b)) (pos 1) (negsuc b)));
}
floor_exact (negsuc a) (pos zero) n = absurd (n refl)
floor_exact (negsuc a) (pos (suc b)) n = record {
  above_zero = λ h. (omega (arith, ints, div-add-mod' a (suc b), mod-lt a {m = suc b} (omega arith)), omega (arith, ints, div-add-mod' a (suc b), mod-lt a {m = suc b} (omega arith), plus_times (negsuc (a / suc b)) (pos 1) (pos (suc b))));
  below_zero = λ h. absurd (omega (arith, ints));
}
floor_exact (negsuc a) (negsuc b) n = record {
  above_zero = λ h. absurd (omega (arith, ints));
  below_zero = λ h. (omega (arith, ints, div-add-mod' (suc a) (suc b), mod-lt (suc a) {m = suc b} (omega arith)), omega (arith, ints, div-add-mod' (suc a) (suc b), mod-lt (suc a) {m = suc b} (omega arith)));
}

-- the ceiling is the ceiling
pub ceiling_exact : (a b : ℤ) → b ≢ pos 0 → IsCeilingOf a b (ceiling_of a b)
unfolding ceiling_of
ceiling_exact a b n =
    let q = floor_of (neg_ℤ a) b in
    let f = floor_exact (neg_ℤ a) b n in
    let same = opposite_times q b in
    let one_more = plus_times q (pos 1) b in
    let one_less = plus_times (neg_ℤ q) (negsuc 0) b in
    record {
      above_zero = λ h. let p = f.above_zero h in let p0 = p.0 in let p1 = p.1 in (omega (arith, ints), omega (arith, ints));
      below_zero = λ h. let p = f.below_zero h in let p0 = p.0 in let p1 = p.1 in (omega (arith, ints), omega (arith, ints));
    }

floor_above : (a b z : ℤ) → pos 0 <ℤ b → (z ≤ℤ floor_of a b) ↔ ((z *ℤ b) ≤ℤ a)
floor_above a (pos b) z h =
    let q = floor_of a (pos b) in
    let e = (floor_exact a (pos b) (λ p. omega (arith, ints))).above_zero h in
    let e0 : (q *ℤ pos b) ≤ℤ a = e.0 in
    let e1 : a <ℤ ((q +ℤ pos 1) *ℤ pos b) = e.1 in
    (λ le. omega (arith, ints, times_natural z q b le), λ le. by_lt_z q z (λ lt. absurd (omega (arith, ints, times_natural (q +ℤ pos 1) z b (omega (arith, ints))))) (λ ge. ge))
floor_above a (negsuc b) z h = absurd h.lt

floor_below : (a b z : ℤ) → b <ℤ pos 0 → (z ≤ℤ floor_of a b) ↔ (a ≤ℤ (z *ℤ b))
floor_below a (pos b) z h = absurd (omega (arith, ints))
floor_below a (negsuc b) z h =
    let q = floor_of a (negsuc b) in
    let e = (floor_exact a (negsuc b) (λ p. omega (arith, ints))).below_zero h in
    let e0 : a ≤ℤ (q *ℤ negsuc b) = e.0 in
    let e1 : ((q +ℤ pos 1) *ℤ negsuc b) <ℤ a = e.1 in
    (λ le. omega (arith, ints, times_negative z q b le), λ le. by_lt_z q z (λ lt. absurd (omega (arith, ints, times_negative (q +ℤ pos 1) z b (omega (arith, ints))))) (λ ge. ge))

ceiling_above : (a b z : ℤ) → pos 0 <ℤ b → (ceiling_of a b ≤ℤ z) ↔ (a ≤ℤ (z *ℤ b))
unfolding ceiling_of
ceiling_above a b z h =
    let f = floor_above (neg_ℤ a) b (neg_ℤ z) h in
    let same = opposite_times z b in
    (λ le. let there = f.0 (omega (arith, ints)) in omega (arith, ints), λ le. let back = f.1 (omega (arith, ints)) in omega (arith, ints))

ceiling_below : (a b z : ℤ) → b <ℤ pos 0 → (ceiling_of a b ≤ℤ z) ↔ ((z *ℤ b) ≤ℤ a)
unfolding ceiling_of
ceiling_below a b z h =
    let f = floor_below (neg_ℤ a) b (neg_ℤ z) h in
    let same = opposite_times z b in
    (λ le. let there = f.0 (omega (arith, ints)) in omega (arith, ints), λ le. let back = f.1 (omega (arith, ints)) in omega (arith, ints))

pub quotient_order : QuotientOrder
quotient_order = record {
  floor_above_zero = floor_above;
  floor_below_zero = floor_below;
  ceiling_above_zero = ceiling_above;
  ceiling_below_zero = ceiling_below;
}

-- no other number is the floor
pub floor_unique : (a b q : ℤ) → b ≢ pos 0 → IsFloorOf a b q → q ≡ floor_of a b
floor_unique a (pos zero) q n f = absurd (n refl)
floor_unique a (pos (suc b)) q n f =
    let e = f.above_zero (omega (arith, ints)) in
    let e0 = e.0 in
    let e1 = e.1 in
    let low = (floor_above a (pos (suc b)) q (omega (arith, ints))).1 e0 in
    let own = (floor_above a (pos (suc b)) (q +ℤ pos 1) (omega (arith, ints))).0 in
    by_lt_z q (floor_of a (pos (suc b))) (λ lt. absurd (omega (arith, ints, own (omega (arith, ints))))) (λ ge. omega (arith, ints))
floor_unique a (negsuc b) q n f =
    let e = f.below_zero (omega (arith, ints)) in
    let e0 = e.0 in
    let e1 = e.1 in
    let low = (floor_below a (negsuc b) q (omega (arith, ints))).1 e0 in
    let own = (floor_below a (negsuc b) (q +ℤ pos 1) (omega (arith, ints))).0 in
    by_lt_z q (floor_of a (negsuc b)) (λ lt. absurd (omega (arith, ints, own (omega (arith, ints))))) (λ ge. omega (arith, ints))

-- the quotient toward zero and what it leaves
pub parts_are : (a b : ℤ) → b ≢ pos 0 → AreParts a b (int_div a b) (int_rem a b)
parts_are a b n = record { whole = quot-rem a b; small = rem_below a b (omega (arith, ints)) }

pub floor_kept_above : (a b q r : ℤ) → AreParts a b q r → pos 0 <ℤ b → pos 0 ≤ℤ r → q ≡ floor_of a b
floor_kept_above a b q r p h k =
    let whole = p.whole in
    let small = p.small in
    let one_more = plus_times q (pos 1) b in
    floor_unique a b q (λ e. omega (arith, ints)) (record {
      above_zero = λ _. (omega (arith, ints), omega (arith, ints));
      below_zero = λ l. absurd (omega (arith, ints));
    })

pub floor_lowered_above : (a b q r : ℤ) → AreParts a b q r → pos 0 <ℤ b → r <ℤ pos 0 → q -ℤ pos 1 ≡ floor_of a b
floor_lowered_above a b q r p h k =
    let whole = p.whole in
    let small = p.small in
    let one_less = plus_times q (negsuc 0) b in
    let again = plus_times (q -ℤ pos 1) (pos 1) b in
    floor_unique a b (q -ℤ pos 1) (λ e. omega (arith, ints)) (record {
      above_zero = λ _. (omega (arith, ints), omega (arith, ints));
      below_zero = λ l. absurd (omega (arith, ints));
    })

pub floor_kept_below : (a b q r : ℤ) → AreParts a b q r → b <ℤ pos 0 → r ≤ℤ pos 0 → q ≡ floor_of a b
floor_kept_below a b q r p h k =
    let whole = p.whole in
    let small = p.small in
    let one_more = plus_times q (pos 1) b in
    floor_unique a b q (λ e. omega (arith, ints)) (record {
      above_zero = λ l. absurd (omega (arith, ints));
      below_zero = λ _. (omega (arith, ints), omega (arith, ints));
    })

pub floor_lowered_below : (a b q r : ℤ) → AreParts a b q r → b <ℤ pos 0 → pos 0 <ℤ r → q -ℤ pos 1 ≡ floor_of a b
floor_lowered_below a b q r p h k =
    let whole = p.whole in
    let small = p.small in
    let one_less = plus_times q (negsuc 0) b in
    let again = plus_times (q -ℤ pos 1) (pos 1) b in
    floor_unique a b (q -ℤ pos 1) (λ e. omega (arith, ints)) (record {
      above_zero = λ l. absurd (omega (arith, ints));
      below_zero = λ _. (omega (arith, ints), omega (arith, ints));
    })

-- ---- what the code's `a / b` and `a % b` give at a signed type of width w

abbrev pub coded_quotient : Width → ℤ → ℤ → ℤ
coded_quotient w a b = to_z w (of_z w (int_div (to_z w (of_z w a)) (to_z w (of_z w b))))

abbrev pub coded_rest : Width → ℤ → ℤ → ℤ
coded_rest w a b = to_z w (of_z w (int_rem (to_z w (of_z w a)) (to_z w (of_z w b))))

abs_opposite : (n : ℕ) → unsigned_abs (neg_ℤ (pos n)) ≡ n
abs_opposite zero = refl
abs_opposite (suc n) = refl

pub quotient_small : (a b : ℤ) → unsigned_abs (int_div a b) ≤ unsigned_abs a
quotient_small (pos a) (pos b) = div-le_self a b
quotient_small (pos a) (negsuc b) = omega (arith, abs_opposite (a / suc b), div-le_self a (suc b))
quotient_small (negsuc a) (pos b) = omega (arith, abs_opposite (suc a / b), div-le_self (suc a) b)
quotient_small (negsuc a) (negsuc b) = div-le_self (suc a) (suc b)

pub wide_quotient_fits : (a b : ℤ) → unsigned_abs a ≤ dividend_limit → FitsSigned w128 (int_div a b)
unfolding dividend_limit
wide_quotient_fits a b h = fits_signed_from_abs w128 (int_div a b) (omega (arith, quotient_small a b))

pub short_quotient_fits : (a b : ℤ) → unsigned_abs a ≤ short_limit → FitsSigned w64 (int_div a b)
unfolding short_limit
short_quotient_fits a b h = fits_signed_from_abs w64 (int_div a b) (omega (arith, quotient_small a b))

-- a number other than 0 has bits that aren't all 0
pub wide_bits : (b : ℤ) → FitsSigned w128 b → b ≢ pos 0 → 0 < of_z w128 b
wide_bits b g n = omega (arith, ints)

pub short_bits : (b : ℤ) → FitsSigned w64 b → b ≢ pos 0 → 0 < of_z w64 b
short_bits b g n = omega (arith, ints)

module _ (w : Width) (a b : ℤ) (f : FitsSigned w a) (g : FitsSigned w b) (fits : FitsSigned w (int_div a b)) (n : b ≢ pos 0) (bits : 0 < of_z w b) where
  pub may_divide : (0 < of_z w b) × FitsSigned w (int_div (to_z w (of_z w a)) (to_z w (of_z w b)))
  may_divide =
      let P : ℤ → Type 0 = λ z. FitsSigned w z in
      (bits, subst P (sym (λ i. int_div (to_z-of_z w a f i) (to_z-of_z w b g i))) fits)

  pub coded_parts : AreParts a b (coded_quotient w a b) (coded_rest w a b)
  coded_parts =
      let P : ℤ → ℤ → Type 0 = λ q r. AreParts a b q r in
      subst (P (coded_quotient w a b)) (sym (rem_is w a b f g)) (subst (λ (q : ℤ). P q (int_rem a b)) (sym (quot_is w a b f g fits)) (parts_are a b n))

  pub coded_small : unsigned_abs (coded_quotient w a b) ≤ unsigned_abs a
  coded_small = rw (quot_is w a b f g fits) (quotient_small a b)

-- numbers that went to 128 bits and came back
pub wide_back : (q : ℤ) → unsigned_abs q ≤ dividend_limit → to_z w128 (of_z w128 q) ≡ q
unfolding dividend_limit
wide_back q h = omega (arith, ints)

pub wide_one_less : (q : ℤ) → unsigned_abs q ≤ dividend_limit → to_z w128 (of_z w128 (to_z w128 (of_z w128 q) -ℤ pos 1)) ≡ q -ℤ pos 1
unfolding dividend_limit
wide_one_less q h = omega (arith, ints)

pub short_back : (q : ℤ) → unsigned_abs q ≤ short_limit → to_z w128 (of_z w128 q) ≡ q
unfolding short_limit
short_back q h = omega (arith, ints)

pub rest_back : (r b : ℤ) → FitsSigned w64 b → unsigned_abs r < unsigned_abs b → to_z w128 (of_z w128 r) ≡ r
rest_back r b f h = omega (arith, ints)

-- a number that is short went to 128 bits, and from there to 64
pub short_word : (a : ℤ) → unsigned_abs (to_z w128 (of_z w128 a)) ≤ short_limit → FitsSigned w64 (to_z w128 (of_z w128 a))
unfolding short_limit
short_word a h = omega (arith, ints)

pub word_back : (a : ℤ) → FitsSigned w128 a → unsigned_abs (to_z w128 (of_z w128 a)) ≤ short_limit → to_z w64 (of_z w64 (to_z w128 (of_z w128 a))) ≡ a
unfolding short_limit
word_back a f h = omega (arith, ints)

pub short_is_lower : short_limit ≤ dividend_limit
unfolding short_limit dividend_limit
short_is_lower = omega arith

pub floor_small : (a b : ℤ) → unsigned_abs (floor_of a b) ≤ unsigned_abs a
unfolding floor_of
floor_small (pos a) (pos b) = div-le_self a b
floor_small (pos zero) (negsuc b) = omega arith
floor_small (pos (suc a)) (negsuc b) = omega (arith, div-le_self a (suc b))
floor_small (negsuc a) (pos b) = omega (arith, div-le_self a b)
floor_small (negsuc a) (negsuc b) = div-le_self (suc a) (suc b)
