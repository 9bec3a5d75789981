-- The quotient that is rounded toward zero: what it leaves, and that it lies between the corner quotients.
use Rattle.std.proofs.Common.{◌≡◌, ◌≢◌, ℕ, zero, suc, ◌*◌, ◌/◌, ◌<◌, ◌≤◌, ℤ, pos, negsuc, ◌+ℤ◌, ◌*ℤ◌, ◌≤ℤ◌, ◌<ℤ◌, ⊎_elim, refl, unsigned_abs, int_rem, arith}
use Rattle.std.proofs.lemmas.Int.{ints, clamps, quot-rem, rem_below}
use Rattle.std.proofs.lemmas.Nat.{le-div}
use Rattle.std.proofs.Math.Nat.{mod-le, div-le_self, div-mul-le_self, mul-le-mul_left}
use Rattle.std.specs.Int.{int_min, int_max}
use Rattle.interval.specs.Corners.{Range, IsIn, IsOneSided, least_of_four, greatest_of_four}
use Rattle.arithmetic_tells.specs.Division.{quotient_of, least_quotient, greatest_quotient}
use Rattle.arithmetic_tells.specs.Remainder.{remainder_of}

-- ---- quotients of natural numbers

-- a greater dividend has no lesser quotient, and a greater divisor no greater one
div_rises : (m n k : ℕ) → m ≤ n → m / suc k ≤ n / suc k
div_rises m n k h = le-div (m / suc k) n (suc k) (omega arith) (omega (arith, div-mul-le_self m (suc k)))

div_falls : (n j k : ℕ) → j ≤ k → n / suc k ≤ n / suc j
div_falls n j k h =
    let fewer : n / suc k * suc j ≤ n / suc k * suc k = mul-le-mul_left (n / suc k) (omega arith) in
    le-div (n / suc k) n (suc j) (omega arith) (omega (arith, div-mul-le_self n (suc k)))

-- ---- what it leaves

-- the remainder is nearer to 0 than the divisor, and on the dividend's side of 0, no further from it than the dividend
pub record IsRest (a b r : ℤ) : Type 0 where
  pub small : unsigned_abs r < unsigned_abs b
  pub from_zero : pos 0 ≤ℤ a → (pos 0 ≤ℤ r) × (r ≤ℤ a)
  pub to_zero : a ≤ℤ pos 0 → (r ≤ℤ pos 0) × (a ≤ℤ r)

rem_is_remainder : (a b : ℤ) → int_rem a b ≡ remainder_of a b
unfolding remainder_of quotient_of
rem_is_remainder a b = let e = quot-rem a b in omega (arith, ints)

rest_of_rem : (a b : ℤ) → b ≢ pos 0 → IsRest a b (int_rem a b)
rest_of_rem (pos a) b n = record {
  small = rem_below (pos a) b (omega (arith, ints));
  from_zero = λ h. (omega (arith, ints), omega (arith, ints, mod-le a (unsigned_abs b)));
  to_zero = λ h. (omega (arith, ints, mod-le a (unsigned_abs b)), omega (arith, ints));
}
rest_of_rem (negsuc a) b n = record {
  small = rem_below (negsuc a) b (omega (arith, ints));
  from_zero = λ h. absurd (omega (arith, ints));
  to_zero = λ h. (omega (arith, ints), omega (arith, ints, mod-le (suc a) (unsigned_abs b)));
}

pub remainder_is_rest : (a b : ℤ) → b ≢ pos 0 → IsRest a b (remainder_of a b)
remainder_is_rest a b n = rw (rem_is_remainder a b) at (rest_of_rem a b n)

-- the dividend is the product of quotient and divisor and the remainder
pub quotient_and_remainder : (a b : ℤ) → quotient_of a b *ℤ b +ℤ remainder_of a b ≡ a
unfolding remainder_of
quotient_and_remainder a b = omega (arith, ints)

-- the quotient is no further from 0 than the dividend
pub quotient_small : (a b : ℤ) → unsigned_abs (quotient_of a b) ≤ unsigned_abs a
unfolding quotient_of
quotient_small (pos a) (pos b) = div-le_self a b
quotient_small (pos a) (negsuc b) = omega (arith, ints, div-le_self a (suc b))
quotient_small (negsuc a) (pos b) = omega (arith, ints, div-le_self (suc a) b)
quotient_small (negsuc a) (negsuc b) = div-le_self (suc a) (suc b)

-- ---- along the dividends

-- with a divisor above 0 the quotient rises with the dividend, with one below 0 it falls
rises_above : (a c : ℤ) (k : ℕ) → a ≤ℤ c → quotient_of a (pos (suc k)) ≤ℤ quotient_of c (pos (suc k))
unfolding quotient_of
rises_above (pos a) (pos c) k h = omega (arith, ints, div_rises a c k (omega (arith, ints)))
rises_above (pos a) (negsuc c) k h = absurd (omega (arith, ints))
rises_above (negsuc a) (pos c) k h = omega (arith, ints)
rises_above (negsuc a) (negsuc c) k h = omega (arith, ints, div_rises (suc c) (suc a) k (omega (arith, ints)))

falls_below : (a c : ℤ) (k : ℕ) → a ≤ℤ c → quotient_of c (negsuc k) ≤ℤ quotient_of a (negsuc k)
unfolding quotient_of
falls_below (pos a) (pos c) k h = omega (arith, ints, div_rises a c k (omega (arith, ints)))
falls_below (pos a) (negsuc c) k h = absurd (omega (arith, ints))
falls_below (negsuc a) (pos c) k h = omega (arith, ints)
falls_below (negsuc a) (negsuc c) k h = omega (arith, ints, div_rises (suc c) (suc a) k (omega (arith, ints)))

between_dividends : (l a h b : ℤ) → l ≤ℤ a → a ≤ℤ h → b ≢ pos 0
    → (int_min (quotient_of l b) (quotient_of h b) ≤ℤ quotient_of a b) × (quotient_of a b ≤ℤ int_max (quotient_of l b) (quotient_of h b))
between_dividends l a h (pos zero) p q n = absurd (n refl)
between_dividends l a h (pos (suc k)) p q n =
    let low = rises_above l a k p in
    let high = rises_above a h k q in
    (omega (arith, ints, clamps), omega (arith, ints, clamps))
between_dividends l a h (negsuc k) p q n =
    let low = falls_below l a k p in
    let high = falls_below a h k q in
    (omega (arith, ints, clamps), omega (arith, ints, clamps))

-- ---- along the divisors

-- among divisors on one side of 0 the quotient of a number from 0 on falls, that of one up to 0 rises
falls_above : (a j k : ℕ) → j ≤ k → quotient_of (pos a) (pos (suc k)) ≤ℤ quotient_of (pos a) (pos (suc j))
unfolding quotient_of
falls_above a j k h = omega (arith, ints, div_falls a j k h)

rises_from_below : (a j k : ℕ) → j ≤ k → quotient_of (negsuc a) (pos (suc j)) ≤ℤ quotient_of (negsuc a) (pos (suc k))
unfolding quotient_of
rises_from_below a j k h = omega (arith, ints, div_falls (suc a) j k h)

rises_toward_zero : (a j k : ℕ) → j ≤ k → quotient_of (pos a) (negsuc j) ≤ℤ quotient_of (pos a) (negsuc k)
unfolding quotient_of
rises_toward_zero a j k h = omega (arith, ints, div_falls a j k h)

falls_toward_zero : (a j k : ℕ) → j ≤ k → quotient_of (negsuc a) (negsuc k) ≤ℤ quotient_of (negsuc a) (negsuc j)
unfolding quotient_of
falls_toward_zero a j k h = omega (arith, ints, div_falls (suc a) j k h)

between_above : (a : ℤ) (i j k : ℕ) → i ≤ j → j ≤ k
    → (int_min (quotient_of a (pos (suc i))) (quotient_of a (pos (suc k))) ≤ℤ quotient_of a (pos (suc j))) × (quotient_of a (pos (suc j)) ≤ℤ int_max (quotient_of a (pos (suc i))) (quotient_of a (pos (suc k))))
between_above (pos a) i j k p q =
    let low = falls_above a i j p in
    let high = falls_above a j k q in
    (omega (arith, ints, clamps), omega (arith, ints, clamps))
between_above (negsuc a) i j k p q =
    let low = rises_from_below a i j p in
    let high = rises_from_below a j k q in
    (omega (arith, ints, clamps), omega (arith, ints, clamps))

between_below : (a : ℤ) (i j k : ℕ) → j ≤ i → k ≤ j
    → (int_min (quotient_of a (negsuc i)) (quotient_of a (negsuc k)) ≤ℤ quotient_of a (negsuc j)) × (quotient_of a (negsuc j) ≤ℤ int_max (quotient_of a (negsuc i)) (quotient_of a (negsuc k)))
between_below (pos a) i j k p q =
    let low = rises_toward_zero a j i p in
    let high = rises_toward_zero a k j q in
    (omega (arith, ints, clamps), omega (arith, ints, clamps))
between_below (negsuc a) i j k p q =
    let low = falls_toward_zero a j i p in
    let high = falls_toward_zero a k j q in
    (omega (arith, ints, clamps), omega (arith, ints, clamps))

divisors_above : (a l b h : ℤ) → pos 0 <ℤ l → l ≤ℤ b → b ≤ℤ h
    → (int_min (quotient_of a l) (quotient_of a h) ≤ℤ quotient_of a b) × (quotient_of a b ≤ℤ int_max (quotient_of a l) (quotient_of a h))
divisors_above a (pos (suc i)) (pos (suc j)) (pos (suc k)) e p q = between_above a i j k (omega (arith, ints)) (omega (arith, ints))
divisors_above a l b h e p q = absurd (omega (arith, ints))

divisors_below : (a l b h : ℤ) → h <ℤ pos 0 → l ≤ℤ b → b ≤ℤ h
    → (int_min (quotient_of a l) (quotient_of a h) ≤ℤ quotient_of a b) × (quotient_of a b ≤ℤ int_max (quotient_of a l) (quotient_of a h))
divisors_below a (negsuc i) (negsuc j) (negsuc k) e p q = between_below a i j k (omega (arith, ints)) (omega (arith, ints))
divisors_below a l b h e p q = absurd (omega (arith, ints))

between_divisors : (a l b h : ℤ) → l ≤ℤ b → b ≤ℤ h → IsOneSided (l, h)
    → (int_min (quotient_of a l) (quotient_of a h) ≤ℤ quotient_of a b) × (quotient_of a b ≤ℤ int_max (quotient_of a l) (quotient_of a h))
between_divisors a l b h p q s = ⊎_elim (λ e. divisors_above a l b h e p q) (λ e. divisors_below a l b h e p q) s

-- ---- corners

-- where two numbers lie over the lesser of two each, what lies over their lesser lies over the least of the four
over_pairs : (p q r s y w z : ℤ) → int_min p q ≤ℤ y → int_min r s ≤ℤ w → int_min y w ≤ℤ z → least_of_four p q r s ≤ℤ z
over_pairs p q r s y w z h k l =
    let a = int_min p q in
    let b = int_min r s in
    omega (arith, ints, clamps)

under_pairs : (p q r s y w z : ℤ) → y ≤ℤ int_max p q → w ≤ℤ int_max r s → z ≤ℤ int_max y w → z ≤ℤ greatest_of_four p q r s
under_pairs p q r s y w z h k l =
    let a = int_max p q in
    let b = int_max r s in
    omega (arith, ints, clamps)

-- a divisor of a range on one side of 0 isn't 0
not_zero_in : (y : Range) (q : ℤ) → IsIn y q → IsOneSided y → q ≢ pos 0
not_zero_in y q k s =
    let from = k.from in
    let to = k.to in
    ⊎_elim {C = q ≢ pos 0} (λ p e. omega (arith, ints)) (λ p e. omega (arith, ints)) s

-- the quotients of numbers of two ranges lie between the corners where the divisors are on one side of 0
module _ (x y : Range) (p q : ℤ) (h : IsIn x p) (k : IsIn y q) (side : IsOneSided y) where
  pub quotients_from : least_quotient x y ≤ℤ quotient_of p q
  unfolding least_quotient
  quotients_from =
      over_pairs (quotient_of x.0 y.0) (quotient_of x.0 y.1) (quotient_of x.1 y.0) (quotient_of x.1 y.1) (quotient_of x.0 q) (quotient_of x.1 q) (quotient_of p q)
      (between_divisors x.0 y.0 q y.1 k.from k.to side).0 (between_divisors x.1 y.0 q y.1 k.from k.to side).0
      (between_dividends x.0 p x.1 q h.from h.to (not_zero_in y q k side)).0

  pub quotients_to : quotient_of p q ≤ℤ greatest_quotient x y
  unfolding greatest_quotient
  quotients_to =
      under_pairs (quotient_of x.0 y.0) (quotient_of x.0 y.1) (quotient_of x.1 y.0) (quotient_of x.1 y.1) (quotient_of x.0 q) (quotient_of x.1 q) (quotient_of p q)
      (between_divisors x.0 y.0 q y.1 k.from k.to side).1 (between_divisors x.1 y.0 q y.1 k.from k.to side).1
      (between_dividends x.0 p x.1 q h.from h.to (not_zero_in y q k side)).1
