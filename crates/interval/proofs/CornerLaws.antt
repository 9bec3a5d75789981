-- The products and the rounded quotients of numbers of two ranges lie between the corners.
use Rattle.std.proofs.Common.{◌≡◌, suc, ◌+◌, ◌≤◌, ℤ, pos, negsuc, ◌*ℤ◌, ◌≤ℤ◌, ◌<ℤ◌, inl, inr, ◌⊎◌, ⊎_elim, ◌∙◌, FitsSigned, to_z, of_z, arith}
use Rattle.std.proofs.lemmas.Int.{ints, clamps, by_lt_z, to_z-of_z}
use Rattle.std.proofs.Math.Nat.{mul-le-mul_left}
use Rattle.std.specs.Int.{int_min, int_max}
use borrow.Author.Differences.{up, down}
use mir.Syntax.{w64, w128}
use Rattle.interval.specs.Quotients.{floor_of, ceiling_of, QuotientOrder}
use Rattle.interval.specs.Corners.{Range, IsIn, IsOneSided, CornerOrder, least_of_four, greatest_of_four, least_product, greatest_product, least_ceiling, greatest_floor}
use Rattle.interval.proofs.QuotientLaws.{quotient_order}

-- the lesser of two is at most what one of them is at most, and the mirror
least_under_first : (p q z : ℤ) → p ≤ℤ z → int_min p q ≤ℤ z
least_under_first p q z h = omega (arith, ints, clamps)

least_under_second : (p q z : ℤ) → q ≤ℤ z → int_min p q ≤ℤ z
least_under_second p q z h = omega (arith, ints, clamps)

greatest_over_first : (p q z : ℤ) → z ≤ℤ p → z ≤ℤ int_max p q
greatest_over_first p q z h = omega (arith, ints, clamps)

greatest_over_second : (p q z : ℤ) → z ≤ℤ q → z ≤ℤ int_max p q
greatest_over_second p q z h = omega (arith, ints, clamps)

-- where two numbers lie over the lesser of two each, what lies over their lesser lies over the least of the four
least_of_pairs : (p q r s y w z : ℤ) → int_min p q ≤ℤ y → int_min r s ≤ℤ w → int_min y w ≤ℤ z → least_of_four p q r s ≤ℤ z
least_of_pairs p q r s y w z h k l =
    let a = int_min p q in
    let b = int_min r s in
    omega (arith, ints, clamps)

greatest_of_pairs : (p q r s y w z : ℤ) → y ≤ℤ int_max p q → w ≤ℤ int_max r s → z ≤ℤ int_max y w → z ≤ℤ greatest_of_four p q r s
greatest_of_pairs p q r s y w z h k l =
    let a = int_max p q in
    let b = int_max r s in
    omega (arith, ints, clamps)

-- a product with a number between two lies between the products with these
between : (a l z h : ℤ) → l ≤ℤ z → z ≤ℤ h → (int_min (a *ℤ l) (a *ℤ h) ≤ℤ (a *ℤ z)) × ((a *ℤ z) ≤ℤ int_max (a *ℤ l) (a *ℤ h))
between (pos n) l z h p q =
    let one : up l + down z ≤ up z + down l = omega (arith, ints) in
    let two : up z + down h ≤ up h + down z = omega (arith, ints) in
    let low : (pos n *ℤ l) ≤ℤ (pos n *ℤ z) = omega (arith, ints, mul-le-mul_left n one) in
    let high : (pos n *ℤ z) ≤ℤ (pos n *ℤ h) = omega (arith, ints, mul-le-mul_left n two) in
    (omega (arith, ints, clamps), omega (arith, ints, clamps))
between (negsuc n) l z h p q =
    let one : up l + down z ≤ up z + down l = omega (arith, ints) in
    let two : up z + down h ≤ up h + down z = omega (arith, ints) in
    let low : (negsuc n *ℤ z) ≤ℤ (negsuc n *ℤ l) = omega (arith, ints, mul-le-mul_left (suc n) one) in
    let high : (negsuc n *ℤ h) ≤ℤ (negsuc n *ℤ z) = omega (arith, ints, mul-le-mul_left (suc n) two) in
    (omega (arith, ints, clamps), omega (arith, ints, clamps))

turned : (p q : ℤ) → p *ℤ q ≡ q *ℤ p
turned p q = omega (arith, ints)

-- the same with the factors the other way round
between_turned : (l z h a : ℤ) → l ≤ℤ z → z ≤ℤ h → (int_min (l *ℤ a) (h *ℤ a) ≤ℤ (z *ℤ a)) × ((z *ℤ a) ≤ℤ int_max (l *ℤ a) (h *ℤ a))
between_turned l z h a p q = rw (turned l a, turned z a, turned h a) (between a l z h p q)

products_from : (x y : Range) (p q : ℤ) → IsIn x p → IsIn y q → least_product x y ≤ℤ (p *ℤ q)
unfolding least_product
products_from x y p q h k =
    least_of_pairs (x.0 *ℤ y.0) (x.0 *ℤ y.1) (x.1 *ℤ y.0) (x.1 *ℤ y.1) (x.0 *ℤ q) (x.1 *ℤ q) (p *ℤ q)
    (between x.0 y.0 q y.1 k.from k.to).0 (between x.1 y.0 q y.1 k.from k.to).0 (between_turned x.0 p x.1 q h.from h.to).0

products_to : (x y : Range) (p q : ℤ) → IsIn x p → IsIn y q → (p *ℤ q) ≤ℤ greatest_product x y
unfolding greatest_product
products_to x y p q h k =
    greatest_of_pairs (x.0 *ℤ y.0) (x.0 *ℤ y.1) (x.1 *ℤ y.0) (x.1 *ℤ y.1) (x.0 *ℤ q) (x.1 *ℤ q) (p *ℤ q)
    (between x.0 y.0 q y.1 k.from k.to).1 (between x.1 y.0 q y.1 k.from k.to).1 (between_turned x.0 p x.1 q h.from h.to).1

-- ---- quotients

module _ (quotients : QuotientOrder) where
  -- along the dividends
  ceiling_between_dividends : (l p h q : ℤ) → l ≤ℤ p → p ≤ℤ h → (pos 0 <ℤ q) ⊎ (q <ℤ pos 0) → int_min (ceiling_of l q) (ceiling_of h q) ≤ℤ ceiling_of p q
  ceiling_between_dividends l p h q le ge side = ⊎_elim
      (λ s.
      let own = (quotients.ceiling_above_zero p q (ceiling_of p q) s).0 (omega (arith, ints)) in
      least_under_first (ceiling_of l q) (ceiling_of h q) (ceiling_of p q) ((quotients.ceiling_above_zero l q (ceiling_of p q) s).1 (omega (arith, ints))))
      (λ s.
      let own = (quotients.ceiling_below_zero p q (ceiling_of p q) s).0 (omega (arith, ints)) in
      least_under_second (ceiling_of l q) (ceiling_of h q) (ceiling_of p q) ((quotients.ceiling_below_zero h q (ceiling_of p q) s).1 (omega (arith, ints))))
      side

  floor_between_dividends : (l p h q : ℤ) → l ≤ℤ p → p ≤ℤ h → (pos 0 <ℤ q) ⊎ (q <ℤ pos 0) → floor_of p q ≤ℤ int_max (floor_of l q) (floor_of h q)
  floor_between_dividends l p h q le ge side = ⊎_elim
      (λ s.
      let own = (quotients.floor_above_zero p q (floor_of p q) s).0 (omega (arith, ints)) in
      greatest_over_second (floor_of l q) (floor_of h q) (floor_of p q) ((quotients.floor_above_zero h q (floor_of p q) s).1 (omega (arith, ints))))
      (λ s.
      let own = (quotients.floor_below_zero p q (floor_of p q) s).0 (omega (arith, ints)) in
      greatest_over_first (floor_of l q) (floor_of h q) (floor_of p q) ((quotients.floor_below_zero l q (floor_of p q) s).1 (omega (arith, ints))))
      side

  -- along the divisors
  ceiling_above : (a l q h : ℤ) → pos 0 <ℤ l → l ≤ℤ q → q ≤ℤ h → int_min (ceiling_of a l) (ceiling_of a h) ≤ℤ ceiling_of a q
  ceiling_above a l q h s le ge =
      let w = ceiling_of a q in
      let own = (quotients.ceiling_above_zero a q w (omega (arith, ints))).0 (omega (arith, ints)) in
      let most = (between w l q h le ge).1 in
      by_lt_z (w *ℤ l) a
      (λ lt. least_under_second (ceiling_of a l) (ceiling_of a h) w ((quotients.ceiling_above_zero a h w (omega (arith, ints))).1 (omega (arith, ints, clamps))))
      (λ le2. least_under_first (ceiling_of a l) (ceiling_of a h) w ((quotients.ceiling_above_zero a l w s).1 le2))

  ceiling_below : (a l q h : ℤ) → h <ℤ pos 0 → l ≤ℤ q → q ≤ℤ h → int_min (ceiling_of a l) (ceiling_of a h) ≤ℤ ceiling_of a q
  ceiling_below a l q h s le ge =
      let w = ceiling_of a q in
      let own = (quotients.ceiling_below_zero a q w (omega (arith, ints))).0 (omega (arith, ints)) in
      let least = (between w l q h le ge).0 in
      by_lt_z a (w *ℤ l)
      (λ lt. least_under_second (ceiling_of a l) (ceiling_of a h) w ((quotients.ceiling_below_zero a h w s).1 (omega (arith, ints, clamps))))
      (λ le2. least_under_first (ceiling_of a l) (ceiling_of a h) w ((quotients.ceiling_below_zero a l w (omega (arith, ints))).1 le2))

  floor_above : (a l q h : ℤ) → pos 0 <ℤ l → l ≤ℤ q → q ≤ℤ h → floor_of a q ≤ℤ int_max (floor_of a l) (floor_of a h)
  floor_above a l q h s le ge =
      let w = floor_of a q in
      let own = (quotients.floor_above_zero a q w (omega (arith, ints))).0 (omega (arith, ints)) in
      let least = (between w l q h le ge).0 in
      by_lt_z a (w *ℤ l)
      (λ lt. greatest_over_second (floor_of a l) (floor_of a h) w ((quotients.floor_above_zero a h w (omega (arith, ints))).1 (omega (arith, ints, clamps))))
      (λ le2. greatest_over_first (floor_of a l) (floor_of a h) w ((quotients.floor_above_zero a l w s).1 le2))

  floor_below : (a l q h : ℤ) → h <ℤ pos 0 → l ≤ℤ q → q ≤ℤ h → floor_of a q ≤ℤ int_max (floor_of a l) (floor_of a h)
  floor_below a l q h s le ge =
      let w = floor_of a q in
      let own = (quotients.floor_below_zero a q w (omega (arith, ints))).0 (omega (arith, ints)) in
      let most = (between w l q h le ge).1 in
      by_lt_z (w *ℤ l) a
      (λ lt. greatest_over_second (floor_of a l) (floor_of a h) w ((quotients.floor_below_zero a h w s).1 (omega (arith, ints, clamps))))
      (λ le2. greatest_over_first (floor_of a l) (floor_of a h) w ((quotients.floor_below_zero a l w (omega (arith, ints))).1 le2))

  ceiling_between_divisors : (a : ℤ) (y : Range) (q : ℤ) → IsIn y q → IsOneSided y → int_min (ceiling_of a y.0) (ceiling_of a y.1) ≤ℤ ceiling_of a q
  ceiling_between_divisors a y q k side = ⊎_elim (λ s. ceiling_above a y.0 q y.1 s k.from k.to) (λ s. ceiling_below a y.0 q y.1 s k.from k.to) side

  floor_between_divisors : (a : ℤ) (y : Range) (q : ℤ) → IsIn y q → IsOneSided y → floor_of a q ≤ℤ int_max (floor_of a y.0) (floor_of a y.1)
  floor_between_divisors a y q k side = ⊎_elim (λ s. floor_above a y.0 q y.1 s k.from k.to) (λ s. floor_below a y.0 q y.1 s k.from k.to) side

  divisor_side : (y : Range) (q : ℤ) → IsIn y q → IsOneSided y → (pos 0 <ℤ q) ⊎ (q <ℤ pos 0)
  divisor_side y q k side = ⊎_elim (λ s. inl (let f = k.from in omega (arith, ints))) (λ s. inr (let t = k.to in omega (arith, ints))) side

  ceilings_from : (z y : Range) (p q : ℤ) → IsIn z p → IsIn y q → IsOneSided y → least_ceiling z y ≤ℤ ceiling_of p q
  unfolding least_ceiling
  ceilings_from z y p q h k side =
      least_of_pairs (ceiling_of z.0 y.0) (ceiling_of z.0 y.1) (ceiling_of z.1 y.0) (ceiling_of z.1 y.1) (ceiling_of z.0 q) (ceiling_of z.1 q) (ceiling_of p q)
      (ceiling_between_divisors z.0 y q k side) (ceiling_between_divisors z.1 y q k side) (ceiling_between_dividends z.0 p z.1 q h.from h.to (divisor_side y q k side))

  floors_to : (z y : Range) (p q : ℤ) → IsIn z p → IsIn y q → IsOneSided y → floor_of p q ≤ℤ greatest_floor z y
  unfolding greatest_floor
  floors_to z y p q h k side =
      greatest_of_pairs (floor_of z.0 y.0) (floor_of z.0 y.1) (floor_of z.1 y.0) (floor_of z.1 y.1) (floor_of z.0 q) (floor_of z.1 q) (floor_of p q)
      (floor_between_divisors z.0 y q k side) (floor_between_divisors z.1 y q k side) (floor_between_dividends z.0 p z.1 q h.from h.to (divisor_side y q k side))

pub corner_order : CornerOrder
corner_order = record {
  products_from = products_from;
  products_to = products_to;
  ceilings_from = ceilings_from quotient_order;
  floors_to = floors_to quotient_order;
}

-- ---- numbers that went to 128 bits and came back

module _ (n : ℤ) (p q r s p' q' r' s' : ℤ) (f : FitsSigned w128 n) (f0 : FitsSigned w128 p) (f1 : FitsSigned w128 q) (f2 : FitsSigned w128 r) (f3 : FitsSigned w128 s) (e0 : p ≡ p') (e1 : q ≡ q') (e2 : r ≡ r') (e3 : s ≡ s') where
  pub same_least : n ≡ least_of_four (to_z w128 (of_z w128 p)) (to_z w128 (of_z w128 q)) (to_z w128 (of_z w128 r)) (to_z w128 (of_z w128 s))
      → to_z w128 (of_z w128 n) ≡ least_of_four p' q' r' s'
  same_least e = to_z-of_z w128 n f ∙ e ∙ (λ i. least_of_four ((to_z-of_z w128 p f0 ∙ e0) i) ((to_z-of_z w128 q f1 ∙ e1) i) ((to_z-of_z w128 r f2 ∙ e2) i) ((to_z-of_z w128 s f3 ∙ e3) i))

  pub same_greatest : n ≡ greatest_of_four (to_z w128 (of_z w128 p)) (to_z w128 (of_z w128 q)) (to_z w128 (of_z w128 r)) (to_z w128 (of_z w128 s))
      → to_z w128 (of_z w128 n) ≡ greatest_of_four p' q' r' s'
  same_greatest e = to_z-of_z w128 n f ∙ e ∙ (λ i. greatest_of_four ((to_z-of_z w128 p f0 ∙ e0) i) ((to_z-of_z w128 q f1 ∙ e1) i) ((to_z-of_z w128 r f2 ∙ e2) i) ((to_z-of_z w128 s f3 ∙ e3) i))

-- the same for two numbers that went to 64 bits
pub same_pair : (g : ℤ → ℤ → ℤ) (r a b : ℤ) → FitsSigned w64 a → FitsSigned w64 b → r ≡ g (to_z w64 (of_z w64 a)) (to_z w64 (of_z w64 b)) → r ≡ g a b
same_pair g r a b f h e = e ∙ (λ i. g (to_z-of_z w64 a f i) (to_z-of_z w64 b h i))
