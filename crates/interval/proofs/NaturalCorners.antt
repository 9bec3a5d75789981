-- The least and the greatest corner of two ranges with no number below zero.
use Rattle.std.proofs.Common.{◌≡◌, ◌+◌, ◌≤◌, ℤ, pos, negsuc, ◌*ℤ◌, ◌≤ℤ◌, ◌<ℤ◌, ◌≢◌, ◌∙◌, FitsSigned, to_z, of_z, arith}
use Rattle.std.proofs.lemmas.Int.{ints, clamps, by_lt_z, to_z-of_z}
use Rattle.std.proofs.Math.Nat.{mul-le-mul_left}
use mir.Syntax.{w64, w128}
use borrow.Author.Differences.{up, down}
use Rattle.interval.specs.Quotients.{floor_of, ceiling_of}
use Rattle.interval.specs.Corners.{Range, least_product, greatest_product, least_ceiling, greatest_floor}
use Rattle.interval.proofs.QuotientLaws.{quotient_order}

-- a number that isn't below zero keeps the order of its products
product_order : (a l h : ℤ) → pos 0 ≤ℤ a → l ≤ℤ h → (a *ℤ l) ≤ℤ (a *ℤ h)
product_order (pos n) l h s p =
    let one : up l + down h ≤ up h + down l = omega (arith, ints) in
    omega (arith, ints, mul-le-mul_left n one)
product_order (negsuc n) l h s p = omega (arith, ints)

-- the products of greater numbers are greater
products_rise : (a b c d : ℤ) → pos 0 ≤ℤ a → a ≤ℤ b → pos 0 ≤ℤ c → c ≤ℤ d → (a *ℤ c) ≤ℤ (b *ℤ d)
products_rise a b c d s p t q =
    let one = product_order c a b t p in
    let two = product_order b c d (omega (arith, ints)) q in
    omega (arith, ints)

-- what isn't zero and not below zero is above zero
pub above_zero : (z : ℤ) → z ≢ pos 0 → pos 0 ≤ℤ z → pos 0 <ℤ z
above_zero z n p = by_lt_z (pos 0) z (λ lt. lt) (λ le. absurd (n (omega (arith, ints))))

same : (z : ℤ) → z ≤ℤ z
same z = omega (arith, ints)

pub natural_least : (x y : Range) → pos 0 ≤ℤ x.0 → x.0 ≤ℤ x.1 → pos 0 ≤ℤ y.0 → y.0 ≤ℤ y.1 → (x.0 *ℤ y.0) ≡ least_product x y
unfolding least_product
natural_least x y s p t q =
    let one = products_rise x.0 x.0 y.0 y.1 s (same x.0) t q in
    let two = products_rise x.0 x.1 y.0 y.0 s p t (same y.0) in
    let three = products_rise x.0 x.1 y.0 y.1 s p t q in
    omega (arith, ints, clamps)

pub natural_greatest : (x y : Range) → pos 0 ≤ℤ x.0 → x.0 ≤ℤ x.1 → pos 0 ≤ℤ y.0 → y.0 ≤ℤ y.1 → (x.1 *ℤ y.1) ≡ greatest_product x y
unfolding greatest_product
natural_greatest x y s p t q =
    let u : pos 0 ≤ℤ x.1 = omega (arith, ints) in
    let v : pos 0 ≤ℤ y.1 = omega (arith, ints) in
    let one = products_rise x.1 x.1 y.0 y.1 u (same x.1) t q in
    let two = products_rise x.0 x.1 y.1 y.1 s p v (same y.1) in
    let three = products_rise x.0 x.1 y.0 y.1 s p t q in
    omega (arith, ints, clamps)

-- a lesser dividend and a greater divisor make a lesser ceiling
ceilings_rise : (a p q d : ℤ) → pos 0 ≤ℤ a → a ≤ℤ p → pos 0 <ℤ q → q ≤ℤ d → ceiling_of a d ≤ℤ ceiling_of p q
ceilings_rise a p q d s h t k =
    let w = ceiling_of p q in
    let own = (quotient_order.ceiling_above_zero p q w t).0 (same w) in
    by_lt_z w (pos 0)
    (λ lt.
    let most = product_order q w (negsuc 0) (omega (arith, ints)) (omega (arith, ints)) in
    omega (arith, ints))
    (λ le.
    let most = product_order w q d le k in
    (quotient_order.ceiling_above_zero a d w (omega (arith, ints))).1 (omega (arith, ints)))

floors_rise : (p b c q : ℤ) → pos 0 ≤ℤ b → p ≤ℤ b → pos 0 <ℤ c → c ≤ℤ q → floor_of p q ≤ℤ floor_of b c
floors_rise p b c q s h t k =
    let w = floor_of p q in
    let own = (quotient_order.floor_above_zero p q w (omega (arith, ints))).0 (same w) in
    by_lt_z w (pos 0)
    (λ lt.
    let most = product_order c w (negsuc 0) (omega (arith, ints)) (omega (arith, ints)) in
    (quotient_order.floor_above_zero b c w t).1 (omega (arith, ints)))
    (λ le.
    let most = product_order w c q le k in
    (quotient_order.floor_above_zero b c w t).1 (omega (arith, ints)))

pub natural_ceiling : (z y : Range) → pos 0 ≤ℤ z.0 → z.0 ≤ℤ z.1 → pos 0 <ℤ y.0 → y.0 ≤ℤ y.1 → ceiling_of z.0 y.1 ≡ least_ceiling z y
unfolding least_ceiling
natural_ceiling z y s p t q =
    let u : pos 0 <ℤ y.1 = omega (arith, ints) in
    let one = ceilings_rise z.0 z.0 y.0 y.1 s (same z.0) t q in
    let two = ceilings_rise z.0 z.1 y.0 y.1 s p t q in
    let three = ceilings_rise z.0 z.1 y.1 y.1 s p u (same y.1) in
    omega (arith, ints, clamps)

pub natural_floor : (z y : Range) → pos 0 ≤ℤ z.0 → z.0 ≤ℤ z.1 → pos 0 <ℤ y.0 → y.0 ≤ℤ y.1 → floor_of z.1 y.0 ≡ greatest_floor z y
unfolding greatest_floor
natural_floor z y s p t q =
    let u : pos 0 ≤ℤ z.1 = omega (arith, ints) in
    let v : pos 0 <ℤ y.1 = omega (arith, ints) in
    let one = floors_rise z.0 z.1 y.0 y.0 u p t (same y.0) in
    let two = floors_rise z.0 z.1 y.0 y.1 u p t q in
    let three = floors_rise z.1 z.1 y.0 y.1 u (same z.1) t q in
    omega (arith, ints, clamps)

-- a number that went to 128 bits and came back, made of two that fit 64 bits
pub same_wide : (g : ℤ → ℤ → ℤ) (n a b w : ℤ) → FitsSigned w128 n → FitsSigned w64 a → FitsSigned w64 b
    → n ≡ g (to_z w64 (of_z w64 a)) (to_z w64 (of_z w64 b)) → g a b ≡ w → to_z w128 (of_z w128 n) ≡ w
same_wide g n a b w f h k e l = to_z-of_z w128 n f ∙ e ∙ (λ i. g (to_z-of_z w64 a h i) (to_z-of_z w64 b k i)) ∙ l
