-- Products and quotients along the order of bounds, and the tells of one product.
use Rattle.std.proofs.Common.{◌≡◌, ℕ, suc, ◌+◌, ◌≤◌, [], ◌∷◌, ℤ, pos, negsuc, ◌*ℤ◌, ◌≤ℤ◌, ◌<ℤ◌, ap, subst, arith}
use Rattle.std.proofs.lemmas.Int.{ints, clamps}
use Rattle.std.proofs.Math.Nat.{mul-le-mul_left}
use Rattle.std.proofs.lemmas.List.Elements.{All-append}
use Rattle.std.specs.Int.{int_min, int_max}
use Rattle.std.specs.Int.RustNames.{int_lt}
use Rattle.std.specs.List.{All}
use borrow.Author.Differences.{up, down}
use Rattle.interval.specs.Limits.{IsNumber, ClampOrder}
use Rattle.interval.specs.Quotients.{floor_of, ceiling_of, QuotientOrder}
use Rattle.interval.specs.Boxes.{Bounds, low_of, high_of}
use Rattle.tells.specs.Words.{low_tell, high_tell, when, Keeps}
use Rattle.sum_tells.specs.Linear.{least_of, greatest_of, product_at_most, product_at_least}
use Rattle.tell_laws.proofs.Lists.{All-left, All-right, All-one, one-All, All-when, when-All}

-- a product with a number between two bounds lies between the products with these
pub product_between : (a l z h : ℤ) → l ≤ℤ z → z ≤ℤ h → (int_min (a *ℤ l) (a *ℤ h) ≤ℤ (a *ℤ z)) × ((a *ℤ z) ≤ℤ int_max (a *ℤ l) (a *ℤ h))
product_between (pos n) l z h p q =
    let one : up l + down z ≤ up z + down l = omega (arith, ints) in
    let two : up z + down h ≤ up h + down z = omega (arith, ints) in
    let low : (pos n *ℤ l) ≤ℤ (pos n *ℤ z) = omega (arith, ints, mul-le-mul_left n one) in
    let high : (pos n *ℤ z) ≤ℤ (pos n *ℤ h) = omega (arith, ints, mul-le-mul_left n two) in
    (omega (arith, ints, clamps), omega (arith, ints, clamps))
product_between (negsuc n) l z h p q =
    let one : up l + down z ≤ up z + down l = omega (arith, ints) in
    let two : up z + down h ≤ up h + down z = omega (arith, ints) in
    let low : (negsuc n *ℤ z) ≤ℤ (negsuc n *ℤ l) = omega (arith, ints, mul-le-mul_left (suc n) one) in
    let high : (negsuc n *ℤ h) ≤ℤ (negsuc n *ℤ z) = omega (arith, ints, mul-le-mul_left (suc n) two) in
    (omega (arith, ints, clamps), omega (arith, ints, clamps))

-- a term's range in a box inside another lies inside its range there
pub least_rises : (inner outer : Bounds) (a : ℤ) (x : ℕ) → low_of outer x ≤ℤ low_of inner x → low_of inner x ≤ℤ high_of inner x → high_of inner x ≤ℤ high_of outer x
    → least_of outer (a, x) ≤ℤ least_of inner (a, x)
unfolding least_of
least_rises inner outer a x p q r =
    let one = (product_between a (low_of outer x) (low_of inner x) (high_of outer x) p (omega (arith, ints))).0 in
    let two = (product_between a (low_of outer x) (high_of inner x) (high_of outer x) (omega (arith, ints)) r).0 in
    omega (arith, ints, clamps)

pub greatest_falls : (inner outer : Bounds) (a : ℤ) (x : ℕ) → low_of outer x ≤ℤ low_of inner x → low_of inner x ≤ℤ high_of inner x → high_of inner x ≤ℤ high_of outer x
    → greatest_of inner (a, x) ≤ℤ greatest_of outer (a, x)
unfolding greatest_of
greatest_falls inner outer a x p q r =
    let one = (product_between a (low_of outer x) (low_of inner x) (high_of outer x) p (omega (arith, ints))).1 in
    let two = (product_between a (low_of outer x) (high_of inner x) (high_of outer x) (omega (arith, ints)) r).1 in
    omega (arith, ints, clamps)

-- at a point both are the product
pub least_at_point : (b : Bounds) (a : ℤ) (x : ℕ) → low_of b x ≡ high_of b x → least_of b (a, x) ≡ a *ℤ low_of b x
unfolding least_of
least_at_point b a x e = let f = ap (λ (z : ℤ). a *ℤ z) e in omega (arith, ints, clamps)

pub greatest_at_point : (b : Bounds) (a : ℤ) (x : ℕ) → low_of b x ≡ high_of b x → greatest_of b (a, x) ≡ a *ℤ low_of b x
unfolding greatest_of
greatest_at_point b a x e = let f = ap (λ (z : ℤ). a *ℤ z) e in omega (arith, ints, clamps)

module _ (quotients : QuotientOrder) (clamped : ClampOrder) where
  floor_rises : (r s b : ℤ) → pos 0 <ℤ b → r ≤ℤ s → floor_of r b ≤ℤ floor_of s b
  floor_rises r s b h k = let own = (quotients.floor_above_zero r b (floor_of r b) h).0 (omega (arith, ints)) in (quotients.floor_above_zero s b (floor_of r b) h).1 (omega (arith, ints))

  floor_falls : (r s b : ℤ) → b <ℤ pos 0 → r ≤ℤ s → floor_of s b ≤ℤ floor_of r b
  floor_falls r s b h k = let own = (quotients.floor_below_zero s b (floor_of s b) h).0 (omega (arith, ints)) in (quotients.floor_below_zero r b (floor_of s b) h).1 (omega (arith, ints))

  ceiling_rises : (r s b : ℤ) → pos 0 <ℤ b → r ≤ℤ s → ceiling_of r b ≤ℤ ceiling_of s b
  ceiling_rises r s b h k = let own = (quotients.ceiling_above_zero s b (ceiling_of s b) h).0 (omega (arith, ints)) in (quotients.ceiling_above_zero r b (ceiling_of s b) h).1 (omega (arith, ints))

  ceiling_falls : (r s b : ℤ) → b <ℤ pos 0 → r ≤ℤ s → ceiling_of s b ≤ℤ ceiling_of r b
  ceiling_falls r s b h k = let own = (quotients.ceiling_below_zero r b (ceiling_of r b) h).0 (omega (arith, ints)) in (quotients.ceiling_below_zero s b (ceiling_of r b) h).1 (omega (arith, ints))

  -- a looser bound is kept where a tighter is
  pub keeps_low : (b : Bounds) (x : ℕ) (y z : ℤ) → z ≤ℤ y → Keeps b (low_tell x y) → Keeps b (low_tell x z)
  keeps_low b x y z h k = let c = clamped.rises z y h in omega (arith, ints)

  pub keeps_high : (b : Bounds) (x : ℕ) (y z : ℤ) → y ≤ℤ z → Keeps b (high_tell x y) → Keeps b (high_tell x z)
  keeps_high b x y z h k = let c = clamped.rises y z h in omega (arith, ints)

  -- more room gives looser tells
  pub at_most_looser : (b : Bounds) (x : ℕ) (a r s : ℤ) → r ≤ℤ s → All (Keeps b) (product_at_most x a r) → All (Keeps b) (product_at_most x a s)
  at_most_looser b x a r s h all =
      let above = int_lt (pos 0) a in
      let below = int_lt a (pos 0) in
      All-append (Keeps b) (when above (high_tell x (floor_of s a) ∷ [])) (when below (low_tell x (ceiling_of s a) ∷ []))
      (All-when (Keeps b) above _ (λ e. All-one (Keeps b) (high_tell x (floor_of s a)) (keeps_high b x (floor_of r a) (floor_of s a) (floor_rises r s a (omega (arith, ints)) h)
      (one-All (Keeps b) (high_tell x (floor_of r a)) (when-All (Keeps b) above _ e (All-left (Keeps b) (when above (high_tell x (floor_of r a) ∷ [])) (when below (low_tell x (ceiling_of r a) ∷ [])) all))))))
      (All-when (Keeps b) below _ (λ e. All-one (Keeps b) (low_tell x (ceiling_of s a)) (keeps_low b x (ceiling_of r a) (ceiling_of s a) (ceiling_falls r s a (omega (arith, ints)) h)
      (one-All (Keeps b) (low_tell x (ceiling_of r a)) (when-All (Keeps b) below _ e (All-right (Keeps b) (when above (high_tell x (floor_of r a) ∷ [])) (when below (low_tell x (ceiling_of r a) ∷ [])) all))))))

  -- a smaller demand gives looser tells
  pub at_least_looser : (b : Bounds) (x : ℕ) (a r s : ℤ) → s ≤ℤ r → All (Keeps b) (product_at_least x a r) → All (Keeps b) (product_at_least x a s)
  at_least_looser b x a r s h all =
      let above = int_lt (pos 0) a in
      let below = int_lt a (pos 0) in
      All-append (Keeps b) (when above (low_tell x (ceiling_of s a) ∷ [])) (when below (high_tell x (floor_of s a) ∷ []))
      (All-when (Keeps b) above _ (λ e. All-one (Keeps b) (low_tell x (ceiling_of s a)) (keeps_low b x (ceiling_of r a) (ceiling_of s a) (ceiling_rises s r a (omega (arith, ints)) h)
      (one-All (Keeps b) (low_tell x (ceiling_of r a)) (when-All (Keeps b) above _ e (All-left (Keeps b) (when above (low_tell x (ceiling_of r a) ∷ [])) (when below (high_tell x (floor_of r a) ∷ [])) all))))))
      (All-when (Keeps b) below _ (λ e. All-one (Keeps b) (high_tell x (floor_of s a)) (keeps_high b x (floor_of r a) (floor_of s a) (floor_falls s r a (omega (arith, ints)) h)
      (one-All (Keeps b) (high_tell x (floor_of r a)) (when-All (Keeps b) below _ e (All-right (Keeps b) (when above (low_tell x (ceiling_of r a) ∷ [])) (when below (high_tell x (floor_of r a) ∷ [])) all))))))

  -- at a point whose product is within the room no tell narrows, and the same for a demand
  pub at_most_kept : (b : Bounds) (x : ℕ) (a r : ℤ) → low_of b x ≡ high_of b x → IsNumber (low_of b x) → (a *ℤ low_of b x) ≤ℤ r → All (Keeps b) (product_at_most x a r)
  at_most_kept b x a r e n h =
      let v = low_of b x in
      let turned : (v *ℤ a) ≤ℤ r = omega (arith, ints) in
      let high_number : IsNumber (high_of b x) = let N : ℤ → Type 0 = λ z. IsNumber z in subst N e n in
      All-append (Keeps b) (when (int_lt (pos 0) a) (high_tell x (floor_of r a) ∷ [])) (when (int_lt a (pos 0)) (low_tell x (ceiling_of r a) ∷ []))
      (All-when (Keeps b) (int_lt (pos 0) a) _ (λ s. All-one (Keeps b) (high_tell x (floor_of r a))
      (let le = (quotients.floor_above_zero r a v (omega (arith, ints))).1 turned in (clamped.above_number (high_of b x) (floor_of r a) high_number).1 (omega (arith, ints)))))
      (All-when (Keeps b) (int_lt a (pos 0)) _ (λ s. All-one (Keeps b) (low_tell x (ceiling_of r a))
      (let le = (quotients.ceiling_below_zero r a v (omega (arith, ints))).1 turned in (clamped.below_number v (ceiling_of r a) n).1 (omega (arith, ints)))))

  pub at_least_kept : (b : Bounds) (x : ℕ) (a r : ℤ) → low_of b x ≡ high_of b x → IsNumber (low_of b x) → r ≤ℤ (a *ℤ low_of b x) → All (Keeps b) (product_at_least x a r)
  at_least_kept b x a r e n h =
      let v = low_of b x in
      let turned : r ≤ℤ (v *ℤ a) = omega (arith, ints) in
      let high_number : IsNumber (high_of b x) = let N : ℤ → Type 0 = λ z. IsNumber z in subst N e n in
      All-append (Keeps b) (when (int_lt (pos 0) a) (low_tell x (ceiling_of r a) ∷ [])) (when (int_lt a (pos 0)) (high_tell x (floor_of r a) ∷ []))
      (All-when (Keeps b) (int_lt (pos 0) a) _ (λ s. All-one (Keeps b) (low_tell x (ceiling_of r a))
      (let le = (quotients.ceiling_above_zero r a v (omega (arith, ints))).1 turned in (clamped.below_number v (ceiling_of r a) n).1 (omega (arith, ints)))))
      (All-when (Keeps b) (int_lt a (pos 0)) _ (λ s. All-one (Keeps b) (high_tell x (floor_of r a))
      (let le = (quotients.floor_below_zero r a v (omega (arith, ints))).1 turned in (clamped.above_number (high_of b x) (floor_of r a) high_number).1 (omega (arith, ints)))))
