-- The linear equation is monotone: what it tells on a box it tells, at least as tight, on a box inside.
use Rattle.std.proofs.Common.{◌≡◌, ℕ, suc, ◌<◌, List, [], ◌∷◌, ◌++◌, length, get_or, Bool, true, false, ◌&&◌, ◌||◌, ℤ, pos, ◌+ℤ◌, ◌-ℤ◌, ◌≤ℤ◌, ◌<ℤ◌, ◌⊎◌, inl, inr, ⊎_elim, refl, sym, subst, arith}
use Rattle.std.proofs.lemmas.Int.{ints, clamps, by_lt_z}
use Rattle.std.proofs.lemmas.Bool.{and_parts, and_from, or_cases}
use Rattle.std.proofs.lemmas.List.Elements.{All-append}
use Rattle.std.specs.Int.RustNames.{int_lt, int_le}
use Rattle.std.specs.List.{All, zip, flat_map}
use Rattle.tells.specs.declared.tell.Lit.{Lit}
use Rattle.tells.specs.declared.tell.Tell.{Tell}
use Rattle.interval.specs.Limits.{IsBound, clamp_of, ClampOrder}
use Rattle.interval.specs.Quotients.{QuotientOrder}
use Rattle.interval.specs.Boxes.{Bounds, low_of, high_of, IsInRange}
use Rattle.tells.specs.Words.{low_tell, high_tell, when, Keeps, is_sure, is_out, tell_true, tell_false, AreVariables, IsProperIn, IsInsideIn}
use Rattle.sum_tells.specs.Linear.{Term, least_of, greatest_of, sum_over, at_most_tell, at_least_tell}
use Rattle.sum_tells.specs.Equality.{is_same, is_product, low_is_not, high_is_not, product_is_not, equation_tells, equal_tell, unequal_tell, equal_tells, unequal_tells, eq_tells}
use Rattle.tell_laws.proofs.Lists.{All-left, All-right, All-one, All-flat_map, flat_map-All, All-when, when-All}
use Rattle.sum_tells.proofs.SumLists.{sum_rises, sum_rises_without}
use Rattle.tell_laws.proofs.LiteralLaws.{sure_inside, out_inside}
use Rattle.sum_tells.proofs.SumLaws.{least_at, greatest_at, least_sums, greatest_sums}
use Rattle.sum_tells.proofs.TermTellLaws.{at_most_along, at_least_along}
use Rattle.sum_tells.proofs.TermLaws.{length-zip, get_or-zip}

pub same_is : (y z : ℤ) → is_same y z ≡ true → y ≡ z
same_is y z e =
    let parts = and_parts (int_le y z) (int_le z y) e in
    let p = parts.0 in
    let q = parts.1 in
    omega (arith, ints)

pub is_same_of : (y z : ℤ) → y ≡ z → is_same y z ≡ true
is_same_of y z e =
    let p : true ≡ int_le y z = omega (arith, ints) in
    let q : true ≡ int_le z y = omega (arith, ints) in
    and_from (int_le y z) (int_le z y) (sym p) (sym q)

or_left : (x y : Bool) → true ≡ x → (x || y) ≡ true
or_left x y e = (λ i. sym e i || y)

or_right : (x y : Bool) → true ≡ y → (x || y) ≡ true
or_right true y e = refl
or_right false y e = sym e

pub or_true : (x y : Bool) → (true ≡ x) ⊎ (true ≡ y) → (x || y) ≡ true
or_true x y e = ⊎_elim (or_left x y) (or_right x y) e

-- the next bound up is kept by what is above, and the next one down by what is below
clamp_next : (z w : ℤ) → IsBound z → z <ℤ w → clamp_of (z +ℤ pos 1) ≤ℤ w
unfolding clamp_of
clamp_next z w h k = omega (arith, ints, clamps)

clamp_previous : (z w : ℤ) → IsBound z → w <ℤ z → w ≤ℤ clamp_of (z -ℤ pos 1)
unfolding clamp_of
clamp_previous z w h k = omega (arith, ints, clamps)

pub least_under_greatest : (b : Bounds) (t : Term) → least_of b t ≤ℤ greatest_of b t
unfolding least_of greatest_of
least_under_greatest b t = omega (arith, ints, clamps)

module _ (inner outer : Bounds) where
  low_along : (x : ℕ) (a p : ℤ) → IsBound (low_of outer x) → low_of outer x ≤ℤ low_of inner x → All (Keeps inner) (low_is_not x a p inner) → All (Keeps inner) (low_is_not x a p outer)
  low_along x a p h k all =
      let Q : ℤ → Type 0 = λ z. All (Keeps inner) (when (is_product a z p) (low_tell x (z +ℤ pos 1) ∷ [])) in
      by_lt_z (low_of outer x) (low_of inner x)
      (λ lt. All-when (Keeps inner) (is_product a (low_of outer x) p) _ (λ e. All-one (Keeps inner) (low_tell x (low_of outer x +ℤ pos 1)) (clamp_next (low_of outer x) (low_of inner x) h lt)))
      (λ le. let e : low_of inner x ≡ low_of outer x = omega (arith, ints) in subst Q e all)

  high_along : (x : ℕ) (a p : ℤ) → IsBound (high_of outer x) → high_of inner x ≤ℤ high_of outer x → All (Keeps inner) (high_is_not x a p inner) → All (Keeps inner) (high_is_not x a p outer)
  high_along x a p h k all =
      let Q : ℤ → Type 0 = λ z. All (Keeps inner) (when (is_product a z p) (high_tell x (z -ℤ pos 1) ∷ [])) in
      by_lt_z (high_of inner x) (high_of outer x)
      (λ lt. All-when (Keeps inner) (is_product a (high_of outer x) p) _ (λ e. All-one (Keeps inner) (high_tell x (high_of outer x -ℤ pos 1)) (clamp_previous (high_of outer x) (high_of inner x) h lt)))
      (λ le. let e : high_of inner x ≡ high_of outer x = omega (arith, ints) in subst Q e all)

  product_along : (x : ℕ) (a p : ℤ) → IsBound (low_of outer x) → IsBound (high_of outer x) → low_of outer x ≤ℤ low_of inner x → high_of inner x ≤ℤ high_of outer x
      → All (Keeps inner) (product_is_not x a p inner) → All (Keeps inner) (product_is_not x a p outer)
  product_along x a p f g h k all =
      All-append (Keeps inner) (low_is_not x a p outer) (high_is_not x a p outer)
      (low_along x a p f h (All-left (Keeps inner) (low_is_not x a p inner) (high_is_not x a p inner) all))
      (high_along x a p g k (All-right (Keeps inner) (low_is_not x a p inner) (high_is_not x a p inner) all))

module _ (inner outer : Bounds) (quotients : QuotientOrder) (clamped : ClampOrder) (l : Lit) (coeffs : List ℤ) (vars : List ℕ) (limit : ℤ) (same : length coeffs ≡ length vars) (proper : IsProperIn (l.var ∷ vars) inner) (inside : IsInsideIn (l.var ∷ vars) inner outer) (range : IsInRange outer) (variables : AreVariables (length outer) (l.var ∷ vars)) where
  unequal_along : (i : ℕ) → i < length (zip coeffs vars)
      → All (Keeps inner) (unequal_tell inner limit (sum_over (least_of inner) (zip coeffs vars)) (sum_over (greatest_of inner) (zip coeffs vars)) (get_or (zip coeffs vars) i (pos 0, 0)))
      → All (Keeps inner) (unequal_tell outer limit (sum_over (least_of outer) (zip coeffs vars)) (sum_over (greatest_of outer) (zip coeffs vars)) (get_or (zip coeffs vars) i (pos 0, 0)))
  unequal_along i h all =
      let P : Tell → Type 0 = Keeps inner in
      let ts = zip coeffs vars in
      let t = get_or ts i (pos 0, 0) in
      let m = sum_over (least_of inner) ts in
      let n = sum_over (greatest_of inner) ts in
      let m' = sum_over (least_of outer) ts in
      let n' = sum_over (greatest_of outer) ts in
      let lows = sum_rises_without (least_of outer) (least_of inner) ts (pos 0, 0) i h (least_at inner outer l coeffs vars same proper inside) in
      let highs = sum_rises_without (greatest_of inner) (greatest_of outer) ts (pos 0, 0) i h (greatest_at inner outer l coeffs vars same proper inside) in
      let own = sum_rises_without (least_of inner) (greatest_of inner) ts (pos 0, 0) i h (λ j k. least_under_greatest inner (get_or ts j (pos 0, 0))) in
      let left = m -ℤ least_of inner t in
      let right = n -ℤ greatest_of inner t in
      let left' = m' -ℤ least_of outer t in
      let right' = n' -ℤ greatest_of outer t in
      let place : suc i < length (l.var ∷ vars) = omega (arith, length-zip coeffs vars same) in
      let var : t.1 ≡ get_or vars i 0 = (λ j. (get_or-zip coeffs vars i same j).1) in
      let low_bound : IsBound (low_of outer t.1) = subst (λ (x : ℕ). IsBound (low_of outer x)) (sym var) (range.lows (get_or vars i 0) (variables.each (suc i) place)) in
      let high_bound : IsBound (high_of outer t.1) = subst (λ (x : ℕ). IsBound (high_of outer x)) (sym var) (range.highs (get_or vars i 0) (variables.each (suc i) place)) in
      let low : low_of outer t.1 ≤ℤ low_of inner t.1 = subst (λ (x : ℕ). low_of outer x ≤ℤ low_of inner x) (sym var) (inside.lows (suc i) place) in
      let high : high_of inner t.1 ≤ℤ high_of outer t.1 = subst (λ (x : ℕ). high_of inner x ≤ℤ high_of outer x) (sym var) (inside.highs (suc i) place) in
      All-when P (is_same left' right') (product_is_not t.1 t.0 (limit -ℤ left') outer) (λ e.
      let outer_same = same_is left' right' e in
      let inner_same : left ≡ right = omega (arith, ints) in
      let equal : limit -ℤ left ≡ limit -ℤ left' = omega (arith, ints) in
      let given = when-All P (is_same left right) (product_is_not t.1 t.0 (limit -ℤ left) inner) (is_same_of left right inner_same) all in
      product_along inner outer t.1 t.0 (limit -ℤ left') low_bound high_bound low high (subst (λ (p : ℤ). All P (product_is_not t.1 t.0 p inner)) equal given))

  pub eq_monotone : All (Keeps inner) (eq_tells l coeffs vars limit inner) → All (Keeps inner) (eq_tells l coeffs vars limit outer)
  unfolding eq_tells
  eq_monotone all =
      let P : Tell → Type 0 = Keeps inner in
      let ts = zip coeffs vars in
      let m = sum_over (least_of inner) ts in
      let n = sum_over (greatest_of inner) ts in
      let m' = sum_over (least_of outer) ts in
      let n' = sum_over (greatest_of outer) ts in
      let ls = least_sums inner outer l coeffs vars same proper inside in
      let gs = greatest_sums inner outer l coeffs vars same proper inside in
      let own_sums = sum_rises (least_of inner) (greatest_of inner) ts (pos 0, 0) (λ j k. least_under_greatest inner (get_or ts j (pos 0, 0))) in
      let impossible = int_lt limit m || int_lt n limit in
      let certain = is_same m limit && is_same n limit in
      let literals = All-left P (equation_tells l limit m n) (equal_tells l ts limit m n inner ++ unequal_tells l ts limit m n inner) all in
      let bounds = All-right P (equation_tells l limit m n) (equal_tells l ts limit m n inner ++ unequal_tells l ts limit m n inner) all in
      let falses = All-left P (when impossible (tell_false l ∷ [])) (when certain (tell_true l ∷ [])) literals in
      let trues = All-right P (when impossible (tell_false l ∷ [])) (when certain (tell_true l ∷ [])) literals in
      let equals = All-left P (equal_tells l ts limit m n inner) (unequal_tells l ts limit m n inner) bounds in
      let unequals = All-right P (equal_tells l ts limit m n inner) (unequal_tells l ts limit m n inner) bounds in
      let low = inside.lows 0 (omega arith) in
      let own = proper 0 (omega arith) in
      let high = inside.highs 0 (omega arith) in
      All-append P (equation_tells l limit m' n') (equal_tells l ts limit m' n' outer ++ unequal_tells l ts limit m' n' outer)
      (All-append P (when (int_lt limit m' || int_lt n' limit) (tell_false l ∷ [])) (when (is_same m' limit && is_same n' limit) (tell_true l ∷ []))
      (All-when P (int_lt limit m' || int_lt n' limit) (tell_false l ∷ []) (λ e.
      let side : (true ≡ int_lt limit m) ⊎ (true ≡ int_lt n limit) = ⊎_elim (λ p. inl (omega (arith, ints))) (λ q. inr (omega (arith, ints))) (or_cases (int_lt limit m') (int_lt n' limit) e) in
      when-All P impossible (tell_false l ∷ []) (or_true (int_lt limit m) (int_lt n limit) side) falses))
      (All-when P (is_same m' limit && is_same n' limit) (tell_true l ∷ []) (λ e.
      let parts = and_parts (is_same m' limit) (is_same n' limit) e in
      let p = same_is m' limit parts.0 in
      let q = same_is n' limit parts.1 in
      when-All P certain (tell_true l ∷ []) (and_from (is_same m limit) (is_same n limit) (is_same_of m limit (omega (arith, ints))) (is_same_of n limit (omega (arith, ints)))) trues)))
      (All-append P (equal_tells l ts limit m' n' outer) (unequal_tells l ts limit m' n' outer)
      (All-when P (is_sure l outer) (flat_map (equal_tell outer limit m' n') ts) (λ e.
      let given = when-All P (is_sure l inner) (flat_map (equal_tell inner limit m n) ts) (sure_inside inner outer l low own high e) equals in
      All-flat_map P (equal_tell outer limit m' n') ts (pos 0, 0) (λ i h.
      let t = get_or ts i (pos 0, 0) in
      let both = flat_map-All P (equal_tell inner limit m n) ts (pos 0, 0) given i h in
      All-append P (at_most_tell outer limit m' t) (at_least_tell outer limit n' t)
      (at_most_along inner outer quotients clamped l coeffs vars same proper inside limit i h (All-left P (at_most_tell inner limit m t) (at_least_tell inner limit n t) both))
      (at_least_along inner outer quotients clamped l coeffs vars same proper inside limit i h (All-right P (at_most_tell inner limit m t) (at_least_tell inner limit n t) both)))))
      (All-when P (is_out l outer) (flat_map (unequal_tell outer limit m' n') ts) (λ e.
      let given = when-All P (is_out l inner) (flat_map (unequal_tell inner limit m n) ts) (out_inside inner outer l low own high e) unequals in
      All-flat_map P (unequal_tell outer limit m' n') ts (pos 0, 0) (λ i h. unequal_along i h (flat_map-All P (unequal_tell inner limit m n) ts (pos 0, 0) given i h)))))
