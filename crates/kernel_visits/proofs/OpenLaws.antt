-- An equation that must not hold narrows nothing where two of its terms aren't fixed.
use Rattle.std.proofs.Common.{◌≡◌, ℕ, zero, suc, ◌+◌, ◌<◌, ◌≤◌, List, [], ◌∷◌, ◌++◌, length, get_or, true, false, ◌&&◌, ◌||◌, ℤ, pos, negsuc, ◌+ℤ◌, ◌-ℤ◌, ◌*ℤ◌, ◌≤ℤ◌, ◌<ℤ◌, to_z, of_z, refl, sym, subst, arith}
use Rattle.std.proofs.lemmas.Int.{ints, clamps}
use Rattle.std.proofs.lemmas.Bool.{and_parts}
use Rattle.std.proofs.lemmas.List.Elements.{All-append}
use Rattle.std.proofs.Math.Nat.{mul-le-mul_left}
use borrow.Author.Differences.{up, down}
use Rattle.std.specs.Int.RustNames.{int_lt, int_le}
use Rattle.std.specs.List.{All, zip, flat_map}
use Rattle.tells.specs.declared.tell.Lit.{Lit}
use mir.Syntax.{w64}
use Rattle.interval.specs.Limits.{IsBound, bound_limit, largest_number, ClampOrder}
use Rattle.interval.specs.Boxes.{Bounds, low_of, high_of}
use Rattle.guarded_tell.specs.Words.{when, Keeps, is_sure, is_out, tell_true, tell_false}
use Rattle.sum_tells.specs.Linear.{Term, least_of, greatest_of, sum_over}
use Rattle.sum_tells.specs.Equality.{is_same, product_is_not, equation_tells, equal_tell, unequal_tell, equal_tells, unequal_tells, eq_tells}
use Rattle.kernel_visits.specs.Open.{AreTwoOpen}
use Rattle.tell_laws.proofs.Lists.{All-one, All-flat_map, All-when}
use Rattle.sum_tells.proofs.TermLaws.{length-zip, get_or-zip}
use Rattle.small_sums.proofs.QuietLaws.{out_keeps}

-- a term isn't fixed where its coefficient isn't 0 and its variable isn't fixed
pub open_term : (b : Bounds) (a : ℤ) (x : ℕ) → (a ≡ pos 0 → ⊥) → low_of b x <ℤ high_of b x → least_of b (a, x) <ℤ greatest_of b (a, x)
unfolding least_of greatest_of
open_term b (pos zero) x n h = absurd (n refl)
open_term b (pos (suc m)) x n h =
    let l = low_of b x in
    let g = high_of b x in
    let one : up l + down g + 1 ≤ up g + down l = omega (arith, ints) in
    let strict : (pos (suc m) *ℤ l) <ℤ (pos (suc m) *ℤ g) = omega (arith, ints, mul-le-mul_left (suc m) one) in
    omega (arith, ints, clamps)
open_term b (negsuc m) x n h =
    let l = low_of b x in
    let g = high_of b x in
    let one : up l + down g + 1 ≤ up g + down l = omega (arith, ints) in
    let strict : (negsuc m *ℤ g) <ℤ (negsuc m *ℤ l) = omega (arith, ints, mul-le-mul_left (suc m) one) in
    omega (arith, ints, clamps)

-- what the code compares are the bounds
pub below : (l h low high : ℤ) → IsBound low → IsBound high → low ≡ l → high ≡ h → int_lt (to_z w64 (of_z w64 low)) (to_z w64 (of_z w64 high)) ≡ true → l <ℤ h
unfolding bound_limit largest_number
below l h low high p q e f t = omega (arith, ints)

module _ (b : Bounds) where
  -- how far the values of a term reach, and those of a sum
  abbrev pub growth : Term → ℤ
  growth t = greatest_of b t -ℤ least_of b t

  abbrev pub reach : List Term → ℤ
  reach ts = sum_over (greatest_of b) ts -ℤ sum_over (least_of b) ts

  rises : (t : Term) → least_of b t ≤ℤ greatest_of b t
  unfolding least_of greatest_of
  rises t = omega (arith, ints, clamps)

  reach_from : (ts : List Term) → pos 0 ≤ℤ reach ts
  unfolding sum_over
  reach_from [] = omega (arith, ints)
  reach_from (t ∷ ts) = let r = rises t in let rest = reach_from ts in omega (arith, ints)

  -- a sum reaches as far as one of its terms, and as two
  pub one_within : (ts : List Term) (i : ℕ) (d : Term) → i < length ts → growth (get_or ts i d) ≤ℤ reach ts
  unfolding sum_over
  one_within [] i d h = absurd (omega arith)
  one_within (t ∷ ts) zero d h = let rest = reach_from ts in omega (arith, ints)
  one_within (t ∷ ts) (suc i) d h = let r = rises t in let rest = one_within ts i d (omega arith) in omega (arith, ints)

  -- and as a term that is told and one beside it
  pub beside_within : (ts : List Term) (i k : ℕ) (d : Term) → i < length ts → k < length ts → (k ≡ i → ⊥) → (growth (get_or ts i d) +ℤ growth (get_or ts k d)) ≤ℤ reach ts
  unfolding sum_over
  beside_within [] i k d h l n = absurd (omega arith)
  beside_within (t ∷ ts) zero zero d h l n = absurd (n refl)
  beside_within (t ∷ ts) zero (suc k) d h l n = let rest = one_within ts k d (omega arith) in omega (arith, ints)
  beside_within (t ∷ ts) (suc i) zero d h l n = let rest = one_within ts i d (omega arith) in omega (arith, ints)
  beside_within (t ∷ ts) (suc i) (suc k) d h l n = let r = rises t in let rest = beside_within ts i k d (omega arith) (omega arith) (λ e. n (omega arith)) in omega (arith, ints)

  two_within : (ts : List Term) (i j : ℕ) (d : Term) → i < j → j < length ts → (growth (get_or ts i d) +ℤ growth (get_or ts j d)) ≤ℤ reach ts
  unfolding sum_over
  two_within [] i j d h k = absurd (omega arith)
  two_within (t ∷ ts) i zero d h k = absurd (omega arith)
  two_within (t ∷ ts) zero (suc j) d h k = let rest = one_within ts j d (omega arith) in omega (arith, ints)
  two_within (t ∷ ts) (suc i) (suc j) d h k = let r = rises t in let rest = two_within ts i j d (omega arith) (omega arith) in omega (arith, ints)

  module _ (ts : List Term) (i j : ℕ) (d : Term) (rising : i < j) (inside : j < length ts) (first : pos 0 <ℤ growth (get_or ts i d)) (second : pos 0 <ℤ growth (get_or ts j d)) where
    -- no term makes the whole reach of a sum in which two aren't fixed
    apart : (k : ℕ) → k < length ts → growth (get_or ts k d) <ℤ reach ts
    apart k h =
        by_order (λ n. growth (get_or ts n d) <ℤ reach ts) i k
        (let two = two_within ts i j d rising inside in omega (arith, ints))
        (λ lt. let two = two_within ts i k d lt h in omega (arith, ints))
        (λ lt. let two = two_within ts k i d lt (omega arith) in omega (arith, ints))
      where
        by_order : (K : ℕ → Type 0) (i k : ℕ) → K i → (i < k → K k) → (k < i → K k) → K k
        by_order K zero zero own above below = own
        by_order K zero (suc k) own above below = above (omega arith)
        by_order K (suc i) zero own above below = below (omega arith)
        by_order K (suc i) (suc k) own above below = by_order (λ n. K (suc n)) i k own (λ l. above (omega arith)) (λ l. below (omega arith))

pub open_quiet : (clamped : ClampOrder) (b : Bounds) (l : Lit) (coeffs : List ℤ) (vars : List ℕ) (limit : ℤ) → length coeffs ≡ length vars → is_sure l b ≡ false → is_out l b ≡ true → AreTwoOpen b coeffs vars
    → All (Keeps b) (eq_tells l coeffs vars limit b)
unfolding eq_tells
open_quiet clamped b l coeffs vars limit same unsure out o =
    let ts = zip coeffs vars in
    let m = sum_over (least_of b) ts in
    let n = sum_over (greatest_of b) ts in
    let inside : o.second < length ts = omega (arith, length-zip coeffs vars same, o.inside) in
    let G : Term → Type 0 = λ t. pos 0 <ℤ growth b t in
    let first : G (get_or ts o.first (pos 0, 0)) = subst G (sym (get_or-zip coeffs vars o.first same)) (omega (arith, ints, o.first_open)) in
    let second : G (get_or ts o.second (pos 0, 0)) = subst G (sym (get_or-zip coeffs vars o.second same)) (omega (arith, ints, o.second_open)) in
    let wide = two_within b ts o.first o.second (pos 0, 0) o.rising inside in
    All-append (Keeps b) (equation_tells l limit m n) (equal_tells l ts limit m n b ++ unequal_tells l ts limit m n b)
    (All-append (Keeps b) (when (int_lt limit m || int_lt n limit) (tell_false l ∷ [])) (when (is_same m limit && is_same n limit) (tell_true l ∷ []))
    (All-when (Keeps b) (int_lt limit m || int_lt n limit) (tell_false l ∷ []) (λ e. All-one (Keeps b) (tell_false l) (out_keeps clamped b l out)))
    (All-when (Keeps b) (is_same m limit && is_same n limit) (tell_true l ∷ []) (λ e.
    let parts = and_parts (is_same m limit) (is_same n limit) e in
    let low = and_parts (int_le m limit) (int_le limit m) parts.0 in
    let high = and_parts (int_le n limit) (int_le limit n) parts.1 in
    let p = low.1 in
    let r = high.0 in
    absurd (omega (arith, ints)))))
    (All-append (Keeps b) (equal_tells l ts limit m n b) (unequal_tells l ts limit m n b)
    (All-when (Keeps b) (is_sure l b) (flat_map (equal_tell b limit m n) ts) (λ e. absurd (cc)))
    (All-when (Keeps b) (is_out l b) (flat_map (unequal_tell b limit m n) ts) (λ e.
    All-flat_map (Keeps b) (unequal_tell b limit m n) ts (pos 0, 0) (λ k h.
    let t = get_or ts k (pos 0, 0) in
    let less = apart b ts o.first o.second (pos 0, 0) o.rising inside first second k h in
    All-when (Keeps b) (is_same (m -ℤ least_of b t) (n -ℤ greatest_of b t)) (product_is_not t.1 t.0 (limit -ℤ (m -ℤ least_of b t)) b) (λ f.
    let parts = and_parts (int_le (m -ℤ least_of b t) (n -ℤ greatest_of b t)) (int_le (n -ℤ greatest_of b t) (m -ℤ least_of b t)) f in
    let q = parts.1 in
    absurd (omega (arith, ints)))))))
