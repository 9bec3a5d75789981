-- What is removed on a box is removed on a box inside: one line for each kernel.
use Rattle.std.proofs.Common.{◌≡◌, ℕ, suc, ◌+◌, ◌<◌, List, [], ◌∷◌, length, map, get_or, Bool, true, false, not, ◌&&◌, ◌||◌, ℤ, pos, ◌-ℤ◌, ◌≤ℤ◌, ◌⊎◌, inl, inr, ⊎_elim, refl, sym, ap, subst, ◌∙◌, arith}
use Rattle.std.proofs.lemmas.Int.{ints, clamps}
use Rattle.std.proofs.lemmas.List.{get_or_default}
use Rattle.std.proofs.lemmas.Bool.{and_parts, and_from, or_cases, true≢false}
use Rattle.std.proofs.lemmas.List.Folds.{Any-from_list_any, list_any_at}
use Rattle.std.proofs.lemmas.List.FromFn.{length-enumerate_from, get_or-enumerate_from}
use Rattle.std.specs.Ordering.{int_eq}
use Rattle.std.specs.Int.RustNames.{int_le}
use Rattle.std.specs.List.{AllZip, zip, list_any}
use Rattle.tells.specs.declared.tell.Lit.{Lit}
use Rattle.interval.specs.Boxes.{Bounds, low_of, high_of}
use Rattle.guarded_tell.specs.declared.kernel.Kernel.{Kernel}
use Rattle.guarded_tell.specs.declared.kernel.Kernel.TheVariants.{Le, Eq, Times, Div, Mod, Abs, Max, Min, Clause, Element, InSet, AllDiff, Cumulative}
use Rattle.guarded_tell.specs.Words.{is_sure, is_out, IsProperIn, IsInsideIn}
use Rattle.sum_tells.specs.Linear.{Term, least_of, greatest_of, sum_over}
use Rattle.sum_tells.specs.Equality.{is_same, is_product}
use Rattle.element_tells.specs.Element.{can_equal, places_of}
use Rattle.set_tells.specs.InSet.{has_number}
use Rattle.guarded_tell.specs.Kernels.{vars_of, HasNumbers}
use Rattle.domain_drops.specs.Removals.{Removal, makes_limit, term_removal, equation_removals, is_against_set, set_removal, is_place_apart, place_removal, removals}
use Rattle.domain_drops.proofs.ProductLaws.{by_bool, same_is, is_same_of}
use Rattle.domain_drops.proofs.SumLaws.{sum_rises_without, sure_inside, out_inside, least_at, greatest_at}
use Rattle.domain_drops.proofs.Removing.{Follows}

pub or_true : (x y : Bool) → (x ≡ true) ⊎ (y ≡ true) → (x || y) ≡ true
or_true true y e = refl
or_true false y e = ⊎_elim (λ p. absurd (true≢false (sym p))) (λ q. q) e

least_under_greatest : (b : Bounds) (t : Term) → least_of b t ≤ℤ greatest_of b t
unfolding least_of greatest_of
least_under_greatest b t = omega (arith, ints, clamps)

follow_map : (f g : Term → Removal) (ts : List Term) (e : Term) → ((i : ℕ) → i < length ts → Follows (f (get_or ts i e)) (g (get_or ts i e))) → AllZip Follows (map f ts) (map g ts)
follow_map f g [] e h = tt
follow_map f g (t ∷ ts) e h = (h 0 (omega arith), follow_map f g ts e (λ i l. h (suc i) (omega arith)))

module _ (outer inner : Bounds) where
  module _ (l : Lit) (coeffs : List ℤ) (vars : List ℕ) (limit : ℤ) (same : length coeffs ≡ length vars) (proper : IsProperIn (l.var ∷ vars) inner) (inside : IsInsideIn (l.var ∷ vars) inner outer) where
    makes_inside : (i : ℕ) (z : ℤ) → i < length (zip coeffs vars)
        → makes_limit outer limit (sum_over (least_of outer) (zip coeffs vars)) (sum_over (greatest_of outer) (zip coeffs vars)) (get_or (zip coeffs vars) i (pos 0, 0)) z ≡ true
        → makes_limit inner limit (sum_over (least_of inner) (zip coeffs vars)) (sum_over (greatest_of inner) (zip coeffs vars)) (get_or (zip coeffs vars) i (pos 0, 0)) z ≡ true
    unfolding makes_limit
    makes_inside i z h passed =
        let ts = zip coeffs vars in
        let t = get_or ts i (pos 0, 0) in
        let lows = sum_rises_without (least_of outer) (least_of inner) ts (pos 0, 0) i h (least_at inner outer l coeffs vars same proper inside) in
        let highs = sum_rises_without (greatest_of inner) (greatest_of outer) ts (pos 0, 0) i h (greatest_at inner outer l coeffs vars same proper inside) in
        let own = sum_rises_without (least_of inner) (greatest_of inner) ts (pos 0, 0) i h (λ j k. least_under_greatest inner (get_or ts j (pos 0, 0))) in
        let left = sum_over (least_of inner) ts -ℤ least_of inner t in
        let right = sum_over (greatest_of inner) ts -ℤ greatest_of inner t in
        let left' = sum_over (least_of outer) ts -ℤ least_of outer t in
        let right' = sum_over (greatest_of outer) ts -ℤ greatest_of outer t in
        let parts = and_parts (is_same left' right') (is_product t.0 z (limit -ℤ left')) passed in
        let outer_same = same_is left' right' parts.0 in
        let inner_same : left ≡ right = omega (arith, ints) in
        let equal : limit -ℤ left' ≡ limit -ℤ left = omega (arith, ints) in
        and_from (is_same left right) (is_product t.0 z (limit -ℤ left)) (is_same_of left right inner_same) (subst (λ (p : ℤ). is_product t.0 z p ≡ true) equal parts.1)

    pub equation_follows : AllZip Follows (equation_removals l (zip coeffs vars) limit outer) (equation_removals l (zip coeffs vars) limit inner)
    equation_follows =
        let ts = zip coeffs vars in
        let m = sum_over (least_of inner) ts in
        let n = sum_over (greatest_of inner) ts in
        let m' = sum_over (least_of outer) ts in
        let n' = sum_over (greatest_of outer) ts in
        follow_map (term_removal l limit m' n' outer) (term_removal l limit m n inner) ts (pos 0, 0) (λ i h. record {
          same = refl;
          passes = λ z passed.
              let t = get_or ts i (pos 0, 0) in
              let parts = and_parts (is_out l outer) (makes_limit outer limit m' n' t z) passed in
              and_from (is_out l inner) (makes_limit inner limit m n t z) (out_inside inner outer l (inside.lows 0 (omega arith)) (proper 0 (omega arith)) (inside.highs 0 (omega arith)) parts.0) (makes_inside i z h parts.1);
        })

  pub set_follows : (l : Lit) (x : ℕ) (ranges : List (ℤ × ℤ)) → IsProperIn (l.var ∷ x ∷ []) inner → IsInsideIn (l.var ∷ x ∷ []) inner outer → Follows (set_removal l x ranges outer) (set_removal l x ranges inner)
  unfolding is_against_set
  set_follows l x ranges proper inside = record {
    same = refl;
    passes = λ z passed.
        let within = list_any (has_number z) ranges in
        or_true (is_sure l inner && not within) (is_out l inner && within)
        (⊎_elim
        (λ p. let parts = and_parts (is_sure l outer) (not within) p in
        inl (and_from (is_sure l inner) (not within) (sure_inside inner outer l (inside.lows 0 (omega arith)) (proper 0 (omega arith)) (inside.highs 0 (omega arith)) parts.0) parts.1))
        (λ q. let parts = and_parts (is_out l outer) within q in
        inr (and_from (is_out l inner) within (out_inside inner outer l (inside.lows 0 (omega arith)) (proper 0 (omega arith)) (inside.highs 0 (omega arith)) parts.0) parts.1))
        (or_cases (is_sure l outer && not within) (is_out l outer && within) passed));
  }

  -- two variables that can't be equal on a box can't be on a box inside
  cannot_equal : (y c : ℕ) → low_of outer y ≤ℤ low_of inner y → high_of inner y ≤ℤ high_of outer y → low_of outer c ≤ℤ low_of inner c → high_of inner c ≤ℤ high_of outer c
      → not (can_equal y c outer) ≡ true → not (can_equal y c inner) ≡ true
  cannot_equal y c p q r s e = by_bool (can_equal y c inner)
      (λ (t : can_equal y c inner ≡ true).
      let parts = and_parts (int_le (low_of inner y) (high_of inner c)) (int_le (low_of inner c) (high_of inner y)) t in
      let one = parts.0 in
      let two = parts.1 in
      let first : true ≡ int_le (low_of outer y) (high_of outer c) = omega (arith, ints) in
      let second : true ≡ int_le (low_of outer c) (high_of outer y) = omega (arith, ints) in
      let both : can_equal y c outer ≡ true = and_from (int_le (low_of outer y) (high_of outer c)) (int_le (low_of outer c) (high_of outer y)) (sym first) (sym second) in
      absurd (true≢false (sym e ∙ ap not both)))
      (λ (t : can_equal y c inner ≡ false). ap not t)

  pub place_follows : (x c : ℕ) (entries : List ℕ) → IsInsideIn (x ∷ c ∷ entries) inner outer → Follows (place_removal x entries c outer) (place_removal x entries c inner)
  unfolding is_place_apart
  place_follows x c entries inside = record {
    same = refl;
    passes = λ z passed.
        let f : ℕ × ℕ → Bool = λ p. int_eq z (pos p.0) && not (can_equal p.1 c outer) in
        let g : ℕ × ℕ → Bool = λ p. int_eq z (pos p.0) && not (can_equal p.1 c inner) in
        let (k, p, less, at, holds) = Any-from_list_any f (places_of entries) passed in
        let few : k < length entries = omega (arith, length-enumerate_from 1 entries) in
        let entry : p ≡ (1 + k, get_or entries k p.1) = sym at ∙ get_or-enumerate_from 1 entries k p few in
        let y = get_or entries k p.1 in
        let own : f (1 + k, y) ≡ true = subst (λ q. f q ≡ true) entry holds in
        let parts = and_parts (int_eq z (pos (1 + k))) (not (can_equal y c outer)) own in
        let var : get_or entries k 0 ≡ y = get_or_default entries k 0 p.1 few in
        let low = subst (λ (v : ℕ). low_of outer v ≤ℤ low_of inner v) var (inside.lows (suc (suc k)) (omega arith)) in
        let high = subst (λ (v : ℕ). high_of inner v ≤ℤ high_of outer v) var (inside.highs (suc (suc k)) (omega arith)) in
        let apart = cannot_equal y c low high (inside.lows 1 (omega arith)) (inside.highs 1 (omega arith)) parts.1 in
        let inner_own : g (1 + k, y) ≡ true = and_from (int_eq z (pos (1 + k))) (not (can_equal y c inner)) parts.0 apart in
        list_any_at g (places_of entries) k p less (subst (λ q. g q ≡ true) (sym entry ∙ sym at) inner_own);
  }

  pub follow : (k : Kernel) → HasNumbers k → IsProperIn (vars_of k) inner → IsInsideIn (vars_of k) inner outer → AllZip Follows (removals k outer) (removals k inner)
  unfolding vars_of HasNumbers removals
  follow (Le l coeffs vars limit) n proper inside = tt
  follow (Eq l coeffs vars limit) n proper inside = equation_follows l coeffs vars limit n.same_length proper inside
  follow (Times x y z) n proper inside = tt
  follow (Div x y z) n proper inside = tt
  follow (Mod x y z) n proper inside = tt
  follow (Abs x y) n proper inside = tt
  follow (Max m xs) n proper inside = tt
  follow (Min m xs) n proper inside = tt
  follow (Clause lits) n proper inside = tt
  follow (Element x entries c) n proper inside = (place_follows x c entries inside, tt)
  follow (InSet l x ranges) n proper inside = (set_follows l x ranges proper inside, tt)
  follow (AllDiff xs) n proper inside = tt
  follow (Cumulative starts durations usages limit) n proper inside = tt
