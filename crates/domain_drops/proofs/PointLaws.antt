-- At a point where a kernel holds nothing is removed: one line for each kernel.
use Rattle.std.proofs.Common.{◌≡◌, ℕ, suc, ◌+◌, ◌<◌, List, [], ◌∷◌, length, map, get_or, Bool, true, false, not, ◌&&◌, ◌||◌, ℤ, pos, ◌-ℤ◌, ◌*ℤ◌, ◌≤ℤ◌, ⊎_elim, refl, sym, ap, subst, ◌∙◌, arith}
use Rattle.std.proofs.lemmas.Int.{ints}
use Rattle.std.proofs.lemmas.Bool.{and_parts, and_from, or_cases, true≢false}
use Rattle.std.proofs.lemmas.List.{get_or_default}
use Rattle.std.proofs.lemmas.List.Elements.{All-nil, All-cons}
use Rattle.std.proofs.lemmas.List.Folds.{Any-from_list_any, list_any-from_Any}
use Rattle.std.proofs.lemmas.List.FromFn.{length-enumerate_from, get_or-enumerate_from}
use Rattle.std.proofs.lemmas.Bool.Decides.{Decides-int_eq}
use Rattle.std.specs.Ordering.{int_eq}
use Rattle.std.specs.Int.RustNames.{int_le}
use Rattle.std.specs.List.{All, Any, zip, list_any}
use Rattle.tells.specs.declared.tell.Lit.{Lit}
use Rattle.interval.specs.Boxes.{Bounds, low_of, high_of, IsPoint}
use Rattle.guarded_tell.specs.declared.kernel.Kernel.{Kernel}
use Rattle.guarded_tell.specs.declared.kernel.Kernel.TheVariants.{Le, Eq, Times, Div, Mod, Abs, Max, Min, Clause, Element, InSet, AllDiff, Cumulative}
use Rattle.guarded_tell.specs.Words.{literal_true, is_sure, is_out, value_of, point_of, AreVariables}
use Rattle.sum_tells.specs.Linear.{Term, least_of, greatest_of, sum_over, term_value}
use Rattle.sum_tells.specs.Equality.{is_same, is_product, IsEquation}
use Rattle.element_tells.specs.Element.{can_equal, places_of, IsElement}
use Rattle.set_tells.specs.InSet.{has_number, IsInSet}
use Rattle.guarded_tell.specs.Kernels.{vars_of, HasNumbers, Holds}
use Rattle.domain_drops.specs.Removals.{Removal, makes_limit, term_removal, equation_removals, is_against_set, set_removal, is_place_apart, place_removal, removals}
use Rattle.domain_drops.proofs.ProductLaws.{same_is}
use Rattle.domain_drops.proofs.SumLaws.{least_at_point, zip_at, least_sum, value-point}

-- the value of the removal's variable at the point doesn't pass
abbrev pub Fails : Bounds → Removal → Type 0
Fails b r = r.test (low_of b r.var) ≡ false

not_passed : (t : Bool) → (t ≡ true → ⊥) → t ≡ false
not_passed true h = absurd (h refl)
not_passed false h = refl

fails_map : (b : Bounds) (f : Term → Removal) (ts : List Term) → ((i : ℕ) → i < length ts → Fails b (f (get_or ts i (pos 0, 0)))) → All (Fails b) (map f ts)
fails_map b f [] h = All-nil (Fails b)
fails_map b f (t ∷ ts) h = All-cons (Fails b) (f t) (map f ts) (h 0 (omega arith)) (fails_map b f ts (λ i l. h (suc i) (omega arith)))

out_false : (b : Bounds) (l : Lit) → is_out l b ≡ true → literal_true l (low_of b l.var) ≡ false
unfolding is_out
out_false b l e = let parts = and_parts (not (literal_true l (low_of b l.var))) (not (literal_true l (high_of b l.var))) e in not_true (literal_true l (low_of b l.var)) parts.0
  where
    not_true : (t : Bool) → not t ≡ true → t ≡ false
    not_true true h = absurd (true≢false (sym h))
    not_true false h = refl

sure_true : (b : Bounds) (l : Lit) → is_sure l b ≡ true → literal_true l (low_of b l.var) ≡ true
unfolding is_sure
sure_true b l e = (and_parts (literal_true l (low_of b l.var)) (literal_true l (high_of b l.var)) e).0

rest_of : (a z limit m t : ℤ) → a *ℤ z ≡ limit -ℤ (m -ℤ t) → t ≡ a *ℤ z → m ≡ limit
rest_of a z limit m t e f = omega (arith, ints)

module _ (b : Bounds) (point : IsPoint b) where
  equation_fails : (l : Lit) (coeffs : List ℤ) (vars : List ℕ) (limit : ℤ) → length coeffs ≡ length vars → AreVariables (length b) (l.var ∷ vars) → IsEquation l coeffs vars limit (point_of b)
      → All (Fails b) (equation_removals l (zip coeffs vars) limit b)
  unfolding makes_limit
  equation_fails l coeffs vars limit same variables holds =
      let ts = zip coeffs vars in
      let m = sum_over (least_of b) ts in
      let n = sum_over (greatest_of b) ts in
      fails_map b (term_removal l limit m n b) ts (λ i h.
      let t = get_or ts i (pos 0, 0) in
      let z = low_of b t.1 in
      let (few, e) = zip_at coeffs vars i h in
      let inside : t.1 < length b = subst (λ (x : ℕ). x < length b) (sym e) (variables.each (suc i) (omega arith)) in
      not_passed (is_out l b && makes_limit b limit m n t z) (λ passed.
      let parts = and_parts (is_out l b) (makes_limit b limit m n t z) passed in
      let fixed = and_parts (is_same (m -ℤ least_of b t) (n -ℤ greatest_of b t)) (is_product t.0 z (limit -ℤ (m -ℤ least_of b t))) parts.1 in
      let product = and_parts (not (is_same t.0 (pos 0))) (is_same (t.0 *ℤ z) (limit -ℤ (m -ℤ least_of b t))) fixed.1 in
      let own : least_of b t ≡ t.0 *ℤ z = least_at_point b t.0 t.1 (point t.1 inside) in
      let whole : m ≡ limit = rest_of t.0 z limit m (least_of b t) (same_is (t.0 *ℤ z) (limit -ℤ (m -ℤ least_of b t)) product.1) own in
      let total : sum_over (term_value (point_of b)) ts ≡ limit = sym (least_sum b l coeffs vars same variables point) ∙ whole in
      let is : literal_true l (value_of (point_of b) l.var) ≡ true = holds.1 total in
      let low : literal_true l (low_of b l.var) ≡ true = subst (λ (w : ℤ). literal_true l w ≡ true) (value-point b l.var) is in
      true≢false (sym low ∙ out_false b l parts.0)))

  set_fails : (l : Lit) (x : ℕ) (ranges : List (ℤ × ℤ)) → IsInSet l x ranges (point_of b) → Fails b (set_removal l x ranges b)
  unfolding is_against_set
  set_fails l x ranges holds =
      let z = low_of b x in
      let within = list_any (has_number z) ranges in
      let at = value-point b x in
      let has_it : Any (λ r. (r.0 ≤ℤ value_of (point_of b) x) × (value_of (point_of b) x ≤ℤ r.1)) ranges → within ≡ true = (λ (k, r, less, e, range).
      let p = range.0 in
      let q = range.1 in
      let first : true ≡ int_le r.0 z = omega (arith, ints) in
      let last : true ≡ int_le z r.1 = omega (arith, ints) in
      list_any-from_Any (has_number z) ranges (k, r, less, e, and_from (int_le r.0 z) (int_le z r.1) (sym first) (sym last))) in
      let it_has : within ≡ true → Any (λ r. (r.0 ≤ℤ value_of (point_of b) x) × (value_of (point_of b) x ≤ℤ r.1)) ranges = (λ t.
      let (k, r, less, e, passed) = Any-from_list_any (has_number z) ranges t in
      let parts = and_parts (int_le r.0 z) (int_le z r.1) passed in
      let first = parts.0 in
      let last = parts.1 in
      (k, r, less, e, (omega (arith, ints), omega (arith, ints)))) in
      not_passed ((is_sure l b && not within) || (is_out l b && within)) (λ passed.
      ⊎_elim
      (λ p.
      let parts = and_parts (is_sure l b) (not within) p in
      let is : literal_true l (value_of (point_of b) l.var) ≡ true = subst (λ (w : ℤ). literal_true l w ≡ true) (sym (value-point b l.var)) (sure_true b l parts.0) in
      let inside = has_it (holds.0 is) in
      true≢false (sym parts.1 ∙ ap not inside))
      (λ q.
      let parts = and_parts (is_out l b) within q in
      let is : literal_true l (value_of (point_of b) l.var) ≡ true = holds.1 (it_has parts.1) in
      let low : literal_true l (low_of b l.var) ≡ true = subst (λ (w : ℤ). literal_true l w ≡ true) (value-point b l.var) is in
      true≢false (sym low ∙ out_false b l parts.0))
      (or_cases (is_sure l b && not within) (is_out l b && within) passed))

  place_fails : (x c : ℕ) (entries : List ℕ) → AreVariables (length b) (x ∷ c ∷ entries) → IsElement x entries c (point_of b) → Fails b (place_removal x entries c b)
  unfolding is_place_apart
  place_fails x c entries variables (j, q, far, there, element) =
      let value = element.0 in
      let equal = element.1 in
      let z = low_of b x in
      let f : ℕ × ℕ → Bool = λ p. int_eq z (pos p.0) && not (can_equal p.1 c b) in
      not_passed (list_any f (places_of entries)) (λ passed.
      let (k, p, less, at, holds) = Any-from_list_any f (places_of entries) passed in
      let few : k < length entries = omega (arith, length-enumerate_from 1 entries) in
      let some : j < length entries = omega (arith, length-enumerate_from 1 entries) in
      let entry : p ≡ (1 + k, get_or entries k p.1) = sym at ∙ get_or-enumerate_from 1 entries k p few in
      let other : q ≡ (1 + j, get_or entries j q.1) = sym there ∙ get_or-enumerate_from 1 entries j q some in
      let parts = and_parts (int_eq z (pos p.0)) (not (can_equal p.1 c b)) holds in
      let place : z ≡ pos p.0 = (Decides-int_eq z (pos p.0)).0 parts.0 in
      let low_x : value_of (point_of b) x ≡ z = value-point b x in
      let first : p.0 ≡ 1 + k = ap (λ (r : ℕ × ℕ). r.0) entry in
      let second : q.0 ≡ 1 + j = ap (λ (r : ℕ × ℕ). r.0) other in
      let numbers : pos p.0 ≡ pos q.0 = sym place ∙ sym low_x ∙ value in
      let places : k ≡ j = omega (arith, ints) in
      let mine : p.1 ≡ get_or entries k 0 = ap (λ (r : ℕ × ℕ). r.1) entry ∙ get_or_default entries k p.1 0 few in
      let yours : q.1 ≡ get_or entries j 0 = ap (λ (r : ℕ × ℕ). r.1) other ∙ get_or_default entries j q.1 0 some in
      let same : p.1 ≡ q.1 = mine ∙ ap (λ (i : ℕ). get_or entries i 0) places ∙ sym yours in
      let y_inside : p.1 < length b = subst (λ (v : ℕ). v < length b) (sym mine) (variables.each (suc (suc k)) (omega arith)) in
      let fixed_y = point p.1 y_inside in
      let fixed_c = point c (variables.each 1 (omega arith)) in
      let both : low_of b p.1 ≡ low_of b c = sym (value-point b p.1) ∙ ap (λ (v : ℕ). value_of (point_of b) v) same ∙ equal ∙ value-point b c in
      let one : true ≡ int_le (low_of b p.1) (high_of b c) = omega (arith, ints) in
      let two : true ≡ int_le (low_of b c) (high_of b p.1) = omega (arith, ints) in
      let meet : can_equal p.1 c b ≡ true = and_from (int_le (low_of b p.1) (high_of b c)) (int_le (low_of b c) (high_of b p.1)) (sym one) (sym two) in
      true≢false (sym parts.1 ∙ ap not meet))

  pub point_fails : (k : Kernel) → HasNumbers k → AreVariables (length b) (vars_of k) → Holds k (point_of b) → All (Fails b) (removals k b)
  unfolding vars_of HasNumbers Holds removals
  point_fails (Le l coeffs vars limit) n variables holds = All-nil (Fails b)
  point_fails (Eq l coeffs vars limit) n variables holds = equation_fails l coeffs vars limit n.same_length variables holds
  point_fails (Times x y z) n variables holds = All-nil (Fails b)
  point_fails (Div x y z) n variables holds = All-nil (Fails b)
  point_fails (Mod x y z) n variables holds = All-nil (Fails b)
  point_fails (Abs x y) n variables holds = All-nil (Fails b)
  point_fails (Max m xs) n variables holds = All-nil (Fails b)
  point_fails (Min m xs) n variables holds = All-nil (Fails b)
  point_fails (Clause lits) n variables holds = All-nil (Fails b)
  point_fails (Element x entries c) n variables holds = All-cons (Fails b) (place_removal x entries c b) [] (place_fails x c entries variables holds) (All-nil (Fails b))
  point_fails (InSet l x ranges) n variables holds = All-cons (Fails b) (set_removal l x ranges b) [] (set_fails l x ranges holds) (All-nil (Fails b))
  point_fails (AllDiff xs) n variables holds = All-nil (Fails b)
  point_fails (Cumulative starts durations usages limit) n variables holds = All-nil (Fails b)
