-- A sum that must not be the limit tells the one term that isn't fixed.
use Rattle.std.proofs.Common.{◌≡◌, ℕ, zero, suc, ◌<◌, List, [], ◌∷◌, ◌++◌, length, get_or, true, ◌&&◌, ◌||◌, ℤ, pos, negsuc, ◌-ℤ◌, ◌≤ℤ◌, ◌<ℤ◌, unsigned_abs, refl, sym, subst, ◌∙◌, arith}
use Rattle.std.proofs.lemmas.Int.{ints, clamps}
use Rattle.std.proofs.lemmas.Bool.{and_parts}
use Rattle.std.proofs.lemmas.List.{append-nil}
use Rattle.std.proofs.lemmas.List.Elements.{All-append, filter-append}
use Rattle.std.specs.Int.RustNames.{int_lt}
use Rattle.std.specs.List.{zip, flat_map}
use Rattle.tells.specs.declared.tell.Lit.{Lit}
use Rattle.tells.specs.declared.tell.Tell.{Tell}
use Rattle.interval.specs.Limits.{bound_limit, largest_number, ClampOrder}
use Rattle.interval.specs.Boxes.{Bounds}
use Rattle.guarded_tell.specs.Words.{Keeps, when, is_out, tell_true, tell_false}
use Rattle.sum_tells.specs.Linear.{Term, sum_over, least_of, greatest_of}
use Rattle.sum_tells.specs.Equality.{is_same, product_is_not, equation_tells, equal_tell, equal_tells, unequal_tell, unequal_tells, eq_tells}
use Rattle.small_sums.specs.declared.short.Sums.{Sums}
use Rattle.small_sums.specs.declared.short.SmallTerm.{SmallTerm}
use Rattle.small_sums.specs.Short.{AreSums, IsTermOf}
use Rattle.kernel_visits.specs.Sole.{IsBoundTerm, IsLeftBeside}
use Rattle.tell_laws.specs.Narrowing.{narrows, narrowing}
use Rattle.tell_laws.proofs.Lists.{All-one, All-when}
use Rattle.tell_laws.proofs.NarrowingLaws.{none_narrows}
use Rattle.sum_tells.proofs.EqualityLaws.{same_is, is_same_of}
use Rattle.sum_tells.proofs.TermLaws.{length-zip, get_or-zip}
use Rattle.small_sums.proofs.QuietLaws.{out_keeps, not_sure}
use Rattle.kernel_visits.proofs.OpenLaws.{one_within, beside_within}

-- ---- of a list put together, what one item gives, where the others give nothing that narrows

module _ {X : Type 0} (b : Bounds) (f : X → List Tell) where
  none_of : (xs : List X) (d : X) → ((k : ℕ) → k < length xs → narrowing b (f (get_or xs k d)) ≡ []) → narrowing b (flat_map f xs) ≡ []
  none_of [] d h = refl
  none_of (x ∷ xs) d h = filter-append (narrows b) (f x) (flat_map f xs) ∙ (λ i. h 0 (omega arith) i ++ none_of xs d (λ k l. h (suc k) (omega arith)) i)

  only_one : (xs : List X) (p : ℕ) (d : X) → p < length xs → ((k : ℕ) → k < length xs → (k ≡ p → ⊥) → narrowing b (f (get_or xs k d)) ≡ []) → narrowing b (flat_map f xs) ≡ narrowing b (f (get_or xs p d))
  only_one [] p d l h = absurd (omega arith)
  only_one (x ∷ xs) zero d l h =
      filter-append (narrows b) (f x) (flat_map f xs)
      ∙ (λ i. narrowing b (f x) ++ none_of xs d (λ k m. h (suc k) (omega arith) (λ e. omega arith)) i)
      ∙ append-nil (narrowing b (f x))
  only_one (x ∷ xs) (suc p) d l h =
      filter-append (narrows b) (f x) (flat_map f xs)
      ∙ (λ i. h 0 (omega arith) (λ e. omega arith) i ++ narrowing b (flat_map f xs))
      ∙ only_one xs p d (omega arith) (λ k m n. h (suc k) (omega arith) (λ e. n (omega arith)))

-- ---- the term that isn't fixed

module _ (clamped : ClampOrder) (b : Bounds) (l : Lit) (coeffs : List ℤ) (vars : List ℕ) (limit : ℤ) (same : length coeffs ≡ length vars) (out : is_out l b ≡ true)
    (place : ℕ) (inside : place < length coeffs) (s : Sums) (sums : AreSums b coeffs vars s) (t : SmallTerm)
    (term : IsBoundTerm b (get_or coeffs place (pos 0)) (get_or vars place 0) t) (p : ℤ) (beside : IsLeftBeside t limit s p) where
  abbrev a : ℤ
  a = get_or coeffs place (pos 0)

  abbrev x : ℕ
  x = get_or vars place 0

  abbrev ts : List Term
  ts = zip coeffs vars

  abbrev m : ℤ
  m = sum_over (least_of b) ts

  abbrev n : ℤ
  n = sum_over (greatest_of b) ts

  within : place < length ts
  within = rw (length-zip coeffs vars same) inside

  at_place : get_or ts place (pos 0, 0) ≡ (a, x)
  at_place = get_or-zip coeffs vars place same

  wide : least_of b (get_or ts place (pos 0, 0)) <ℤ greatest_of b (get_or ts place (pos 0, 0))
  wide = let P : Term → Type 0 = λ u. least_of b u <ℤ greatest_of b u in
      subst P (sym at_place) (omega (arith, ints, term.least, term.greatest, beside.wide))

  literal_none : narrowing b (equation_tells l limit m n) ≡ []
  literal_none = none_narrows b (equation_tells l limit m n)
      (All-append (Keeps b) (when (int_lt limit m || int_lt n limit) (tell_false l ∷ [])) (when (is_same m limit && is_same n limit) (tell_true l ∷ []))
      (All-when (Keeps b) (int_lt limit m || int_lt n limit) (tell_false l ∷ []) (λ e. All-one (Keeps b) (tell_false l) (out_keeps clamped b l out)))
      (All-when (Keeps b) (is_same m limit && is_same n limit) (tell_true l ∷ []) (λ e.
      let parts = and_parts (is_same m limit) (is_same n limit) e in
      let q = same_is m limit parts.0 in
      let r = same_is n limit parts.1 in
      let grows = one_within b ts place (pos 0, 0) within in
      let w = wide in
      absurd (omega (arith, ints)))))

  others_none : (k : ℕ) → k < length ts → (k ≡ place → ⊥) → narrowing b (unequal_tell b limit m n (get_or ts k (pos 0, 0))) ≡ []
  others_none k h differs =
      let u = get_or ts k (pos 0, 0) in
      none_narrows b (unequal_tell b limit m n u)
      (All-when (Keeps b) (is_same (m -ℤ least_of b u) (n -ℤ greatest_of b u)) (product_is_not u.1 u.0 (limit -ℤ (m -ℤ least_of b u)) b) (λ e.
      let q = same_is (m -ℤ least_of b u) (n -ℤ greatest_of b u) e in
      let both = beside_within b ts place k (pos 0, 0) within h differs in
      let w = wide in
      absurd (omega (arith, ints))))

  pub sole_told : narrowing b (eq_tells l coeffs vars limit b) ≡ narrowing b (product_is_not x a p b)
  unfolding eq_tells
  sole_told =
      let none = not_sure clamped b l out in
      let test : is_same (m -ℤ least_of b (a, x)) (n -ℤ greatest_of b (a, x)) ≡ true =
      is_same_of (m -ℤ least_of b (a, x)) (n -ℤ greatest_of b (a, x)) (omega (arith, ints, term.least, term.greatest, sums.least, sums.greatest, beside.fixed)) in
      let rest : (limit -ℤ (m -ℤ least_of b (a, x))) ≡ p = omega (arith, ints, term.least, sums.least, beside.rest) in
      filter-append (narrows b) (equation_tells l limit m n) (equal_tells l ts limit m n b ++ unequal_tells l ts limit m n b)
      ∙ (λ i. literal_none i ++ narrowing b (when (none i) (flat_map (equal_tell b limit m n) ts) ++ when (out i) (flat_map (unequal_tell b limit m n) ts)))
      ∙ only_one b (unequal_tell b limit m n) ts place (pos 0, 0) within others_none
      ∙ (λ i. narrowing b (unequal_tell b limit m n (at_place i)))
      ∙ (λ i. narrowing b (when (test i) (product_is_not x a (limit -ℤ (m -ℤ least_of b (a, x))) b)))
      ∙ (λ i. narrowing b (product_is_not x a (rest i) b))

-- ---- terms whose coefficient is 1 or -1

module _ (b : Bounds) (x : ℕ) (t : SmallTerm) where
  pub plain_bound : (a : ℤ) → unsigned_abs a ≡ 1 → pos 0 <ℤ a → IsTermOf b (pos 1) x t → IsBoundTerm b a x t
  unfolding least_of greatest_of bound_limit largest_number
  plain_bound (pos zero) e h k = absurd (omega (arith, ints))
  plain_bound (pos (suc zero)) e h k =
      let low = k.bounds.low in let high = k.bounds.high in
      record {
        least = k.least;
        greatest = k.greatest;
        least_bound = omega (arith, ints, clamps, k.least);
        greatest_bound = omega (arith, ints, clamps, k.greatest);
      }
  plain_bound (pos (suc (suc n))) e h k = absurd (omega arith)
  plain_bound (negsuc n) e h k = absurd (omega (arith, ints))

  pub opposite_bound : (a : ℤ) → unsigned_abs a ≡ 1 → a ≤ℤ pos 0 → IsTermOf b (negsuc 0) x t → IsBoundTerm b a x t
  unfolding least_of greatest_of bound_limit largest_number
  opposite_bound (pos zero) e h k = absurd (omega arith)
  opposite_bound (pos (suc n)) e h k = absurd (omega (arith, ints))
  opposite_bound (negsuc zero) e h k =
      let low = k.bounds.low in let high = k.bounds.high in
      record {
        least = k.least;
        greatest = k.greatest;
        least_bound = omega (arith, ints, clamps, k.least);
        greatest_bound = omega (arith, ints, clamps, k.greatest);
      }
  opposite_bound (negsuc (suc n)) e h k = absurd (omega arith)
