-- The least and the greatest over a list.
use Rattle.std.proofs.Common.{◌≡◌, zero, suc, ◌<◌, List, [], ◌∷◌, length, Bool, true, false, cond, ℤ, ◌≤ℤ◌, refl, sym, subst, ◌∙◌, arith}
use Rattle.std.proofs.lemmas.Int.{ints, clamps}
use Rattle.std.proofs.lemmas.List.Elements.{All-nil, All-cons}
use Rattle.std.specs.Int.{int_min, int_max}
use Rattle.std.specs.List.{All, filter}
use Rattle.extreme_tells.specs.Extremes.{least_with, greatest_with, least_over, greatest_over}
use Rattle.set_tells.proofs.LiteralLaws.{by_bool}

-- ---- the greatest

module _ {X : Type 0} (f : X → ℤ) where
  greatest_start : (z : ℤ) (xs : List X) → z ≤ℤ greatest_with f z xs
  unfolding greatest_with
  greatest_start z [] = omega (arith, ints)
  greatest_start z (x ∷ xs) = let rest = greatest_start (int_max z (f x)) xs in omega (arith, ints, clamps)

  greatest_with_each : (z : ℤ) (xs : List X) → All (λ x. f x ≤ℤ greatest_with f z xs) xs
  unfolding greatest_with
  greatest_with_each z [] i d h = absurd (omega arith)
  greatest_with_each z (x ∷ xs) zero d h = let rest = greatest_start (int_max z (f x)) xs in omega (arith, ints, clamps)
  greatest_with_each z (x ∷ xs) (suc i) d h = greatest_with_each (int_max z (f x)) xs i d (omega arith)

  greatest_with_cap : (z c : ℤ) (xs : List X) → z ≤ℤ c → All (λ x. f x ≤ℤ c) xs → greatest_with f z xs ≤ℤ c
  unfolding greatest_with
  greatest_with_cap z c [] h all = h
  greatest_with_cap z c (x ∷ xs) h all =
      let first = all 0 x (omega arith) in
      greatest_with_cap (int_max z (f x)) c xs (omega (arith, ints, clamps)) (λ i d k. all (suc i) d (omega arith))

  -- of some elements
  pub greatest_each : (xs : List X) → All (λ x. f x ≤ℤ greatest_over f xs) xs
  unfolding greatest_over
  greatest_each [] i d h = absurd (omega arith)
  greatest_each (x ∷ xs) zero d h = greatest_start (f x) xs
  greatest_each (x ∷ xs) (suc i) d h = greatest_with_each (f x) xs i d (omega arith)

  pub greatest_cap : (c : ℤ) (xs : List X) → 0 < length xs → All (λ x. f x ≤ℤ c) xs → greatest_over f xs ≤ℤ c
  unfolding greatest_over
  greatest_cap c [] some all = absurd (omega arith)
  greatest_cap c (x ∷ xs) some all = greatest_with_cap (f x) c xs (all 0 x (omega arith)) (λ i d k. all (suc i) d (omega arith))

  -- ---- the least

  least_start : (z : ℤ) (xs : List X) → least_with f z xs ≤ℤ z
  unfolding least_with
  least_start z [] = omega (arith, ints)
  least_start z (x ∷ xs) = let rest = least_start (int_min z (f x)) xs in omega (arith, ints, clamps)

  least_with_each : (z : ℤ) (xs : List X) → All (λ x. least_with f z xs ≤ℤ f x) xs
  unfolding least_with
  least_with_each z [] i d h = absurd (omega arith)
  least_with_each z (x ∷ xs) zero d h = let rest = least_start (int_min z (f x)) xs in omega (arith, ints, clamps)
  least_with_each z (x ∷ xs) (suc i) d h = least_with_each (int_min z (f x)) xs i d (omega arith)

  least_with_cap : (z c : ℤ) (xs : List X) → c ≤ℤ z → All (λ x. c ≤ℤ f x) xs → c ≤ℤ least_with f z xs
  unfolding least_with
  least_with_cap z c [] h all = h
  least_with_cap z c (x ∷ xs) h all =
      let first = all 0 x (omega arith) in
      least_with_cap (int_min z (f x)) c xs (omega (arith, ints, clamps)) (λ i d k. all (suc i) d (omega arith))

  -- of some elements
  pub least_each : (xs : List X) → All (λ x. least_over f xs ≤ℤ f x) xs
  unfolding least_over
  least_each [] i d h = absurd (omega arith)
  least_each (x ∷ xs) zero d h = least_start (f x) xs
  least_each (x ∷ xs) (suc i) d h = least_with_each (f x) xs i d (omega arith)

  pub least_cap : (c : ℤ) (xs : List X) → 0 < length xs → All (λ x. c ≤ℤ f x) xs → c ≤ℤ least_over f xs
  unfolding least_over
  least_cap c [] some all = absurd (omega arith)
  least_cap c (x ∷ xs) some all = least_with_cap (f x) c xs (all 0 x (omega arith)) (λ i d k. all (suc i) d (omega arith))

-- ---- filtered lists and the one element

not_nil : {X : Type 0} (x : X) (xs : List X) → x ∷ xs ≡ [] → ⊥
not_nil x xs e = cc

module _ {X : Type 0} (p : X → Bool) where
  pub filter_yes : (x : X) (xs : List X) → p x ≡ true → filter p (x ∷ xs) ≡ x ∷ filter p xs
  filter_yes x xs t = (λ k. cond (t k) (x ∷ filter p xs) (filter p xs))

  pub filter_no : (x : X) (xs : List X) → p x ≡ false → filter p (x ∷ xs) ≡ filter p xs
  filter_no x xs f = (λ k. cond (f k) (x ∷ filter p xs) (filter p xs))

  pub filter_none : (xs : List X) → filter p xs ≡ [] → All (λ x. p x ≡ false) xs
  filter_none [] e = All-nil (λ x. p x ≡ false)
  filter_none (x ∷ xs) e = by_bool (p x)
      (λ t. absurd (not_nil x (filter p xs) (sym (filter_yes x xs t) ∙ e)))
      (λ f. All-cons (λ x. p x ≡ false) x xs f (filter_none xs (sym (filter_no x xs f) ∙ e)))

  -- what holds of each that passes holds of the filtered list
  pub filter_all : (P : X → Type 0) (xs : List X) → All (λ x. p x ≡ true → P x) xs → All P (filter p xs)
  filter_all P [] each = All-nil P
  filter_all P (x ∷ xs) each =
      let rest = filter_all P xs (λ i d h. each (suc i) d (omega arith)) in
      let A : List X → Type 0 = λ ys. All P ys in
      by_bool (p x)
      (λ t. subst A (sym (filter_yes x xs t)) (All-cons P x (filter p xs) (each 0 x (omega arith) t) rest))
      (λ f. subst A (sym (filter_no x xs f)) rest)

  pub filter_back : (P : X → Type 0) (xs : List X) → All P (filter p xs) → All (λ x. p x ≡ true → P x) xs
  filter_back P [] all i d h t = absurd (omega arith)
  filter_back P (x ∷ xs) all zero d h t =
      let A : List X → Type 0 = λ ys. All P ys in
      subst A (filter_yes x xs t) all 0 d (omega arith)
  filter_back P (x ∷ xs) all (suc i) d h t =
      let A : List X → Type 0 = λ ys. All P ys in
      by_bool (p x)
      (λ u. filter_back P xs (λ j e l. subst A (filter_yes x xs u) all (suc j) e (omega arith)) i d (omega arith) t)
      (λ f. filter_back P xs (subst A (filter_no x xs f) all) i d (omega arith) t)

  pub filter_empty : (xs : List X) → All (λ x. p x ≡ false) xs → filter p xs ≡ []
  filter_empty [] each = refl
  filter_empty (x ∷ xs) each = filter_no x xs (each 0 x (omega arith)) ∙ filter_empty xs (λ i d h. each (suc i) d (omega arith))

-- a list is empty or has some elements
pub length_cases : {X P : Type 0} (xs : List X) → (xs ≡ [] → P) → (0 < length xs → P) → P
length_cases [] none some = none refl
length_cases (x ∷ xs) none some = some (omega arith)
