-- The least and the greatest over a list.
use Rattle.std.proofs.Common.{◌≡◌, ℕ, zero, suc, ◌<◌, List, [], ◌∷◌, ◌++◌, length, get_or, Bool, true, false, cond, ℤ, ◌≤ℤ◌, refl, sym, ap, subst, ◌∙◌, arith}
use Rattle.std.proofs.lemmas.Int.{ints, clamps}
use Rattle.std.proofs.lemmas.Bool.{both_ways}
use Rattle.std.proofs.lemmas.List.Elements.{All-nil, All-cons}
use Rattle.std.specs.Int.{int_min, int_max}
use Rattle.std.specs.List.{All, filter}
use Rattle.extreme_tells.specs.Extremes.{least_with, greatest_with, least_over, greatest_over}
use Rattle.element_tells.proofs.LiteralLaws.{by_bool}

-- ---- the greatest

module _ {X : Type 0} (f : X → ℤ) where
  greatest_start : (z : ℤ) (xs : List X) → z ≤ℤ greatest_with f z xs
  unfolding greatest_with
  greatest_start z [] = omega (arith, ints)
  greatest_start z (x ∷ xs) = let rest = greatest_start (int_max z (f x)) xs in omega (arith, ints, clamps)

  greatest_with_each : (z : ℤ) (xs : List X) → All (λ x. f x ≤ℤ greatest_with f z xs) xs
  unfolding greatest_with
  greatest_with_each z [] i d h = absurd (omega arith)
  greatest_with_each z (x ∷ xs) zero d h = let rest = greatest_start (int_max z (f x)) xs in omega (arith, ints, clamps)
  greatest_with_each z (x ∷ xs) (suc i) d h = greatest_with_each (int_max z (f x)) xs i d (omega arith)

  greatest_with_cap : (z c : ℤ) (xs : List X) → z ≤ℤ c → All (λ x. f x ≤ℤ c) xs → greatest_with f z xs ≤ℤ c
  unfolding greatest_with
  greatest_with_cap z c [] h all = h
  greatest_with_cap z c (x ∷ xs) h all =
      let first = all 0 x (omega arith) in
      greatest_with_cap (int_max z (f x)) c xs (omega (arith, ints, clamps)) (λ i d k. all (suc i) d (omega arith))

  -- of some elements
  pub greatest_each : (xs : List X) → All (λ x. f x ≤ℤ greatest_over f xs) xs
  unfolding greatest_over
  greatest_each [] i d h = absurd (omega arith)
  greatest_each (x ∷ xs) zero d h = greatest_start (f x) xs
  greatest_each (x ∷ xs) (suc i) d h = greatest_with_each (f x) xs i d (omega arith)

  pub greatest_cap : (c : ℤ) (xs : List X) → 0 < length xs → All (λ x. f x ≤ℤ c) xs → greatest_over f xs ≤ℤ c
  unfolding greatest_over
  greatest_cap c [] some all = absurd (omega arith)
  greatest_cap c (x ∷ xs) some all = greatest_with_cap (f x) c xs (all 0 x (omega arith)) (λ i d k. all (suc i) d (omega arith))

  greatest_with_push : (z : ℤ) (xs : List X) (y : X) → greatest_with f z (xs ++ y ∷ []) ≡ int_max (greatest_with f z xs) (f y)
  unfolding greatest_with
  greatest_with_push z [] y = refl
  greatest_with_push z (x ∷ xs) y = greatest_with_push (int_max z (f x)) xs y

  pub greatest_push : (xs : List X) (y : X) → 0 < length xs → greatest_over f (xs ++ y ∷ []) ≡ int_max (greatest_over f xs) (f y)
  unfolding greatest_over
  greatest_push [] y some = absurd (omega arith)
  greatest_push (x ∷ xs) y some = greatest_with_push (f x) xs y

-- two functions that agree, or lie one below the other, along a list
module _ {X : Type 0} (f g : X → ℤ) where
  greatest_with_same : (z : ℤ) (xs : List X) → All (λ x. f x ≡ g x) xs → greatest_with f z xs ≡ greatest_with g z xs
  unfolding greatest_with
  greatest_with_same z [] all = refl
  greatest_with_same z (x ∷ xs) all =
      let first = all 0 x (omega arith) in
      ap (λ y. greatest_with f (int_max z y) xs) first ∙ greatest_with_same (int_max z (g x)) xs (λ i d h. all (suc i) d (omega arith))

  pub greatest_same : (xs : List X) → All (λ x. f x ≡ g x) xs → greatest_over f xs ≡ greatest_over g xs
  unfolding greatest_over
  greatest_same [] all = refl
  greatest_same (x ∷ xs) all =
      let first = all 0 x (omega arith) in
      ap (λ y. greatest_with f y xs) first ∙ greatest_with_same (g x) xs (λ i d h. all (suc i) d (omega arith))

-- ---- the least

module _ {X : Type 0} (f : X → ℤ) where
  least_start : (z : ℤ) (xs : List X) → least_with f z xs ≤ℤ z
  unfolding least_with
  least_start z [] = omega (arith, ints)
  least_start z (x ∷ xs) = let rest = least_start (int_min z (f x)) xs in omega (arith, ints, clamps)

  least_with_each : (z : ℤ) (xs : List X) → All (λ x. least_with f z xs ≤ℤ f x) xs
  unfolding least_with
  least_with_each z [] i d h = absurd (omega arith)
  least_with_each z (x ∷ xs) zero d h = let rest = least_start (int_min z (f x)) xs in omega (arith, ints, clamps)
  least_with_each z (x ∷ xs) (suc i) d h = least_with_each (int_min z (f x)) xs i d (omega arith)

  least_with_cap : (z c : ℤ) (xs : List X) → c ≤ℤ z → All (λ x. c ≤ℤ f x) xs → c ≤ℤ least_with f z xs
  unfolding least_with
  least_with_cap z c [] h all = h
  least_with_cap z c (x ∷ xs) h all =
      let first = all 0 x (omega arith) in
      least_with_cap (int_min z (f x)) c xs (omega (arith, ints, clamps)) (λ i d k. all (suc i) d (omega arith))

  -- of some elements
  pub least_each : (xs : List X) → All (λ x. least_over f xs ≤ℤ f x) xs
  unfolding least_over
  least_each [] i d h = absurd (omega arith)
  least_each (x ∷ xs) zero d h = least_start (f x) xs
  least_each (x ∷ xs) (suc i) d h = least_with_each (f x) xs i d (omega arith)

  pub least_cap : (c : ℤ) (xs : List X) → 0 < length xs → All (λ x. c ≤ℤ f x) xs → c ≤ℤ least_over f xs
  unfolding least_over
  least_cap c [] some all = absurd (omega arith)
  least_cap c (x ∷ xs) some all = least_with_cap (f x) c xs (all 0 x (omega arith)) (λ i d k. all (suc i) d (omega arith))

  least_with_push : (z : ℤ) (xs : List X) (y : X) → least_with f z (xs ++ y ∷ []) ≡ int_min (least_with f z xs) (f y)
  unfolding least_with
  least_with_push z [] y = refl
  least_with_push z (x ∷ xs) y = least_with_push (int_min z (f x)) xs y

  pub least_push : (xs : List X) (y : X) → 0 < length xs → least_over f (xs ++ y ∷ []) ≡ int_min (least_over f xs) (f y)
  unfolding least_over
  least_push [] y some = absurd (omega arith)
  least_push (x ∷ xs) y some = least_with_push (f x) xs y

-- two functions that agree, or lie one above the other, along a list
module _ {X : Type 0} (f g : X → ℤ) where
  least_with_same : (z : ℤ) (xs : List X) → All (λ x. f x ≡ g x) xs → least_with f z xs ≡ least_with g z xs
  unfolding least_with
  least_with_same z [] all = refl
  least_with_same z (x ∷ xs) all =
      let first = all 0 x (omega arith) in
      ap (λ y. least_with f (int_min z y) xs) first ∙ least_with_same (int_min z (g x)) xs (λ i d h. all (suc i) d (omega arith))

  pub least_same : (xs : List X) → All (λ x. f x ≡ g x) xs → least_over f xs ≡ least_over g xs
  unfolding least_over
  least_same [] all = refl
  least_same (x ∷ xs) all =
      let first = all 0 x (omega arith) in
      ap (λ y. least_with f y xs) first ∙ least_with_same (g x) xs (λ i d h. all (suc i) d (omega arith))

-- ---- filtered lists and the one element

not_nil : {X : Type 0} (x : X) (xs : List X) → x ∷ xs ≡ [] → ⊥
not_nil x xs e = cc

module _ {X : Type 0} (p : X → Bool) where
  pub filter_yes : (x : X) (xs : List X) → p x ≡ true → filter p (x ∷ xs) ≡ x ∷ filter p xs
  filter_yes x xs t = (λ k. cond (t k) (x ∷ filter p xs) (filter p xs))

  pub filter_no : (x : X) (xs : List X) → p x ≡ false → filter p (x ∷ xs) ≡ filter p xs
  filter_no x xs f = (λ k. cond (f k) (x ∷ filter p xs) (filter p xs))

  pub filter_none : (xs : List X) → filter p xs ≡ [] → All (λ x. p x ≡ false) xs
  filter_none [] e = All-nil (λ x. p x ≡ false)
  filter_none (x ∷ xs) e = by_bool (p x)
      (λ t. absurd (not_nil x (filter p xs) (sym (filter_yes x xs t) ∙ e)))
      (λ f. All-cons (λ x. p x ≡ false) x xs f (filter_none xs (sym (filter_no x xs f) ∙ e)))

  -- what holds of each that passes holds of the filtered list
  pub filter_all : (P : X → Type 0) (xs : List X) → All (λ x. p x ≡ true → P x) xs → All P (filter p xs)
  filter_all P [] each = All-nil P
  filter_all P (x ∷ xs) each =
      let rest = filter_all P xs (λ i d h. each (suc i) d (omega arith)) in
      let A : List X → Type 0 = λ ys. All P ys in
      by_bool (p x)
      (λ t. subst A (sym (filter_yes x xs t)) (All-cons P x (filter p xs) (each 0 x (omega arith) t) rest))
      (λ f. subst A (sym (filter_no x xs f)) rest)

  pub filter_back : (P : X → Type 0) (xs : List X) → All P (filter p xs) → All (λ x. p x ≡ true → P x) xs
  filter_back P [] all i d h t = absurd (omega arith)
  filter_back P (x ∷ xs) all zero d h t =
      let A : List X → Type 0 = λ ys. All P ys in
      subst A (filter_yes x xs t) all 0 d (omega arith)
  filter_back P (x ∷ xs) all (suc i) d h t =
      let A : List X → Type 0 = λ ys. All P ys in
      by_bool (p x)
      (λ u. filter_back P xs (λ j e l. subst A (filter_yes x xs u) all (suc j) e (omega arith)) i d (omega arith) t)
      (λ f. filter_back P xs (subst A (filter_no x xs f) all) i d (omega arith) t)

  pub filter_empty : (xs : List X) → All (λ x. p x ≡ false) xs → filter p xs ≡ []
  filter_empty [] each = refl
  filter_empty (x ∷ xs) each = filter_no x xs (each 0 x (omega arith)) ∙ filter_empty xs (λ i d h. each (suc i) d (omega arith))

-- two tests: what passes p passes q
module _ {X : Type 0} (p q : X → Bool) where
  pub filter_same : (xs : List X) → All (λ x. p x ≡ q x) xs → filter p xs ≡ filter q xs
  filter_same [] each = refl
  filter_same (x ∷ xs) each =
      let first = each 0 x (omega arith) in
      let rest = filter_same xs (λ i d h. each (suc i) d (omega arith)) in
      (λ k. cond (first k) (x ∷ rest k) (rest k))

-- where fewer pass p than q, and f lies on the inner side of g
module _ {X : Type 0} (p q : X → Bool) (f g : X → ℤ) (xs : List X) (follow : All (λ x. p x ≡ true → q x ≡ true) xs) (some : 0 < length (filter p xs)) where
  pub least_of_fewer : All (λ x. g x ≤ℤ f x) xs → least_over g (filter q xs) ≤ℤ least_over f (filter p xs)
  least_of_fewer order =
      let n = least_over g (filter q xs) in
      least_cap f n (filter p xs) some (filter_all p (λ x. n ≤ℤ f x) xs (λ i d h t.
      let below = filter_back q (λ x. n ≤ℤ g x) xs (least_each g (filter q xs)) i d h (follow i d h t) in
      let o = order i d h in
      omega (arith, ints)))

  pub greatest_of_fewer : All (λ x. f x ≤ℤ g x) xs → greatest_over f (filter p xs) ≤ℤ greatest_over g (filter q xs)
  greatest_of_fewer order =
      let n = greatest_over g (filter q xs) in
      greatest_cap f n (filter p xs) some (filter_all p (λ x. f x ≤ℤ n) xs (λ i d h t.
      let above = filter_back q (λ x. g x ≤ℤ n) xs (greatest_each g (filter q xs)) i d h (follow i d h t) in
      let o = order i d h in
      omega (arith, ints)))

-- an element that passes is in the filtered list
pub passed : {X : Type 0} (p : X → Bool) (xs : List X) (i : ℕ) (d : X) → i < length xs → p (get_or xs i d) ≡ true → 0 < length (filter p xs)
passed p xs i d h t = some_length (filter p xs) (λ none. both_ways (p (get_or xs i d)) (filter_none p xs none i d h) t) where
  some_length : {X : Type 0} (xs : List X) → (xs ≡ [] → ⊥) → 0 < length xs
  some_length [] some = absurd (some refl)
  some_length (x ∷ xs) some = omega arith

-- a list is empty or has some elements
pub length_cases : {X P : Type 0} (xs : List X) → (xs ≡ [] → P) → (0 < length xs → P) → P
length_cases [] none some = none refl
length_cases (x ∷ xs) none some = some (omega arith)
