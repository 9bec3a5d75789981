-- The least and the greatest over a list, and the one element of a list.
use Rattle.std.proofs.Common.{◌≡◌, ℕ, zero, suc, ◌+◌, ◌<◌, ◌≤◌, List, [], ◌∷◌, ◌++◌, length, drop, take, get_or, Bool, true, false, cond, Option, None, Some, ℤ, ◌≤ℤ◌, refl, sym, ap, subst, ◌∙◌, ◌⊎◌, inl, inr, ⊎_elim, arith}
use Rattle.std.proofs.lemmas.Int.{ints, clamps, by_lt_z}
use Rattle.std.proofs.lemmas.Bool.{both_ways, false≢true}
use Rattle.std.proofs.lemmas.List.{at_drop_more, at_drop_all, take_all, take-append-drop}
use Rattle.std.proofs.lemmas.List.Elements.{All-nil, All-cons, filter_more, filter-append}
use Rattle.std.specs.Int.{int_min, int_max}
use Rattle.std.specs.List.{All, Any, filter}
use Rattle.std.specs.Option.{option_to_list, is_some}
use Rattle.tells.specs.declared.tell.Tell.{Tell}
use Rattle.extreme_tells.specs.Extremes.{least_with, greatest_with, least_over, greatest_over, sole, told_of}
use Rattle.extreme_tells.proofs.Lists.{All-one}
use Rattle.extreme_tells.proofs.LiteralLaws.{by_bool}

pub any_later : {X : Type 0} {P : X → Type 0} (x : X) (xs : List X) → Any P xs → Any P (x ∷ xs)
any_later x xs (i, y, h, e, p) = (suc i, y, omega arith, e, p)

-- ---- the greatest

greatest_two : (z y : ℤ) → (int_max z y ≡ z) ⊎ (int_max z y ≡ y)
greatest_two z y = by_lt_z z y (λ lt. inr (omega (arith, ints, clamps))) (λ le. inl (omega (arith, ints, clamps)))

module _ {X : Type 0} (f : X → ℤ) where
  greatest_start : (z : ℤ) (xs : List X) → z ≤ℤ greatest_with f z xs
  unfolding greatest_with
  greatest_start z [] = omega (arith, ints)
  greatest_start z (x ∷ xs) = let rest = greatest_start (int_max z (f x)) xs in omega (arith, ints, clamps)

  greatest_with_each : (z : ℤ) (xs : List X) → All (λ x. f x ≤ℤ greatest_with f z xs) xs
  unfolding greatest_with
  greatest_with_each z [] i d h = absurd (omega arith)
  greatest_with_each z (x ∷ xs) zero d h = let rest = greatest_start (int_max z (f x)) xs in omega (arith, ints, clamps)
  greatest_with_each z (x ∷ xs) (suc i) d h = greatest_with_each (int_max z (f x)) xs i d (omega arith)

  greatest_with_cap : (z c : ℤ) (xs : List X) → z ≤ℤ c → All (λ x. f x ≤ℤ c) xs → greatest_with f z xs ≤ℤ c
  unfolding greatest_with
  greatest_with_cap z c [] h all = h
  greatest_with_cap z c (x ∷ xs) h all =
      let first = all 0 x (omega arith) in
      greatest_with_cap (int_max z (f x)) c xs (omega (arith, ints, clamps)) (λ i d k. all (suc i) d (omega arith))

  greatest_with_some : (z : ℤ) (xs : List X) → (greatest_with f z xs ≡ z) ⊎ Any (λ x. f x ≡ greatest_with f z xs) xs
  unfolding greatest_with
  greatest_with_some z [] = inl refl
  greatest_with_some z (x ∷ xs) = ⊎_elim
      (λ e. ⊎_elim (λ one. inl (e ∙ one)) (λ two. inr (0, x, omega arith, refl, sym (e ∙ two))) (greatest_two z (f x)))
      (λ any. inr (any_later x xs any))
      (greatest_with_some (int_max z (f x)) xs)

  -- of some elements
  pub greatest_each : (xs : List X) → All (λ x. f x ≤ℤ greatest_over f xs) xs
  unfolding greatest_over
  greatest_each [] i d h = absurd (omega arith)
  greatest_each (x ∷ xs) zero d h = greatest_start (f x) xs
  greatest_each (x ∷ xs) (suc i) d h = greatest_with_each (f x) xs i d (omega arith)

  pub greatest_cap : (c : ℤ) (xs : List X) → 0 < length xs → All (λ x. f x ≤ℤ c) xs → greatest_over f xs ≤ℤ c
  unfolding greatest_over
  greatest_cap c [] some all = absurd (omega arith)
  greatest_cap c (x ∷ xs) some all = greatest_with_cap (f x) c xs (all 0 x (omega arith)) (λ i d k. all (suc i) d (omega arith))

  pub greatest_some : (xs : List X) → 0 < length xs → Any (λ x. f x ≡ greatest_over f xs) xs
  unfolding greatest_over
  greatest_some [] some = absurd (omega arith)
  greatest_some (x ∷ xs) some = ⊎_elim (λ e. (0, x, omega arith, refl, sym e)) (λ any. any_later x xs any) (greatest_with_some (f x) xs)

  -- as a loop takes them: from the first on, which counts twice
  pub greatest_begin : (xs : List X) (d : X) → 0 < length xs → greatest_with f (f (get_or xs 0 d)) xs ≡ greatest_over f xs
  unfolding greatest_with greatest_over
  greatest_begin [] d some = absurd (omega arith)
  greatest_begin (x ∷ xs) d some = let same : int_max (f x) (f x) ≡ f x = omega (arith, ints, clamps) in ap (λ z. greatest_with f z xs) same

  pub greatest_more : (z next : ℤ) (xs : List X) (i : ℕ) (d : X) → i < length xs → next ≡ int_max z (f (get_or xs i d)) → greatest_with f z (drop i xs) ≡ greatest_with f next (drop (i + 1) xs)
  unfolding greatest_with
  greatest_more z next xs i d h e = at_drop_more (greatest_with f z) xs i d h ∙ ap (λ y. greatest_with f y (drop (i + 1) xs)) (sym e)

  pub greatest_end : (z : ℤ) (xs : List X) (i : ℕ) → length xs ≤ i → greatest_with f z (drop i xs) ≡ z
  unfolding greatest_with
  greatest_end z xs i h = at_drop_all (greatest_with f z) xs i h

-- two functions that agree, or lie one below the other, along a list
module _ {X : Type 0} (f g : X → ℤ) where
  pub greatest_rises : (xs : List X) → 0 < length xs → All (λ x. f x ≤ℤ g x) xs → greatest_over f xs ≤ℤ greatest_over g xs
  greatest_rises xs some all = greatest_cap f (greatest_over g xs) xs some (λ i d h. let a = all i d h in let b = greatest_each g xs i d h in omega (arith, ints))

  greatest_with_same : (z : ℤ) (xs : List X) → All (λ x. f x ≡ g x) xs → greatest_with f z xs ≡ greatest_with g z xs
  unfolding greatest_with
  greatest_with_same z [] all = refl
  greatest_with_same z (x ∷ xs) all =
      let first = all 0 x (omega arith) in
      ap (λ y. greatest_with f (int_max z y) xs) first ∙ greatest_with_same (int_max z (g x)) xs (λ i d h. all (suc i) d (omega arith))

  pub greatest_same : (xs : List X) → All (λ x. f x ≡ g x) xs → greatest_over f xs ≡ greatest_over g xs
  unfolding greatest_over
  greatest_same [] all = refl
  greatest_same (x ∷ xs) all =
      let first = all 0 x (omega arith) in
      ap (λ y. greatest_with f y xs) first ∙ greatest_with_same (g x) xs (λ i d h. all (suc i) d (omega arith))

-- ---- the least

least_two : (z y : ℤ) → (int_min z y ≡ z) ⊎ (int_min z y ≡ y)
least_two z y = by_lt_z z y (λ lt. inl (omega (arith, ints, clamps))) (λ le. inr (omega (arith, ints, clamps)))

module _ {X : Type 0} (f : X → ℤ) where
  least_start : (z : ℤ) (xs : List X) → least_with f z xs ≤ℤ z
  unfolding least_with
  least_start z [] = omega (arith, ints)
  least_start z (x ∷ xs) = let rest = least_start (int_min z (f x)) xs in omega (arith, ints, clamps)

  least_with_each : (z : ℤ) (xs : List X) → All (λ x. least_with f z xs ≤ℤ f x) xs
  unfolding least_with
  least_with_each z [] i d h = absurd (omega arith)
  least_with_each z (x ∷ xs) zero d h = let rest = least_start (int_min z (f x)) xs in omega (arith, ints, clamps)
  least_with_each z (x ∷ xs) (suc i) d h = least_with_each (int_min z (f x)) xs i d (omega arith)

  least_with_cap : (z c : ℤ) (xs : List X) → c ≤ℤ z → All (λ x. c ≤ℤ f x) xs → c ≤ℤ least_with f z xs
  unfolding least_with
  least_with_cap z c [] h all = h
  least_with_cap z c (x ∷ xs) h all =
      let first = all 0 x (omega arith) in
      least_with_cap (int_min z (f x)) c xs (omega (arith, ints, clamps)) (λ i d k. all (suc i) d (omega arith))

  least_with_some : (z : ℤ) (xs : List X) → (least_with f z xs ≡ z) ⊎ Any (λ x. f x ≡ least_with f z xs) xs
  unfolding least_with
  least_with_some z [] = inl refl
  least_with_some z (x ∷ xs) = ⊎_elim
      (λ e. ⊎_elim (λ one. inl (e ∙ one)) (λ two. inr (0, x, omega arith, refl, sym (e ∙ two))) (least_two z (f x)))
      (λ any. inr (any_later x xs any))
      (least_with_some (int_min z (f x)) xs)

  -- of some elements
  pub least_each : (xs : List X) → All (λ x. least_over f xs ≤ℤ f x) xs
  unfolding least_over
  least_each [] i d h = absurd (omega arith)
  least_each (x ∷ xs) zero d h = least_start (f x) xs
  least_each (x ∷ xs) (suc i) d h = least_with_each (f x) xs i d (omega arith)

  pub least_cap : (c : ℤ) (xs : List X) → 0 < length xs → All (λ x. c ≤ℤ f x) xs → c ≤ℤ least_over f xs
  unfolding least_over
  least_cap c [] some all = absurd (omega arith)
  least_cap c (x ∷ xs) some all = least_with_cap (f x) c xs (all 0 x (omega arith)) (λ i d k. all (suc i) d (omega arith))

  pub least_some : (xs : List X) → 0 < length xs → Any (λ x. f x ≡ least_over f xs) xs
  unfolding least_over
  least_some [] some = absurd (omega arith)
  least_some (x ∷ xs) some = ⊎_elim (λ e. (0, x, omega arith, refl, sym e)) (λ any. any_later x xs any) (least_with_some (f x) xs)

  -- as a loop takes them: from the first on, which counts twice
  pub least_begin : (xs : List X) (d : X) → 0 < length xs → least_with f (f (get_or xs 0 d)) xs ≡ least_over f xs
  unfolding least_with least_over
  least_begin [] d some = absurd (omega arith)
  least_begin (x ∷ xs) d some = let same : int_min (f x) (f x) ≡ f x = omega (arith, ints, clamps) in ap (λ z. least_with f z xs) same

  pub least_more : (z next : ℤ) (xs : List X) (i : ℕ) (d : X) → i < length xs → next ≡ int_min z (f (get_or xs i d)) → least_with f z (drop i xs) ≡ least_with f next (drop (i + 1) xs)
  unfolding least_with
  least_more z next xs i d h e = at_drop_more (least_with f z) xs i d h ∙ ap (λ y. least_with f y (drop (i + 1) xs)) (sym e)

  pub least_end : (z : ℤ) (xs : List X) (i : ℕ) → length xs ≤ i → least_with f z (drop i xs) ≡ z
  unfolding least_with
  least_end z xs i h = at_drop_all (least_with f z) xs i h

-- two functions that agree, or lie one above the other, along a list
module _ {X : Type 0} (f g : X → ℤ) where
  pub least_rises : (xs : List X) → 0 < length xs → All (λ x. g x ≤ℤ f x) xs → least_over g xs ≤ℤ least_over f xs
  least_rises xs some all = least_cap f (least_over g xs) xs some (λ i d h. let a = all i d h in let b = least_each g xs i d h in omega (arith, ints))

  least_with_same : (z : ℤ) (xs : List X) → All (λ x. f x ≡ g x) xs → least_with f z xs ≡ least_with g z xs
  unfolding least_with
  least_with_same z [] all = refl
  least_with_same z (x ∷ xs) all =
      let first = all 0 x (omega arith) in
      ap (λ y. least_with f (int_min z y) xs) first ∙ least_with_same (int_min z (g x)) xs (λ i d h. all (suc i) d (omega arith))

  pub least_same : (xs : List X) → All (λ x. f x ≡ g x) xs → least_over f xs ≡ least_over g xs
  unfolding least_over
  least_same [] all = refl
  least_same (x ∷ xs) all =
      let first = all 0 x (omega arith) in
      ap (λ y. least_with f y xs) first ∙ least_with_same (g x) xs (λ i d h. all (suc i) d (omega arith))

-- ---- filtered lists and the one element

not_nil : {X : Type 0} (x : X) (xs : List X) → x ∷ xs ≡ [] → ⊥
not_nil x xs e = cc

module _ {X : Type 0} (p : X → Bool) where
  pub filter_yes : (x : X) (xs : List X) → p x ≡ true → filter p (x ∷ xs) ≡ x ∷ filter p xs
  filter_yes x xs t = (λ k. cond (t k) (x ∷ filter p xs) (filter p xs))

  pub filter_no : (x : X) (xs : List X) → p x ≡ false → filter p (x ∷ xs) ≡ filter p xs
  filter_no x xs f = (λ k. cond (f k) (x ∷ filter p xs) (filter p xs))

  pub filter_none : (xs : List X) → filter p xs ≡ [] → All (λ x. p x ≡ false) xs
  filter_none [] e = All-nil (λ x. p x ≡ false)
  filter_none (x ∷ xs) e = by_bool (p x)
      (λ t. absurd (not_nil x (filter p xs) (sym (filter_yes x xs t) ∙ e)))
      (λ f. All-cons (λ x. p x ≡ false) x xs f (filter_none xs (sym (filter_no x xs f) ∙ e)))

  -- what holds of each that passes holds of the filtered list
  pub filter_all : (P : X → Type 0) (xs : List X) → All (λ x. p x ≡ true → P x) xs → All P (filter p xs)
  filter_all P [] each = All-nil P
  filter_all P (x ∷ xs) each =
      let rest = filter_all P xs (λ i d h. each (suc i) d (omega arith)) in
      let A : List X → Type 0 = λ ys. All P ys in
      by_bool (p x)
      (λ t. subst A (sym (filter_yes x xs t)) (All-cons P x (filter p xs) (each 0 x (omega arith) t) rest))
      (λ f. subst A (sym (filter_no x xs f)) rest)

  pub filter_empty : (xs : List X) → All (λ x. p x ≡ false) xs → filter p xs ≡ []
  filter_empty [] each = refl
  filter_empty (x ∷ xs) each = filter_no x xs (each 0 x (omega arith)) ∙ filter_empty xs (λ i d h. each (suc i) d (omega arith))

-- two tests: what passes p passes q
module _ {X : Type 0} (p q : X → Bool) where
  pub filter_same : (xs : List X) → All (λ x. p x ≡ q x) xs → filter p xs ≡ filter q xs
  filter_same [] each = refl
  filter_same (x ∷ xs) each =
      let first = each 0 x (omega arith) in
      let rest = filter_same xs (λ i d h. each (suc i) d (omega arith)) in
      (λ k. cond (first k) (x ∷ rest k) (rest k))

  stays_false : (x : X) → (p x ≡ true → q x ≡ true) → q x ≡ false → p x ≡ false
  stays_false x follow f = by_bool (p x) (λ t. absurd (both_ways (q x) f (follow t))) (λ e. e)

  -- where one passes q, none or that one passes p
  pub filter_one : (y : X) (xs : List X) → All (λ x. p x ≡ true → q x ≡ true) xs → filter q xs ≡ y ∷ [] → (filter p xs ≡ []) ⊎ (filter p xs ≡ y ∷ [])
  filter_one y [] follow e = absurd (not_nil y [] (sym e))
  filter_one y (x ∷ xs) follow e =
      let later = λ (i : ℕ) (d : X) (h : i < length xs). follow (suc i) d (omega arith) in
      by_bool (q x)
      (λ t.
      let same : x ∷ filter q xs ≡ y ∷ [] = sym (filter_yes q x xs t) ∙ e in
      let head : x ≡ y = cc in
      let tail : filter q xs ≡ [] = cc in
      let none = filter_none q xs tail in
      let empty = filter_empty p xs (λ i d h. stays_false (get_or xs i d) (later i d h) (none i d h)) in
      by_bool (p x)
      (λ u. inr (filter_yes p x xs u ∙ (λ k. head k ∷ empty k)))
      (λ f. inl (filter_no p x xs f ∙ empty)))
      (λ f.
      let no = filter_no p x xs (stays_false x (follow 0 x (omega arith)) f) in
      ⊎_elim (λ e. inl (no ∙ e)) (λ e. inr (no ∙ e)) (filter_one y xs later (sym (filter_no q x xs f) ∙ e)))

-- the tells of the one element of a list
pub told_all : {X : Type 0} (f : X → Tell) (P : Tell → Type 0) (xs : List X) → All (λ x. P (f x)) xs → All P (told_of f (sole xs))
unfolding sole
told_all f P [] each = All-nil P
told_all f P (x ∷ []) each = All-one P (f x) (each 0 x (omega arith))
told_all f P (x ∷ y ∷ xs) each = All-nil P

-- as a loop finds it: what passes among the first i
one_of : {X : Type 0} (o : Option X) → sole (option_to_list o) ≡ o
unfolding sole
one_of None = refl
one_of (Some x) = refl

pub sole_found : {X : Type 0} (p : X → Bool) (xs : List X) (i : ℕ) (found : Option X) → length xs ≤ i → option_to_list found ≡ filter p (take i xs) → found ≡ sole (filter p xs)
sole_found p xs i found h e = sym (one_of found) ∙ ap sole (e ∙ ap (filter p) (take_all i xs h))

two_of : {X : Type 0} (o : Option X) (y : X) (ys : List X) → is_some o ≡ true → None ≡ sole ((option_to_list o ++ y ∷ []) ++ ys)
unfolding sole
two_of None y ys e = absurd (false≢true e)
two_of (Some x) y ys e = refl

pub sole_none : {X : Type 0} (p : X → Bool) (xs : List X) (i : ℕ) (d : X) (found : Option X) → i < length xs → option_to_list found ≡ filter p (take i xs)
    → is_some found ≡ true → p (get_or xs i d) ≡ true → None ≡ sole (filter p xs)
sole_none p xs i d found h e some passes =
    let y = get_or xs i d in
    let rest = filter p (drop (i + 1) xs) in
    let front : filter p (take (i + 1) xs) ≡ option_to_list found ++ y ∷ [] = filter_more p xs i d h ∙ (λ k. sym e k ++ cond (passes k) (y ∷ []) []) in
    let whole : filter p xs ≡ (option_to_list found ++ y ∷ []) ++ rest = ap (filter p) (sym (take-append-drop (i + 1) xs)) ∙ (filter-append p (take (i + 1) xs) (drop (i + 1) xs) ∙ ap (λ ys. ys ++ rest) front) in
    two_of found y rest some ∙ ap sole (sym whole)

pub sole_cases : {X : Type 0} (P : Option X → Type 0) (xs : List X) → P None → ((x : X) → xs ≡ x ∷ [] → P (Some x)) → P (sole xs)
unfolding sole
sole_cases P [] none one = none
sole_cases P (x ∷ []) none one = one x refl
sole_cases P (x ∷ y ∷ xs) none one = none
