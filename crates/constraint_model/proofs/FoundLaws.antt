-- Numbers that are found by their value stay found.
use Rattle.std.proofs.Common.{◌≡◌, ℕ, zero, suc, ◌+◌, ◌<◌, ◌≤◌, not, slice_get, ℤ, List, [], ◌∷◌, ◌++◌, length, take, Bool, true, false, ◌||◌, cond, Some, None, refl, ap, ◌∙◌, sym, subst, arith}
use Rattle.std.specs.List.{list_any, position_or_len}
use Rattle.std.specs.Ordering.{int_eq}
use Rattle.std.proofs.lemmas.Bool.Decides.{Decides-int_eq}
use Rattle.std.proofs.lemmas.List.Sums.{prefix_len-le-length}
use Rattle.constraint_model.specs.Fits.{add_once}
use Rattle.constraint_model.specs.declared.places.Places.{Places}
use Rattle.constraint_model.specs.Places.{found_in, Puts}
use Rattle.constraint_model.specs.Found.{Finds}

absurd_bool : {A : Type 0} → true ≡ false → A
absurd_bool h = absurd (let k : true ≡ false = h in cc)

-- ---- the first place of a number, where lists are put together

module _ (p : ℤ → Bool) where
  -- what one list more has in front
  step_there : (b : Bool) (rest : Bool) (place more : ℕ) → (rest ≡ true → place ≡ more) → (b || rest) ≡ true → cond (not b) (1 + place) 0 ≡ cond (not b) (1 + more) 0
  step_there true rest place more f h = refl
  step_there false rest place more f h = ap (λ n. 1 + n) (f h)

  -- what is there stands where it stood, with more behind
  has_more : (xs ys : List ℤ) → list_any p xs ≡ true → position_or_len p (xs ++ ys) ≡ position_or_len p xs
  has_more [] ys h = absurd (let k : false ≡ true = h in cc)
  has_more (x ∷ xs) ys h = step_there (p x) (list_any p xs) (position_or_len p (xs ++ ys)) (position_or_len p xs) (has_more xs ys) h

  step_last : (b rest : Bool) (place count : ℕ) → (rest ≡ false → place ≡ count) → (b || rest) ≡ false → cond (not b) (1 + place) 0 ≡ suc count
  step_last true rest place count f h = absurd_bool h
  step_last false rest place count f h = omega (arith, f h)

  first_last : (b : Bool) → b ≡ true → cond (not b) (1 + 0) 0 ≡ 0
  first_last true e = refl
  first_last false e = absurd_bool (sym e)

  -- what wasn't there comes last
  comes_last : (xs : List ℤ) (y : ℤ) → list_any p xs ≡ false → p y ≡ true → position_or_len p (xs ++ y ∷ []) ≡ length xs
  comes_last [] y h e = first_last (p y) e
  comes_last (x ∷ xs) y h e = step_last (p x) (list_any p xs) (position_or_len p (xs ++ y ∷ [])) (length xs) (λ k. comes_last xs y k e) h

  -- where none is there, the place is the length
  none_there : (xs : List ℤ) → list_any p xs ≡ false → position_or_len p xs ≡ length xs
  none_there [] h = refl
  none_there (x ∷ xs) h = step_last (p x) (list_any p xs) (position_or_len p xs) (length xs) (none_there xs) h

  step_any : (b rest more : Bool) → (rest ≡ true → more ≡ true) → (b || rest) ≡ true → (b || more) ≡ true
  step_any true rest more f h = refl
  step_any false rest more f h = f h

  only_one : (b : Bool) → b ≡ false → (b || false) ≡ true → false ≡ true
  only_one true e h = absurd_bool e
  only_one false e h = h

  -- what doesn't pass isn't the one that was added
  was_there : (xs : List ℤ) (y : ℤ) → p y ≡ false → list_any p (xs ++ y ∷ []) ≡ true → list_any p xs ≡ true
  was_there [] y e h = only_one (p y) e h
  was_there (x ∷ xs) y e h = step_any (p x) (list_any p (xs ++ y ∷ [])) (list_any p xs) (was_there xs y e) h

  -- what is in the front is in the whole, at the same place
  front_there : (k : ℕ) (xs : List ℤ) → list_any p (take k xs) ≡ true → list_any p xs ≡ true
  front_there zero xs h = absurd_bool (sym h)
  front_there (suc k) [] h = absurd_bool (sym h)
  front_there (suc k) (x ∷ xs) h = step_any (p x) (list_any p (take k xs)) (list_any p xs) (front_there k xs) h

  front_place : (k : ℕ) (xs : List ℤ) → list_any p (take k xs) ≡ true → position_or_len p xs ≡ position_or_len p (take k xs)
  front_place zero xs h = absurd_bool (sym h)
  front_place (suc k) [] h = absurd_bool (sym h)
  front_place (suc k) (x ∷ xs) h = step_there (p x) (list_any p (take k xs)) (position_or_len p xs) (position_or_len p (take k xs)) (front_place k xs) h

  step_past : (b rest : Bool) (place count : ℕ) → (count ≤ place → rest ≡ false) → suc count ≤ cond (not b) (1 + place) 0 → (b || rest) ≡ false
  step_past true rest place count f h = absurd (let k : suc count ≤ 0 = h in omega arith)
  step_past false rest place count f h = f (let k : suc count ≤ 1 + place = h in omega arith)

  -- whose place is past the others isn't there
  past_all : (xs : List ℤ) → length xs ≤ position_or_len p xs → list_any p xs ≡ false
  past_all [] h = refl
  past_all (x ∷ xs) h = step_past (p x) (list_any p xs) (position_or_len p xs) (length xs) (past_all xs) h

  -- whose place is before the end is there
  before_end : (xs : List ℤ) → position_or_len p xs < length xs → list_any p xs ≡ true
  before_end xs h = by (list_any p xs) refl
    where
      by : (b : Bool) → list_any p xs ≡ b → list_any p xs ≡ true
      by true e = e
      by false e = absurd (let k : position_or_len p xs ≡ length xs = none_there xs e in omega arith)

-- ---- what is found

same : (a b : ℤ) → int_eq a b ≡ true → a ≡ b
same a b e = (Decides-int_eq a b).0 e

pub finds_none : (m : Places) → Finds m []
finds_none m = record { at_first = λ n h. absurd_bool (sym h) }

pub finds_front : (m : Places) (xs : List ℤ) (k : ℕ) → Finds m xs → Finds m (take k xs)
finds_front m xs k f =
    record { at_first = λ n h. f.at_first n (front_there (int_eq n) k xs h) ∙ ap Some (front_place (int_eq n) k xs h) }

-- a number that isn't there may be put anywhere
pub finds_stale : (m n : Places) (xs : List ℤ) (x : ℤ) (k : ℕ) → Finds m xs → list_any (int_eq x) xs ≡ false → Puts m x k n → Finds n xs
finds_stale m n xs x k f lacks u = record { at_first = λ q h. (u q) ∙ by q h (int_eq x q) refl }
  where
    by : (q : ℤ) → list_any (int_eq q) xs ≡ true → (b : Bool) → int_eq x q ≡ b → cond b (Some k) (found_in m q) ≡ Some (position_or_len (int_eq q) xs)
    by q h true e = absurd_bool (sym h ∙ ap (λ y. list_any (int_eq y) xs) (sym (same x q e)) ∙ lacks)
    by q h false e = f.at_first q h

other : (x q : ℤ) → int_eq x q ≡ false → int_eq q x ≡ false
other x q e = by (int_eq q x) refl
  where
    by : (b : Bool) → int_eq q x ≡ b → int_eq q x ≡ false
    by true d = absurd_bool (sym ((Decides-int_eq x q).1 (sym (same q x d))) ∙ e)
    by false d = d

-- put at the end, it is found there
pub finds_more : (m n : Places) (xs : List ℤ) (x : ℤ) (k : ℕ) → k ≡ length xs → Finds m xs → list_any (int_eq x) xs ≡ false → Puts m x k n → Finds n (xs ++ x ∷ [])
finds_more m n xs x k last f lacks u = record { at_first = λ q h. (u q) ∙ by q h (int_eq x q) refl }
  where
    there : (q : ℤ) → list_any (int_eq q) (xs ++ x ∷ []) ≡ true → int_eq x q ≡ false → list_any (int_eq q) xs ≡ true
    there q h e = was_there (int_eq q) xs x (other x q e) h

    by : (q : ℤ) → list_any (int_eq q) (xs ++ x ∷ []) ≡ true → (b : Bool) → int_eq x q ≡ b → cond b (Some k) (found_in m q) ≡ Some (position_or_len (int_eq q) (xs ++ x ∷ []))
    by q h true e = ap Some (last ∙ sym (comes_last (int_eq q) xs x (subst (λ y. list_any (int_eq y) xs ≡ false) (same x q e) lacks) ((Decides-int_eq q x).1 (sym (same x q e)))))
    by q h false e = f.at_first q (there q h e) ∙ ap Some (sym (has_more (int_eq q) xs (x ∷ []) (there q h e)))

-- ---- where a number is

step_standing : (b rest : Bool) → rest ≡ true → (b || rest) ≡ true
step_standing true rest h = refl
step_standing false rest h = h

same_one : (n x : ℤ) (rest : Bool) → Some x ≡ Some n → (int_eq n x || rest) ≡ true
same_one n x rest h = ap (λ b. b || rest) ((Decides-int_eq n x).1 (let k : Some x ≡ Some n = h in cc))

-- what stands at a place is there
standing : (n : ℤ) (xs : List ℤ) (i : ℕ) → slice_get xs i ≡ Some n → list_any (int_eq n) xs ≡ true
standing n [] i h = absurd (let k : None ≡ Some n = h in cc)
standing n (x ∷ xs) zero h = same_one n x (list_any (int_eq n) xs) h
standing n (x ∷ xs) (suc i) h = step_standing (int_eq n x) (list_any (int_eq n) xs) (standing n xs i h)

step_first : (n x : ℤ) (xs : List ℤ) (b : Bool) (place : ℕ) → int_eq n x ≡ b → (list_any (int_eq n) xs ≡ true → slice_get xs place ≡ Some n) → (b || list_any (int_eq n) xs) ≡ true → slice_get (x ∷ xs) (cond (not b) (1 + place) 0) ≡ Some n
step_first n x xs true place e f h = ap Some (sym (same n x e))
step_first n x xs false place e f h =
    let after : suc place ≡ 1 + place = omega arith in
    subst (λ k. slice_get (x ∷ xs) k ≡ Some n) after (f h)

-- what is there stands at its first place
at_first_place : (n : ℤ) (xs : List ℤ) → list_any (int_eq n) xs ≡ true → slice_get xs (position_or_len (int_eq n) xs) ≡ Some n
at_first_place n [] h = absurd_bool (sym h)
at_first_place n (x ∷ xs) h = step_first n x xs (int_eq n x) (position_or_len (int_eq n) xs) refl (at_first_place n xs) h

one_some : (i j : ℕ) → Some i ≡ Some j → i ≡ j
one_some i j h = cc

pub stands_first : (m : Places) (xs : List ℤ) (z n : ℤ) (i : ℕ) → z ≡ n → Finds m xs → Some i ≡ found_in m z → slice_get xs i ≡ Some n → i ≡ position_or_len (int_eq n) xs
stands_first m xs z n i e f g s =
    one_some i (position_or_len (int_eq n) xs) (g ∙ ap (found_in m) e ∙ f.at_first n (standing n xs i s))

pub absent_last : (m : Places) (xs : List ℤ) (z n : ℤ) → z ≡ n → Finds m xs → None ≡ found_in m z → length xs ≡ position_or_len (int_eq n) xs
absent_last m xs z n e f g = by (list_any (int_eq n) xs) refl
  where
    by : (b : Bool) → list_any (int_eq n) xs ≡ b → length xs ≡ position_or_len (int_eq n) xs
    by true h = absurd (let k : None ≡ Some (position_or_len (int_eq n) xs) = g ∙ ap (found_in m) e ∙ f.at_first n h in cc)
    by false h = sym (none_there (int_eq n) xs h)

pub strayed_last : (m : Places) (xs : List ℤ) (z n : ℤ) (i : ℕ) → z ≡ n → Finds m xs → Some i ≡ found_in m z → (slice_get xs i ≡ Some n → ⊥) → length xs ≡ position_or_len (int_eq n) xs
strayed_last m xs z n i e f g s = by (list_any (int_eq n) xs) refl
  where
    by : (b : Bool) → list_any (int_eq n) xs ≡ b → length xs ≡ position_or_len (int_eq n) xs
    by true h = absurd (s (subst (λ j. slice_get xs j ≡ Some n) (sym (one_some i (position_or_len (int_eq n) xs) (g ∙ ap (found_in m) e ∙ f.at_first n h))) (at_first_place n xs h)))
    by false h = sym (none_there (int_eq n) xs h)

pub place_within : (s : List ℤ) (n : ℤ) (place : ℕ) → place ≡ position_or_len (int_eq n) s → place ≤ length s
place_within s n place at = omega (arith, at, prefix_len-le-length (λ x. not (int_eq n x)) s)

-- ---- what is added

pub lacks_it : (xs s : List ℤ) (z : ℤ) (p count : ℕ) → xs ≡ s → p ≡ position_or_len (int_eq z) s → count ≡ length s → count ≤ p → list_any (int_eq z) xs ≡ false
lacks_it xs s z p count e at last past =
    ap (list_any (int_eq z)) e ∙ past_all (int_eq z) s (omega (arith, at, last, past))

pub kept_once : (s : List ℤ) (z n : ℤ) (p count : ℕ) → z ≡ n → p ≡ position_or_len (int_eq z) s → count ≡ length s → p < count → s ≡ add_once s n
kept_once s z n p count e at last before =
    ap (λ b. cond b s (s ++ n ∷ [])) (sym (before_end (int_eq n) s (omega (arith, at ∙ ap (λ y. position_or_len (int_eq y) s) e, last, before))))

pub put_last : (xs s : List ℤ) (z n : ℤ) (p count : ℕ) → z ≡ n → xs ≡ s → p ≡ position_or_len (int_eq z) s → count ≡ length s → count ≤ p → xs ++ z ∷ [] ≡ add_once s n
put_last xs s z n p count e f at last past =
    ap (λ l. l ++ z ∷ []) f ∙ ap (λ y. s ++ y ∷ []) e
    ∙ ap (λ b. cond b s (s ++ n ∷ [])) (sym (lacks_it s s n p count refl (at ∙ ap (λ y. position_or_len (int_eq y) s) e) last past))
