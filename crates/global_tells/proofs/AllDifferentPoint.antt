-- A point is closed under all-different exactly where no two places have one number.
use Rattle.std.proofs.Common.{◌≡◌, ◌≢◌, ℕ, zero, suc, ◌+◌, ◌<◌, ◌≤◌, List, [], ◌∷◌, length, get_or, Bool, true, false, not, count_by, unsigned_abs, ℤ, pos, ◌+ℤ◌, ◌-ℤ◌, ◌≤ℤ◌, ◌<ℤ◌, refl, sym, ⊎_elim, arith}
use Rattle.std.proofs.lemmas.Int.{ints}
use Rattle.std.proofs.lemmas.Bool.{both_ways, not-true, cases_lt, and_parts, and_from}
use Rattle.std.proofs.lemmas.List.Elements.{All-append}
use Rattle.std.specs.Int.RustNames.{int_lt, int_le}
use Rattle.std.specs.Prelude.{◌&&◌}
use Rattle.std.specs.Ordering.{int_eq}
use Rattle.std.specs.List.{All, flat_map}
use Rattle.interval.specs.Limits.{ClampOrder}
use Rattle.interval.specs.Boxes.{Bounds, low_of, high_of}
use Rattle.tells.specs.Words.{low_tell, high_tell, when, Keeps, IsProperIn}
use Rattle.global_tells.specs.Ranges.{is_from_to, none_tells}
use Rattle.global_tells.specs.AllDifferent.{is_inside, places_inside, outside_tells, numbers_between, range_tells, all_different_tells}
use Rattle.global_tells.proofs.Lists.{All-flat_map, All-when}
use Rattle.global_tells.proofs.AllDifferentLaws.{int_cases, some_or_none, count_step, count_more, count_one_more, count_none, digit_true, step_more, inside_then, then_inside, from_to_then, width_of, hall}

-- two places that pass count twice
count_two : (p : ℕ → Bool) (xs : List ℕ) (i j : ℕ) → i < j → j < length xs → p (get_or xs i 0) ≡ true → p (get_or xs j 0) ≡ true → 2 ≤ count_by p xs
count_two p xs i j less l a b =
    let one = count_one_more (λ x. false) p xs j l refl b (λ k h e. absurd (both_ways _ refl e)) in
    two p xs i j less l a b
  where
    some_one : (p : ℕ → Bool) (xs : List ℕ) (j : ℕ) → j < length xs → p (get_or xs j 0) ≡ true → 1 ≤ count_by p xs
    some_one p xs j l b = let more = count_one_more (λ x. false) p xs j l refl b (λ k h e. absurd (both_ways _ refl e)) in omega arith

    two : (p : ℕ → Bool) (xs : List ℕ) (i j : ℕ) → i < j → j < length xs → p (get_or xs i 0) ≡ true → p (get_or xs j 0) ≡ true → 2 ≤ count_by p xs
    two p [] i j less l a b = absurd (omega arith)
    two p (x ∷ xs) zero zero less l a b = absurd (omega arith)
    two p (x ∷ xs) (suc i) zero less l a b = absurd (omega arith)
    two p (x ∷ xs) zero (suc j) less l a b = let s = count_step p x xs in let d = digit_true (p x) a in let r = some_one p xs j (omega arith) b in omega arith
    two p (x ∷ xs) (suc i) (suc j) less l a b = let s = count_step p x xs in let r = two p xs i j (omega arith) (omega arith) a b in omega arith

-- where all but one place that pass the first test pass the second, it counts one more at most
count_but_one : (p q : ℕ → Bool) (xs : List ℕ) (k : ℕ) → k < length xs → ((i : ℕ) → i < length xs → i ≢ k → p (get_or xs i 0) ≡ true → q (get_or xs i 0) ≡ true) → count_by p xs ≤ count_by q xs + 1
count_but_one p q [] k l h = absurd (omega arith)
count_but_one p q (x ∷ xs) zero l h =
    let a = count_step p x xs in let b = count_step q x xs in
    let top = step_more (p x) true (λ _. refl) in
    let rest = count_more p q xs (λ i l e. h (suc i) (omega arith) (λ z. omega arith) e) in omega arith
count_but_one p q (x ∷ xs) (suc k) l h =
    let a = count_step p x xs in let b = count_step q x xs in
    let first = step_more (p x) (q x) (h 0 (omega arith) (λ z. omega arith)) in
    let rest = count_but_one p q xs k (omega arith) (λ i l ne e. h (suc i) (omega arith) (λ z. ne (omega arith)) e) in omega arith

module _ (b : Bounds) (xs : List ℕ) (point : (i : ℕ) → i < length xs → low_of b (get_or xs i 0) ≡ high_of b (get_or xs i 0)) where
  abbrev pub AreApart : Type 0
  AreApart = (i j : ℕ) → i < j → j < length xs → low_of b (get_or xs i 0) ≢ low_of b (get_or xs j 0)

  proper : IsProperIn xs b
  proper = λ i h. (let e = point i h in omega (arith, ints))

  pub closed_apart : ClampOrder → All (Keeps b) (all_different_tells xs b) → AreApart
  unfolding places_inside
  closed_apart clamped closed = λ i j less l e.
      let z = low_of b (get_or xs i 0) in
      let most = (hall clamped b xs proper closed 0 z z (omega (arith, ints))).0 in
      let f = point i (omega arith) in
      let g = point j l in
      let two = count_two (is_inside b z z) xs i j less l (then_inside b z z (get_or xs i 0) (omega (arith, ints)) (omega (arith, ints))) (then_inside b z z (get_or xs j 0) (omega (arith, ints)) (omega (arith, ints))) in
      absurd (omega arith)

  abbrev starts : ℤ → ℕ → Bool
  starts low x = int_le (low_of b x) low && int_le low (low_of b x)

  starts_then : (low : ℤ) (x : ℕ) → starts low x ≡ true → low_of b x ≡ low
  starts_then low x e = let p = and_parts (int_le (low_of b x) low) (int_le low (low_of b x)) e in let q = p.0 in let r = p.1 in omega (arith, ints)

  starts_true : (low : ℤ) (x : ℕ) → low ≤ℤ low_of b x → low_of b x ≤ℤ low → starts low x ≡ true
  starts_true low x p q =
      let f : true ≡ int_le (low_of b x) low = omega (arith, ints) in
      let g : true ≡ int_le low (low_of b x) = omega (arith, ints) in
      and_from (int_le (low_of b x) low) (int_le low (low_of b x)) (sym f) (sym g)

  no_place : (low high : ℤ) → high <ℤ low → places_inside b low high xs ≡ 0
  unfolding places_inside
  no_place low high less = count_none (is_inside b low high) xs (λ i h t.
      let p = inside_then b low high (get_or xs i 0) t in
      let q = p.0 in let r = p.1 in let own = point i h in omega (arith, ints))

  -- numbers that are apart are no more than a range has
  few : (n : ℕ) → ((m : ℕ) → n ≡ suc m → (low high : ℤ) → high ≡ low +ℤ pos m → places_inside b low high xs ≤ suc m) → AreApart → (low high : ℤ) → high ≡ low +ℤ pos n → places_inside b low high xs ≤ suc n
  unfolding places_inside
  few n next apart low high e = ⊎_elim
      (λ (x : (i : ℕ) × (i < length xs) × (starts low (get_or xs i 0) ≡ true)).
      let one = count_but_one (is_inside b low high) (is_inside b (low +ℤ pos 1) high) xs x.0 x.1 (λ i h ne t. later x.0 x.1 x.2 i h ne t) in
      let rest = shorter n refl in omega arith)
      (λ none.
      let one = count_more (is_inside b low high) (is_inside b (low +ℤ pos 1) high) xs (λ i h t. not_first i h (none i h) t) in
      let rest = shorter n refl in omega arith)
      (some_or_none (starts low) xs)
    where
      not_first : (i : ℕ) → i < length xs → starts low (get_or xs i 0) ≡ false → is_inside b low high (get_or xs i 0) ≡ true → is_inside b (low +ℤ pos 1) high (get_or xs i 0) ≡ true
      not_first i h out t =
          let x = get_or xs i 0 in
          let p = inside_then b low high x t in
          ⊎_elim
          (λ (more : low <ℤ low_of b x). then_inside b (low +ℤ pos 1) high x (omega (arith, ints)) p.1)
          (λ (le : low_of b x ≤ℤ low). absurd (both_ways _ out (starts_true low x p.0 le)))
          (int_cases low (low_of b x))

      two_apart : (i k : ℕ) → i < length xs → k < length xs → i ≢ k → low_of b (get_or xs i 0) ≡ low_of b (get_or xs k 0) → ⊥
      two_apart i k h l ne same = ⊎_elim
          (λ (less : i < k). apart i k less l same)
          (λ (ge : k ≤ i). ⊎_elim (λ (less : k < i). apart k i less h (sym same)) (λ (le : i ≤ k). ne (omega arith)) (cases_lt k i))
          (cases_lt i k)

      later : (k : ℕ) → k < length xs → starts low (get_or xs k 0) ≡ true → (i : ℕ) → i < length xs → i ≢ k → is_inside b low high (get_or xs i 0) ≡ true → is_inside b (low +ℤ pos 1) high (get_or xs i 0) ≡ true
      later k l first i h ne t =
          let x = get_or xs i 0 in
          let p = inside_then b low high x t in
          let q = starts_then low (get_or xs k 0) first in
          ⊎_elim
          (λ (more : low <ℤ low_of b x). then_inside b (low +ℤ pos 1) high x (omega (arith, ints)) p.1)
          (λ (le : low_of b x ≤ℤ low). (let a = p.0 in let same : low_of b x ≡ low_of b (get_or xs k 0) = omega (arith, ints) in absurd (two_apart i k h l ne same)))
          (int_cases low (low_of b x))

      shorter : (m : ℕ) → n ≡ m → count_by (is_inside b (low +ℤ pos 1) high) xs ≤ m
      shorter zero f = let z = no_place (low +ℤ pos 1) high (omega (arith, ints)) in omega arith
      shorter (suc m) f = next m f (low +ℤ pos 1) high (omega (arith, ints))

  few_all : AreApart → (n : ℕ) (low high : ℤ) → high ≡ low +ℤ pos n → places_inside b low high xs ≤ suc n
  few_all apart zero low high e = few zero (λ m q. absurd (omega arith)) apart low high e
  few_all apart (suc k) low high e = few (suc k) (λ m q lo hi f. (let r = few_all apart k lo hi (omega (arith, ints)) in omega arith)) apart low high e

  outside_kept : (low high : ℤ) → All (Keeps b) (flat_map (outside_tells b low high) xs)
  outside_kept low high = All-flat_map (Keeps b) (outside_tells b low high) xs 0 (λ k h.
      let x = get_or xs k 0 in
      let same = point k h in
      All-when (Keeps b) (not (is_inside b low high x)) _ (λ is_out.
      let out = not-true _ is_out in
      All-append (Keeps b) (when (is_from_to low high (low_of b x)) (low_tell x (high +ℤ pos 1) ∷ [])) (when (is_from_to low high (high_of b x)) (high_tell x (low -ℤ pos 1) ∷ []))
      (All-when (Keeps b) (is_from_to low high (low_of b x)) _ (λ f. (let p = from_to_then low high (low_of b x) f in let q = p.0 in let r = p.1 in absurd (both_ways _ out (then_inside b low high x q (omega (arith, ints)))))))
      (All-when (Keeps b) (is_from_to low high (high_of b x)) _ (λ f. (let p = from_to_then low high (high_of b x) f in let q = p.0 in let r = p.1 in absurd (both_ways _ out (then_inside b low high x (omega (arith, ints)) r)))))))

  pub apart_closed : AreApart → All (Keeps b) (all_different_tells xs b)
  apart_closed apart = All-flat_map (Keeps b) (λ x. flat_map (λ y. range_tells xs b (low_of b x) (high_of b y)) xs) xs 0 (λ i h.
      All-flat_map (Keeps b) (λ y. range_tells xs b (low_of b (get_or xs i 0)) (high_of b y)) xs 0 (λ j l. range_quiet (low_of b (get_or xs i 0)) (high_of b (get_or xs j 0))))
    where
      over_most : (n : ℕ) (low high : ℤ) → high ≡ low +ℤ pos n → int_lt (numbers_between low high) (pos (places_inside b low high xs)) ≡ true → places_inside b low high xs ≤ suc n → ⊥
      over_most n low high e over le = omega (arith, ints)

      not_over : (low high : ℤ) → int_le low high ≡ true → int_lt (numbers_between low high) (pos (places_inside b low high xs)) ≡ true → ⊥
      not_over low high t over =
          let le : low ≤ℤ high = omega (arith, ints) in
          let e = width_of low high le in
          let most = few_all apart (unsigned_abs (high -ℤ low)) low high e in
          over_most (unsigned_abs (high -ℤ low)) low high e over most

      range_quiet : (low high : ℤ) → All (Keeps b) (range_tells xs b low high)
      range_quiet low high = All-when (Keeps b) (int_le low high) _ (λ t.
          All-append (Keeps b) (when (int_lt (numbers_between low high) (pos (places_inside b low high xs))) (none_tells xs)) (when (int_eq (pos (places_inside b low high xs)) (numbers_between low high)) (flat_map (outside_tells b low high) xs))
          (All-when (Keeps b) (int_lt (numbers_between low high) (pos (places_inside b low high xs))) (none_tells xs) (λ over. absurd (not_over low high t over)))
          (All-when (Keeps b) (int_eq (pos (places_inside b low high xs)) (numbers_between low high)) (flat_map (outside_tells b low high) xs) (λ full. outside_kept low high)))
