-- Of a closed box no more places have all their numbers in a range than it has numbers.
use Rattle.std.proofs.Common.{◌≡◌, ◌⊎◌, ℕ, zero, suc, ◌+◌, ◌<◌, ◌≤◌, List, [], ◌∷◌, length, get_or, Bool, true, false, true≢false, cond, not, count_by, unsigned_abs, ℤ, pos, neg_ℤ, ◌+ℤ◌, ◌-ℤ◌, ◌≤ℤ◌, ◌<ℤ◌, refl, sym, subst, ⊎_elim, inl, inr, arith}
use Rattle.std.proofs.lemmas.Int.{ints}
use Rattle.std.proofs.lemmas.Bool.{and_from, and_cases, false_from_ne_true, not_from_false, not-true, and_parts, both_ways, cases_Bool, cases_lt}
use Rattle.std.proofs.lemmas.List.Sums.{sum_by-cons}
use Rattle.std.specs.Int.RustNames.{int_lt, int_le}
use Rattle.std.specs.Prelude.{◌&&◌}
use Rattle.std.proofs.lemmas.Bool.Decides.{Decides-int_eq}
use Rattle.std.specs.Ordering.{int_eq}
use Rattle.std.specs.List.{All, flat_map}
use Rattle.std.proofs.lemmas.List.Elements.{All-append}
use Rattle.tells.specs.declared.tell.Tell.{Tell}
use Rattle.interval.specs.Limits.{IsBound, bound_limit, largest_number, clamp_of, ClampOrder}
use Rattle.interval.specs.Boxes.{Bounds, low_of, high_of}
use Rattle.tells.specs.Words.{low_tell, high_tell, when, Keeps, IsProperIn, IsInsideIn}
use Rattle.global_tells.specs.Ranges.{is_from_to, none_tells}
use Rattle.global_tells.specs.AllDifferent.{is_inside, places_inside, outside_tells, numbers_between, range_tells, all_different_tells}
use Rattle.global_tells.proofs.Lists.{All-left, All-right, All-one, one-All, All-flat_map, flat_map-All, All-when, when-All}

-- some place passes the test, or none does
pub some_or_none : (test : ℕ → Bool) (xs : List ℕ) → ((i : ℕ) × (i < length xs) × (test (get_or xs i 0) ≡ true)) ⊎ ((i : ℕ) → i < length xs → test (get_or xs i 0) ≡ false)
some_or_none test [] = inr (λ i h. absurd (omega arith))
some_or_none test (x ∷ xs) = by_first (test x) refl (some_or_none test xs)
  where
    each : test x ≡ false → ((i : ℕ) → i < length xs → test (get_or xs i 0) ≡ false) → (i : ℕ) → i < length (x ∷ xs) → test (get_or (x ∷ xs) i 0) ≡ false
    each fails none zero h = fails
    each fails none (suc i) h = none i (omega arith)

    by_rest : test x ≡ false → ((i : ℕ) × (i < length xs) × (test (get_or xs i 0) ≡ true)) ⊎ ((i : ℕ) → i < length xs → test (get_or xs i 0) ≡ false) → ((i : ℕ) × (i < length (x ∷ xs)) × (test (get_or (x ∷ xs) i 0) ≡ true)) ⊎ ((i : ℕ) → i < length (x ∷ xs) → test (get_or (x ∷ xs) i 0) ≡ false)
    by_rest fails (inl s) = inl (suc s.0, (let h = s.1 in omega arith), s.2)
    by_rest fails (inr none) = inr (λ i h. each fails none i h)

    by_first : (t : Bool) → test x ≡ t → ((i : ℕ) × (i < length xs) × (test (get_or xs i 0) ≡ true)) ⊎ ((i : ℕ) → i < length xs → test (get_or xs i 0) ≡ false) → ((i : ℕ) × (i < length (x ∷ xs)) × (test (get_or (x ∷ xs) i 0) ≡ true)) ⊎ ((i : ℕ) → i < length (x ∷ xs) → test (get_or (x ∷ xs) i 0) ≡ false)
    by_first true e rest = inl (0, omega arith, e)
    by_first false e rest = by_rest e rest

pub count_step : (p : ℕ → Bool) (x : ℕ) (xs : List ℕ) → count_by p (x ∷ xs) ≡ cond (p x) 1 0 + count_by p xs
count_step p x xs = sum_by-cons (λ y. cond (p y) 1 0) x xs

pub step_more : (a b : Bool) → (a ≡ true → b ≡ true) → cond a 1 0 ≤ cond b 1 0
step_more false b h = omega arith
step_more true true h = omega arith
step_more true false h = absurd (true≢false (sym (h refl)))

pub count_more : (p q : ℕ → Bool) (xs : List ℕ) → ((i : ℕ) → i < length xs → p (get_or xs i 0) ≡ true → q (get_or xs i 0) ≡ true) → count_by p xs ≤ count_by q xs
count_more p q [] h = omega arith
count_more p q (x ∷ xs) h =
    let a = count_step p x xs in
    let b = count_step q x xs in
    let first = step_more (p x) (q x) (h 0 (omega arith)) in
    let rest = count_more p q xs (λ i l. h (suc i) (omega arith)) in
    omega arith

pub digit_true : (b : Bool) → b ≡ true → cond {A = ℕ} b 1 0 ≡ 1
digit_true true e = refl
digit_true false e = absurd (true≢false (sym e))

digit_false : (b : Bool) → b ≡ false → cond {A = ℕ} b 1 0 ≡ 0
digit_false false e = refl
digit_false true e = absurd (true≢false e)

pub count_one_more : (p q : ℕ → Bool) (xs : List ℕ) (k : ℕ) → k < length xs → p (get_or xs k 0) ≡ false → q (get_or xs k 0) ≡ true → ((i : ℕ) → i < length xs → p (get_or xs i 0) ≡ true → q (get_or xs i 0) ≡ true) → count_by p xs + 1 ≤ count_by q xs
count_one_more p q [] k l out in_ h = absurd (omega arith)
count_one_more p q (x ∷ xs) zero l out in_ h =
    let a = count_step p x xs in
    let b = count_step q x xs in
    let c = digit_false (p x) out in
    let d = digit_true (q x) in_ in
    let rest = count_more p q xs (λ i l. h (suc i) (omega arith)) in
    omega arith
count_one_more p q (x ∷ xs) (suc k) l out in_ h =
    let a = count_step p x xs in
    let b = count_step q x xs in
    let first = step_more (p x) (q x) (h 0 (omega arith)) in
    let rest = count_one_more p q xs k (omega arith) out in_ (λ i l. h (suc i) (omega arith)) in
    omega arith

pub count_none : (p : ℕ → Bool) (xs : List ℕ) → ((i : ℕ) → i < length xs → p (get_or xs i 0) ≡ true → ⊥) → count_by p xs ≡ 0
count_none p xs h = let a = count_more p (λ x. false) xs (λ i l e. absurd (h i l e)) in let b = never xs in omega arith
  where
    never : (xs : List ℕ) → count_by (λ (x : ℕ). false) xs ≡ 0
    never [] = refl
    never (x ∷ xs) = let r = never xs in let s = count_step (λ x. false) x xs in omega arith

-- the test
pub inside_then : (b : Bounds) (low high : ℤ) (x : ℕ) → is_inside b low high x ≡ true → (low ≤ℤ low_of b x) × (high_of b x ≤ℤ high)
unfolding is_inside
inside_then b low high x e = let p = and_parts (int_le low (low_of b x)) (int_le (high_of b x) high) e in let q = p.0 in let r = p.1 in (omega (arith, ints), omega (arith, ints))

pub then_inside : (b : Bounds) (low high : ℤ) (x : ℕ) → low ≤ℤ low_of b x → high_of b x ≤ℤ high → is_inside b low high x ≡ true
unfolding is_inside
then_inside b low high x p q =
    let f : true ≡ int_le low (low_of b x) = omega (arith, ints) in
    let g : true ≡ int_le (high_of b x) high = omega (arith, ints) in
    and_from (int_le low (low_of b x)) (int_le (high_of b x) high) (sym f) (sym g)

-- ---- a closed box

module _ (clamped : ClampOrder) (g : Bounds) (xs : List ℕ) (proper : IsProperIn xs g) (closed : All (Keeps g) (all_different_tells xs g)) where
  pub at_places : (i j : ℕ) → i < length xs → j < length xs → All (Keeps g) (range_tells xs g (low_of g (get_or xs i 0)) (high_of g (get_or xs j 0)))
  at_places i j hi hj =
      flat_map-All (Keeps g) (λ y. range_tells xs g (low_of g (get_or xs i 0)) (high_of g y)) xs 0
      (flat_map-All (Keeps g) (λ x. flat_map (λ y. range_tells xs g (low_of g x) (high_of g y)) xs) xs 0 closed i hi) j hj

  none_kept : (ys : List ℕ) → IsProperIn ys g → 0 < length ys → All (Keeps g) (none_tells ys) → ⊥
  unfolding none_tells bound_limit largest_number
  none_kept [] p h all = absurd (omega arith)
  none_kept (y ∷ ys) p h all =
      let own = p 0 (omega arith) in
      let low = all 0 (low_tell y (pos bound_limit)) (omega arith) in
      let high = all 1 (high_tell y (neg_ℤ (pos bound_limit))) (omega arith) in
      let a : clamp_of (pos bound_limit) ≡ pos bound_limit = clamped.same (pos bound_limit) (omega arith) in
      let b : clamp_of (neg_ℤ (pos bound_limit)) ≡ neg_ℤ (pos bound_limit) = clamped.same (neg_ℤ (pos bound_limit)) (omega arith) in
      omega (arith, ints)

  -- the range begins where a place does and ends where one does
  pub record Tight (low high : ℤ) : Type 0 where
    pub i : ℕ
    pub j : ℕ
    pub i_inside : i < length xs
    pub j_inside : j < length xs
    pub begins : low_of g (get_or xs i 0) ≡ low
    pub ends : high_of g (get_or xs j 0) ≡ high

  abbrev pub Bounded : ℕ → ℤ → ℤ → Type 0
  Bounded n low high = (places_inside g low high xs ≤ suc n) × (places_inside g low high xs ≡ suc n → Tight low high)

  too_many_at : (n : ℕ) (low high : ℤ) → high ≡ low +ℤ pos n → (i j : ℕ) → i < length xs → j < length xs → low_of g (get_or xs i 0) ≡ low → high_of g (get_or xs j 0) ≡ high → suc n < places_inside g low high xs → ⊥
  too_many_at n low high e i j hi hj b f more =
      let all = at_places i j hi hj in
      let there = subst (λ (z : ℤ). All (Keeps g) (range_tells xs g z (high_of g (get_or xs j 0)))) b all in
      let here = subst (λ (z : ℤ). All (Keeps g) (range_tells xs g low z)) f there in
      let some : true ≡ int_le low high = omega (arith, ints) in
      let inner = when-All (Keeps g) (int_le low high) _ (sym some) here in
      let over : true ≡ int_lt (numbers_between low high) (pos (places_inside g low high xs)) = omega (arith, ints) in
      none_kept xs proper (omega arith) (when-All (Keeps g) (int_lt (numbers_between low high) (pos (places_inside g low high xs))) (none_tells xs) (sym over) (All-left (Keeps g) _ _ inner))

  tight_bounded : (n : ℕ) (low high : ℤ) → high ≡ low +ℤ pos n → Tight low high → Bounded n low high
  tight_bounded n low high e t = (
    ⊎_elim
        (λ (more : suc n < places_inside g low high xs). absurd (too_many_at n low high e t.i t.j t.i_inside t.j_inside t.begins t.ends more))
        (λ (le : places_inside g low high xs ≤ suc n). le)
        (cases_lt (suc n) (places_inside g low high xs)),
    λ _. t,
  )

  -- where no place begins with the range, the range without its first number has as many places
  no_start : (low high : ℤ) → ((i : ℕ) → i < length xs → (is_inside g low high (get_or xs i 0) && int_le (low_of g (get_or xs i 0)) low) ≡ false) → places_inside g low high xs ≤ places_inside g (low +ℤ pos 1) high xs
  unfolding places_inside
  no_start low high none = count_more (is_inside g low high) (is_inside g (low +ℤ pos 1) high) xs (λ i h t.
      let x = get_or xs i 0 in
      let p = inside_then g low high x t in
      let out = ⊎_elim (λ (no : is_inside g low high x ≡ false). absurd (both_ways _ no t)) (λ (no : int_le (low_of g x) low ≡ false). no) (and_cases (is_inside g low high x) (int_le (low_of g x) low) (none i h)) in
      let q = p.0 in
      let r = p.1 in
      then_inside g (low +ℤ pos 1) high x (omega (arith, ints)) r)

  no_end : (low high : ℤ) → ((i : ℕ) → i < length xs → (is_inside g low high (get_or xs i 0) && int_le high (high_of g (get_or xs i 0))) ≡ false) → places_inside g low high xs ≤ places_inside g low (high -ℤ pos 1) xs
  unfolding places_inside
  no_end low high none = count_more (is_inside g low high) (is_inside g low (high -ℤ pos 1)) xs (λ i h t.
      let x = get_or xs i 0 in
      let p = inside_then g low high x t in
      let out = ⊎_elim (λ (no : is_inside g low high x ≡ false). absurd (both_ways _ no t)) (λ (no : int_le high (high_of g x) ≡ false). no) (and_cases (is_inside g low high x) (int_le high (high_of g x)) (none i h)) in
      let q = p.0 in
      let r = p.1 in
      then_inside g low (high -ℤ pos 1) x q (omega (arith, ints)))

  -- a range that ends before it begins has no place
  empty_range : (low high : ℤ) → high <ℤ low → places_inside g low high xs ≡ 0
  unfolding places_inside
  empty_range low high less = count_none (is_inside g low high) xs (λ i h t.
      let x = get_or xs i 0 in
      let p = inside_then g low high x t in
      let q = p.0 in
      let r = p.1 in
      let own = proper i h in
      omega (arith, ints))

  fewer : (n : ℕ) (low high : ℤ) → places_inside g low high xs ≤ n → Bounded n low high
  fewer n low high le = (omega arith, λ e. absurd (omega arith))

  hall_step : (n : ℕ) (low high : ℤ) → high ≡ low +ℤ pos n → ((m : ℕ) → n ≡ suc m → (lo hi : ℤ) → hi ≡ lo +ℤ pos m → places_inside g lo hi xs ≤ suc m) → Bounded n low high
  hall_step n low high e next = ⊎_elim
      (λ (first : (i : ℕ) × (i < length xs) × ((is_inside g low high (get_or xs i 0) && int_le (low_of g (get_or xs i 0)) low) ≡ true)). ⊎_elim
      (λ (last : (j : ℕ) × (j < length xs) × ((is_inside g low high (get_or xs j 0) && int_le high (high_of g (get_or xs j 0))) ≡ true)). ends_there first last)
      (λ none. fewer n low high (shorter_end n refl none))
      (some_or_none (λ x. is_inside g low high x && int_le high (high_of g x)) xs))
      (λ none. fewer n low high (shorter_start n refl none))
      (some_or_none (λ x. is_inside g low high x && int_le (low_of g x) low) xs)
    where
      ends_there : ((i : ℕ) × (i < length xs) × ((is_inside g low high (get_or xs i 0) && int_le (low_of g (get_or xs i 0)) low) ≡ true)) → ((j : ℕ) × (j < length xs) × ((is_inside g low high (get_or xs j 0) && int_le high (high_of g (get_or xs j 0))) ≡ true)) → Bounded n low high
      ends_there first last =
          let x = get_or xs first.0 0 in
          let y = get_or xs last.0 0 in
          let p = and_parts (is_inside g low high x) (int_le (low_of g x) low) first.2 in
          let q = and_parts (is_inside g low high y) (int_le high (high_of g y)) last.2 in
          let a = (inside_then g low high x p.0).0 in
          let b = (inside_then g low high y q.0).1 in
          let c = p.1 in
          let d = q.1 in
          tight_bounded n low high e (record { i = first.0; j = last.0; i_inside = first.1; j_inside = last.1; begins = omega (arith, ints); ends = omega (arith, ints) })

      shorter_start : (m : ℕ) → n ≡ m → ((i : ℕ) → i < length xs → (is_inside g low high (get_or xs i 0) && int_le (low_of g (get_or xs i 0)) low) ≡ false) → places_inside g low high xs ≤ m
      shorter_start zero f none = let a = no_start low high none in let b = empty_range (low +ℤ pos 1) high (omega (arith, ints)) in omega arith
      shorter_start (suc m) f none = let a = no_start low high none in let b = next m f (low +ℤ pos 1) high (omega (arith, ints)) in omega arith

      shorter_end : (m : ℕ) → n ≡ m → ((i : ℕ) → i < length xs → (is_inside g low high (get_or xs i 0) && int_le high (high_of g (get_or xs i 0))) ≡ false) → places_inside g low high xs ≤ m
      shorter_end zero f none = let a = no_end low high none in let b = empty_range low (high -ℤ pos 1) (omega (arith, ints)) in omega arith
      shorter_end (suc m) f none = let a = no_end low high none in let b = next m f low (high -ℤ pos 1) (omega (arith, ints)) in omega arith

  pub hall : (n : ℕ) (low high : ℤ) → high ≡ low +ℤ pos n → Bounded n low high
  hall zero low high e = hall_step zero low high e (λ m q. absurd (omega arith))
  hall (suc k) low high e = hall_step (suc k) low high e (λ m q lo hi f. (let r = (hall k lo hi (omega (arith, ints))).0 in omega arith))

-- ---- small facts of numbers

pub int_cases : (y z : ℤ) → (y <ℤ z) ⊎ (z ≤ℤ y)
int_cases y z = ⊎_elim (λ (t : int_lt y z ≡ true). inl (omega (arith, ints))) (λ (f : int_lt y z ≡ false). inr (omega (arith, ints))) (cases_Bool (int_lt y z))

eq_then_same : (y z : ℤ) → int_eq y z ≡ true → y ≡ z
eq_then_same y z e = (Decides-int_eq y z).0 e

same_then_eq : (y z : ℤ) → y ≡ z → int_eq y z ≡ true
same_then_eq y z e = (Decides-int_eq y z).1 e

-- ---- monotone

pub width_of : (low high : ℤ) → low ≤ℤ high → high ≡ low +ℤ pos (unsigned_abs (high -ℤ low))
width_of low high le = omega (arith, ints)

-- the test of a number
pub from_to_then : (low high z : ℤ) → is_from_to low high z ≡ true → (low ≤ℤ z) × (z ≤ℤ high)
unfolding is_from_to
from_to_then low high z e = let p = and_parts (int_le low z) (int_le z high) e in let q = p.0 in let r = p.1 in (omega (arith, ints), omega (arith, ints))

pub then_from_to : (low high z : ℤ) → low ≤ℤ z → z ≤ℤ high → is_from_to low high z ≡ true
unfolding is_from_to
then_from_to low high z p q =
    let f : true ≡ int_le low z = omega (arith, ints) in
    let g : true ≡ int_le z high = omega (arith, ints) in
    and_from (int_le low z) (int_le z high) (sym f) (sym g)

module _ (clamped : ClampOrder) (xs : List ℕ) (inner outer : Bounds) (proper : IsProperIn xs inner) (inside : IsInsideIn xs inner outer) (bounds : (i : ℕ) → i < length xs → IsBound (low_of inner (get_or xs i 0)) × IsBound (high_of inner (get_or xs i 0))) (closed : All (Keeps inner) (all_different_tells xs inner)) where
  abbrev pub K : Tell → Type 0
  K = Keeps inner

  follows : (low high : ℤ) (i : ℕ) → i < length xs → is_inside outer low high (get_or xs i 0) ≡ true → is_inside inner low high (get_or xs i 0) ≡ true
  follows low high i h e =
      let x = get_or xs i 0 in
      let p = inside_then outer low high x e in
      let a = p.0 in
      let b = p.1 in
      let c = inside.lows i h in
      let d = inside.highs i h in
      then_inside inner low high x (omega (arith, ints)) (omega (arith, ints))

  no_more : (low high : ℤ) → places_inside outer low high xs ≤ places_inside inner low high xs
  unfolding places_inside
  no_more low high = count_more (is_inside outer low high) (is_inside inner low high) xs (follows low high)

  -- a place that is outside in the outer box is so in the inner one, where the range is full
  still_outside : (low high : ℤ) (k : ℕ) → k < length xs → places_inside inner low high xs ≤ places_inside outer low high xs → is_inside outer low high (get_or xs k 0) ≡ false → is_inside inner low high (get_or xs k 0) ≡ false
  unfolding places_inside
  still_outside low high k h full out = false_from_ne_true (is_inside inner low high (get_or xs k 0)) (λ yes.
      let more = count_one_more (is_inside outer low high) (is_inside inner low high) xs k h out yes (follows low high) in
      absurd (omega arith))

  low_kept : (low high : ℤ) (k : ℕ) → k < length xs → is_inside inner low high (get_or xs k 0) ≡ false → All K (outside_tells inner low high (get_or xs k 0)) → low ≤ℤ low_of outer (get_or xs k 0) → Keeps inner (low_tell (get_or xs k 0) (high +ℤ pos 1))
  low_kept low high k h out own from =
      let x = get_or xs k 0 in
      let y = low_of inner x in
      let c = inside.lows k h in
      ⊎_elim
      (λ (past : high <ℤ y). (let a = clamped.rises (high +ℤ pos 1) y (omega (arith, ints)) in let b = clamped.same y (bounds k h).0 in omega (arith, ints)))
      (λ (within : y ≤ℤ high).
      let there = when-All K (not (is_inside inner low high x)) _ (not_from_false _ out) own in
      let first = All-left K (when (is_from_to low high y) (low_tell x (high +ℤ pos 1) ∷ [])) (when (is_from_to low high (high_of inner x)) (high_tell x (low -ℤ pos 1) ∷ [])) there in
      one-All K (low_tell x (high +ℤ pos 1)) (when-All K (is_from_to low high y) (low_tell x (high +ℤ pos 1) ∷ []) (then_from_to low high y (omega (arith, ints)) within) first))
      (int_cases high y)

  high_kept : (low high : ℤ) (k : ℕ) → k < length xs → is_inside inner low high (get_or xs k 0) ≡ false → All K (outside_tells inner low high (get_or xs k 0)) → high_of outer (get_or xs k 0) ≤ℤ high → Keeps inner (high_tell (get_or xs k 0) (low -ℤ pos 1))
  high_kept low high k h out own upto =
      let x = get_or xs k 0 in
      let y = high_of inner x in
      let c = inside.highs k h in
      ⊎_elim
      (λ (past : y <ℤ low). (let a = clamped.rises y (low -ℤ pos 1) (omega (arith, ints)) in let b = clamped.same y (bounds k h).1 in omega (arith, ints)))
      (λ (within : low ≤ℤ y).
      let there = when-All K (not (is_inside inner low high x)) _ (not_from_false _ out) own in
      let second = All-right K (when (is_from_to low high (low_of inner x)) (low_tell x (high +ℤ pos 1) ∷ [])) (when (is_from_to low high y) (high_tell x (low -ℤ pos 1) ∷ [])) there in
      one-All K (high_tell x (low -ℤ pos 1)) (when-All K (is_from_to low high y) (high_tell x (low -ℤ pos 1) ∷ []) (then_from_to low high y within (omega (arith, ints))) second))
      (int_cases y low)

  -- the tells of a full range
  full_kept : (n : ℕ) (low high : ℤ) → high ≡ low +ℤ pos n → pos (places_inside outer low high xs) ≡ numbers_between low high → All K (flat_map (outside_tells outer low high) xs)
  full_kept n low high e full =
      let bound = hall clamped inner xs proper closed n low high e in
      let more = no_more low high in
      let most = bound.0 in
      let is : places_inside outer low high xs ≡ suc n = omega (arith, ints) in
      let tight = bound.1 (omega arith) in
      let all = at_places clamped inner xs proper closed tight.i tight.j tight.i_inside tight.j_inside in
      let there = subst (λ (z : ℤ). All K (range_tells xs inner z (high_of inner (get_or xs tight.j 0)))) tight.begins all in
      let here = subst (λ (z : ℤ). All K (range_tells xs inner low z)) tight.ends there in
      let some : true ≡ int_le low high = omega (arith, ints) in
      let same : pos (places_inside inner low high xs) ≡ numbers_between low high = omega (arith, ints) in
      let all_inner = when-All K (int_le low high) _ (sym some) here in
      let each = when-All K (int_eq (pos (places_inside inner low high xs)) (numbers_between low high)) (flat_map (outside_tells inner low high) xs) (same_then_eq _ _ same) (All-right K (when (int_lt (numbers_between low high) (pos (places_inside inner low high xs))) (none_tells xs)) _ all_inner) in
      All-flat_map K (outside_tells outer low high) xs 0 (λ k h.
      let x = get_or xs k 0 in
      let own = flat_map-All K (outside_tells inner low high) xs 0 each k h in
      All-when K (not (is_inside outer low high x)) _ (λ is_out.
      let out = still_outside low high k h (omega arith) (not-true _ is_out) in
      All-append K (when (is_from_to low high (low_of outer x)) (low_tell x (high +ℤ pos 1) ∷ [])) (when (is_from_to low high (high_of outer x)) (high_tell x (low -ℤ pos 1) ∷ []))
      (All-when K (is_from_to low high (low_of outer x)) _ (λ f. All-one K (low_tell x (high +ℤ pos 1)) (low_kept low high k h out own (from_to_then low high (low_of outer x) f).0)))
      (All-when K (is_from_to low high (high_of outer x)) _ (λ f. All-one K (high_tell x (low -ℤ pos 1)) (high_kept low high k h out own (from_to_then low high (high_of outer x) f).1)))))

  range_kept : (low high : ℤ) → All K (range_tells xs outer low high)
  range_kept low high = All-when K (int_le low high) _ (λ t.
      let le : low ≤ℤ high = omega (arith, ints) in
      let n = unsigned_abs (high -ℤ low) in
      let e = width_of low high le in
      All-append K (when (int_lt (numbers_between low high) (pos (places_inside outer low high xs))) (none_tells xs)) (when (int_eq (pos (places_inside outer low high xs)) (numbers_between low high)) (flat_map (outside_tells outer low high) xs))
      (All-when K (int_lt (numbers_between low high) (pos (places_inside outer low high xs))) (none_tells xs) (λ over.
      let most = (hall clamped inner xs proper closed n low high e).0 in
      let more = no_more low high in
      absurd (too_full n low high e over (omega arith))))
      (All-when K (int_eq (pos (places_inside outer low high xs)) (numbers_between low high)) (flat_map (outside_tells outer low high) xs) (λ full. full_kept n low high e (eq_then_same _ _ full))))
    where
      too_full : (n : ℕ) (low high : ℤ) → high ≡ low +ℤ pos n → int_lt (numbers_between low high) (pos (places_inside outer low high xs)) ≡ true → places_inside outer low high xs ≤ suc n → ⊥
      too_full n low high e over le = omega (arith, ints)

  pub all_different_monotone : All K (all_different_tells xs outer)
  all_different_monotone = All-flat_map K (λ x. flat_map (λ y. range_tells xs outer (low_of outer x) (high_of outer y)) xs) xs 0 (λ i h.
      All-flat_map K (λ y. range_tells xs outer (low_of outer (get_or xs i 0)) (high_of outer y)) xs 0 (λ j l. range_kept (low_of outer (get_or xs i 0)) (high_of outer (get_or xs j 0))))
