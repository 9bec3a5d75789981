-- A range of more numbers than places inside tells nothing, and so does a full one of which no other place has a low or a
-- high in it; and where each place has more numbers than there are places, no range is full.
use Rattle.std.proofs.Common.{◌≡◌, ℕ, zero, ◌+◌, ◌<◌, List, [], ◌∷◌, ◌++◌, length, get_or, Bool, true, false, not, cond, count_by, ℤ, pos, bit_and, ◌+ℤ◌, ◌-ℤ◌, ◌≤ℤ◌, ◌<ℤ◌, ⊎_elim, refl, sym, ap, subst, ◌∙◌, suc, arith}
use Rattle.std.proofs.lemmas.Int.{ints}
use Rattle.std.proofs.lemmas.Bool.{and_parts, both_ways, not-true}
use Rattle.std.proofs.lemmas.Bool.Decides.{Decides-int_eq}
use Rattle.std.proofs.lemmas.List.Sums.{count_by-le-length}
use Rattle.std.specs.Int.RustNames.{int_lt, int_le, count_ones}
use Rattle.std.specs.Prelude.{◌&&◌}
use Rattle.std.specs.Ordering.{int_eq}
use Rattle.std.specs.List.{All, flat_map}
use Rattle.interval.specs.Boxes.{Bounds, low_of, high_of}
use Rattle.tells.specs.declared.tell.Tell.{Tell}
use Rattle.tells.specs.Words.{when, Keeps, low_tell, high_tell}
use Rattle.global_tells.specs.declared.places.Places.{Places}
use Rattle.global_tells.specs.Ranges.{is_from_to, none_tells}
use Rattle.global_tells.specs.Places.{mask_of, places_from, places_to, IsWithin}
use Rattle.global_tells.specs.AllDifferent.{is_inside, places_inside, outside_tells, numbers_between, range_tells, all_different_tells}
use Rattle.global_tells.proofs.Lists.{All-none}
use Rattle.global_tells.proofs.AllDifferentLaws.{some_or_none, count_none, count_step, inside_then}
use Rattle.global_tells.proofs.SetLaws.{both_of, count_of, same_members}

flat_map_none : {Y : Type 0} (f : Y → List Tell) (ys : List Y) (e : Y) → ((i : ℕ) → i < length ys → f (get_or ys i e) ≡ []) → flat_map f ys ≡ []
flat_map_none f [] e h = refl
flat_map_none f (y ∷ ys) e h =
    let first = h 0 (omega arith) in
    let rest = flat_map_none f ys e (λ i l. h (suc i) (omega arith)) in
    (λ i. first i ++ rest i)

pub when_none : (s : Bool) (ts : List Tell) → (s ≡ true → ts ≡ []) → when s ts ≡ []
when_none true ts h = h refl
when_none false ts h = refl

both_none : (ts us : List Tell) → ts ≡ [] → us ≡ [] → ts ++ us ≡ []
both_none ts us e f = (λ i. e i ++ f i)

module _ (b : Bounds) (xs : List ℕ) (low high : ℤ) where
  -- a place that has other numbers has neither its low nor its high in the range
  abbrev pub HasNoEnd : ℕ → Type 0
  HasNoEnd x = is_inside b low high x ≡ false → (is_from_to low high (low_of b x) ≡ true → ⊥) × (is_from_to low high (high_of b x) ≡ true → ⊥)

  others_none : ((k : ℕ) → k < length xs → HasNoEnd (get_or xs k 0)) → flat_map (outside_tells b low high) xs ≡ []
  others_none no_end = flat_map_none (outside_tells b low high) xs 0 (λ k h.
      let x = get_or xs k 0 in
      when_none (not (is_inside b low high x)) _ (λ is_out.
      let no = no_end k h (not-true _ is_out) in
      both_none (when (is_from_to low high (low_of b x)) (low_tell x (high +ℤ pos 1) ∷ [])) (when (is_from_to low high (high_of b x)) (high_tell x (low -ℤ pos 1) ∷ []))
      (when_none (is_from_to low high (low_of b x)) _ (λ t. absurd (no.0 t)))
      (when_none (is_from_to low high (high_of b x)) _ (λ t. absurd (no.1 t)))))

  pub none_where : (int_le low high ≡ true → int_lt (numbers_between low high) (pos (places_inside b low high xs)) ≡ true → ⊥)
      → (int_le low high ≡ true → int_eq (pos (places_inside b low high xs)) (numbers_between low high) ≡ true → (k : ℕ) → k < length xs → HasNoEnd (get_or xs k 0))
      → range_tells xs b low high ≡ []
  none_where not_over full =
      let n = places_inside b low high xs in
      when_none (int_le low high) _ (λ t.
      both_none (when (int_lt (numbers_between low high) (pos n)) (none_tells xs)) (when (int_eq (pos n) (numbers_between low high)) (flat_map (outside_tells b low high) xs))
      (when_none (int_lt (numbers_between low high) (pos n)) (none_tells xs) (λ over. absurd (not_over t over)))
      (when_none (int_eq (pos n) (numbers_between low high)) (flat_map (outside_tells b low high) xs) (λ f. others_none (full t f))))

  module _ (from upto : Places) (e : from ≡ places_from b low xs) (f : upto ≡ places_to b high xs) where
    inside_set : bit_and from.lows upto.highs ≡ mask_of (is_inside b low high) xs
    unfolding is_inside
    inside_set = (λ i. bit_and ((e i).lows) ((f i).highs)) ∙ both_of (λ x. int_le low (low_of b x)) (λ x. int_le (high_of b x) high) xs

    lows_set : bit_and from.lows upto.lows ≡ mask_of (λ x. is_from_to low high (low_of b x)) xs
    unfolding is_from_to
    lows_set = (λ i. bit_and ((e i).lows) ((f i).lows)) ∙ both_of (λ x. int_le low (low_of b x)) (λ x. int_le (low_of b x) high) xs

    highs_set : bit_and from.highs upto.highs ≡ mask_of (λ x. is_from_to low high (high_of b x)) xs
    unfolding is_from_to
    highs_set = (λ i. bit_and ((e i).highs) ((f i).highs)) ∙ both_of (λ x. int_le low (high_of b x)) (λ x. int_le (high_of b x) high) xs

    count_inside : count_ones (bit_and from.lows upto.highs) ≡ places_inside b low high xs
    unfolding places_inside
    count_inside = ap count_ones inside_set ∙ count_of (is_inside b low high) xs

    -- where a set is within the range's places, its members are places inside
    members : (test : ℕ → Bool) (set : ℕ) → set ≡ mask_of test xs → IsWithin set (bit_and from.lows upto.highs) → (k : ℕ) → k < length xs → is_inside b low high (get_or xs k 0) ≡ false → test (get_or xs k 0) ≡ true → ⊥
    members test set is within k h out t =
        let same : mask_of test xs ≡ mask_of (λ x. test x && is_inside b low high x) xs =
        sym is ∙ sym within ∙ (λ i. bit_and (is i) (inside_set i)) ∙ both_of test (is_inside b low high) xs in
        let x = get_or xs k 0 in
        let both = same_members test (λ x. test x && is_inside b low high x) xs same k h t in
        both_ways _ out (and_parts (test x) (is_inside b low high x) both).1

    no_ends : IsWithin (bit_and from.lows upto.lows) (bit_and from.lows upto.highs) × IsWithin (bit_and from.highs upto.highs) (bit_and from.lows upto.highs)
        → (k : ℕ) → k < length xs → HasNoEnd (get_or xs k 0)
    no_ends within k h out = (members (λ x. is_from_to low high (low_of b x)) _ lows_set within.0 k h out, members (λ x. is_from_to low high (high_of b x)) _ highs_set within.1 k h out)

    pub sets_none : (n : ℕ) → n ≡ count_ones (bit_and from.lows upto.highs) → int_lt (numbers_between low high) (pos n) ≡ false
        → (int_eq (pos n) (numbers_between low high) ≡ true
        → IsWithin (bit_and from.lows upto.lows) (bit_and from.lows upto.highs) × IsWithin (bit_and from.highs upto.highs) (bit_and from.lows upto.highs))
        → range_tells xs b low high ≡ []
    sets_none n is not_over full =
        let count : n ≡ places_inside b low high xs = is ∙ count_inside in
        none_where
        (λ t over. both_ways _ not_over (ap (λ (m : ℕ). int_lt (numbers_between low high) (pos m)) count ∙ over))
        (λ t is_full. no_ends (full (ap (λ (m : ℕ). int_eq (pos m) (numbers_between low high)) count ∙ is_full)))

-- what holds of each place of two lists
each_of : (P : ℕ → Type 0) (ys zs : List ℕ) → ((k : ℕ) → k < length ys → P (get_or ys k 0)) → ((k : ℕ) → k < length zs → P (get_or zs k 0)) → (k : ℕ) → k < length (ys ++ zs) → P (get_or (ys ++ zs) k 0)
each_of P [] zs f g k h = g k h
each_of P (y ∷ ys) zs f g zero h = f 0 (omega arith)
each_of P (y ∷ ys) zs f g (suc k) h = each_of P ys zs (λ m l. f (suc m) (omega arith)) g k (omega arith)

count_both : (p : ℕ → Bool) (ys zs : List ℕ) → count_by p (ys ++ zs) ≡ count_by p ys + count_by p zs
count_both p [] zs =
    let same : count_by p ([] ++ zs) ≡ count_by p zs = refl in
    let none : count_by p [] ≡ 0 = refl in
    omega arith
count_both p (y ∷ ys) zs =
    let rest = count_both p ys zs in
    let whole : count_by p ((y ∷ ys) ++ zs) ≡ cond (p y) 1 0 + count_by p (ys ++ zs) = count_step p y (ys ++ zs) in
    let first = count_step p y ys in
    omega arith

-- the same of a list in two halves
module _ (b : Bounds) (ys zs : List ℕ) (low high : ℤ)
    (front upto : Places) (e : front ≡ places_from b low ys) (f : upto ≡ places_to b high ys)
    (back past : Places) (d : back ≡ places_from b low zs) (g : past ≡ places_to b high zs) where
  pub halves_none : (n : ℕ) → n ≡ count_ones (bit_and front.lows upto.highs) + count_ones (bit_and back.lows past.highs)
      → int_lt (numbers_between low high) (pos n) ≡ false
      → (int_eq (pos n) (numbers_between low high) ≡ true
      → (IsWithin (bit_and front.lows upto.lows) (bit_and front.lows upto.highs) × IsWithin (bit_and front.highs upto.highs) (bit_and front.lows upto.highs))
      × (IsWithin (bit_and back.lows past.lows) (bit_and back.lows past.highs) × IsWithin (bit_and back.highs past.highs) (bit_and back.lows past.highs)))
      → range_tells (ys ++ zs) b low high ≡ []
  unfolding places_inside
  halves_none n is not_over full =
      let one = count_inside b ys low high front upto e f in
      let other = count_inside b zs low high back past d g in
      let both = count_both (is_inside b low high) ys zs in
      let count : n ≡ places_inside b low high (ys ++ zs) = omega arith in
      none_where b (ys ++ zs) low high
      (λ t over. both_ways _ not_over (ap (λ (m : ℕ). int_lt (numbers_between low high) (pos m)) count ∙ over))
      (λ t is_full.
      let within = full (ap (λ (m : ℕ). int_eq (pos m) (numbers_between low high)) count ∙ is_full) in
      each_of (HasNoEnd b ys low high) ys zs
      (no_ends b ys low high front upto e f within.0)
      (no_ends b zs low high back past d g within.1))

module _ (b : Bounds) (xs : List ℕ) (wide : (i : ℕ) → i < length xs → (low_of b (get_or xs i 0) +ℤ pos (length xs)) ≤ℤ high_of b (get_or xs i 0)) where
  few_inside : (low high : ℤ) → low ≤ℤ high → pos (places_inside b low high xs) <ℤ numbers_between low high
  unfolding places_inside
  few_inside low high le = ⊎_elim
      (λ (x : (i : ℕ) × (i < length xs) × (is_inside b low high (get_or xs i 0) ≡ true)).
      let p = inside_then b low high (get_or xs x.0 0) x.2 in
      let q = p.0 in
      let r = p.1 in
      let w = wide x.0 x.1 in
      let most = count_by-le-length (is_inside b low high) xs in
      omega (arith, ints))
      (λ (none : (i : ℕ) → i < length xs → is_inside b low high (get_or xs i 0) ≡ false).
      let no = count_none (is_inside b low high) xs (λ i h e. both_ways _ (none i h) e) in
      omega (arith, ints))
      (some_or_none (is_inside b low high) xs)

  not_over : (n numbers : ℤ) → n <ℤ numbers → int_lt numbers n ≡ true → ⊥
  not_over n numbers less e = omega (arith, ints)

  not_full : (n numbers : ℤ) → n <ℤ numbers → int_eq n numbers ≡ true → ⊥
  not_full n numbers less e = let same = (Decides-int_eq n numbers).0 e in omega (arith, ints)

  range_none : (low high : ℤ) → range_tells xs b low high ≡ []
  range_none low high = none_where b xs low high
      (λ t over. not_over _ _ (few_inside low high (omega (arith, ints))) over)
      (λ t full. absurd (not_full _ _ (few_inside low high (omega (arith, ints))) full))

  none : all_different_tells xs b ≡ []
  none = flat_map_none (λ x. flat_map (λ y. range_tells xs b (low_of b x) (high_of b y)) xs) xs 0 (λ i h.
      flat_map_none (λ y. range_tells xs b (low_of b (get_or xs i 0)) (high_of b y)) xs 0 (λ j l. range_none (low_of b (get_or xs i 0)) (high_of b (get_or xs j 0))))

  pub wide_quiet : All (Keeps b) (all_different_tells xs b)
  wide_quiet = subst (All (Keeps b)) (sym none) (All-none (Keeps b))
