-- The ranges of a set: they are there, and they are unique.
use Rattle.std.proofs.Common.{◌≡◌, ℕ, zero, suc, ◌+◌, ◌<◌, List, [], ◌∷◌, length, get_or, inl, inr, ◌⊎◌, Bool, true, false, cond, refl, sym, ap, ◌∙◌, subst, arith, ℤ, pos, ◌+ℤ◌, ◌≤ℤ◌, ◌<ℤ◌, ◌↔◌, neg_ℤ, ◌-ℤ◌, drop, ◌++◌, append_assoc, add-one, drop-cons}
use Rattle.std.proofs.lemmas.Bool.{cond-true, cond-false}
use mir.Val.{SFits, to_z, of_z}
use lib.Signed.{lt_z}
use mir.Syntax.{w64}
use Rattle.std.specs.Int.{saturate_signed}
use Rattle.std.specs.Prelude.{int_le, Contains}
use Rattle.std.specs.List.Sorted.{IsSorted, IsPermutation}
use Rattle.std.specs.Ordering.{int_cmp, is_lt}
use Rattle.std.proofs.lemmas.List.Sorted.{Contains-permutation, IsPermutation-sym}
use Rattle.std.proofs.lemmas.Int.{ints, by_lt_z, to_z-of_z}
use Rattle.constraint_model.specs.Ranges.{Range, IsIn, AreApart, AreApartFrom, AreRangesOf, insert_number, rising, ranges_on, ranges_of_rising, ranges_of, HaveRanges, RangesAreUnique, IntervalsHold}

-- ---- membership, by recursion

abbrev Among : List ℤ → ℤ → Type 0
Among [] z = ⊥
Among (x ∷ xs) z = (x ≡ z) ⊎ Among xs z

abbrev Holds : List Range → ℤ → Type 0
Holds [] z = ⊥
Holds (r ∷ rs) z = ((r.0 ≤ℤ z) × (z ≤ℤ r.1)) ⊎ Holds rs z

among_from : (xs : List ℤ) (z : ℤ) → Contains xs z → Among xs z
among_from [] z h = absurd (omega arith)
among_from (x ∷ xs) z (zero, l, e) = inl e
among_from (x ∷ xs) z (suc k, l, e) = inr (among_from xs z (k, omega arith, e))

contains_from : (xs : List ℤ) (z : ℤ) → Among xs z → Contains xs z
contains_from [] z h = absurd h
contains_from (x ∷ xs) z (inl e) = (0, omega arith, e)
contains_from (x ∷ xs) z (inr h) = let c = contains_from xs z h in (suc c.0, omega arith, c.2)

holds_from : (rs : List Range) (z : ℤ) → IsIn rs z → Holds rs z
holds_from [] z h = absurd (omega arith)
holds_from (r ∷ rs) z (zero, x, l, e, p) = inl (subst (λ (s : Range). (s.0 ≤ℤ z) × (z ≤ℤ s.1)) (sym e) p)
holds_from (r ∷ rs) z (suc k, x, l, e, p) = inr (holds_from rs z (k, x, omega arith, e, p))

in_from : (rs : List Range) (z : ℤ) → Holds rs z → IsIn rs z
in_from [] z h = absurd h
in_from (r ∷ rs) z (inl p) = (0, r, omega arith, refl, p)
in_from (r ∷ rs) z (inr h) = let c = in_from rs z h in (suc c.0, c.1, omega arith, c.3, c.4)

-- ---- uniqueness

-- what lies behind a bound holds only numbers above it
above : (bound : ℤ) (rs : List Range) (z : ℤ) → AreApartFrom bound rs → Holds rs z → bound <ℤ z
above bound [] z a h = absurd h
above bound (r ∷ rs) z a (inl p) = omega (arith, ints)
above bound (r ∷ rs) z a (inr h) = let k = above (r.1 +ℤ pos 1) rs z a.2 h in omega (arith, ints)

record Same (rs ss : List Range) : Type 0 where
  pub to : (z : ℤ) → Holds rs z → Holds ss z
  pub back : (z : ℤ) → Holds ss z → Holds rs z

-- the least number of a list is not below that of another that holds the same
not_below : (r s : Range) (rs ss : List Range) → AreApart (r ∷ rs) → AreApart (s ∷ ss) → Same (r ∷ rs) (s ∷ ss) → s.0 ≤ℤ r.0
not_below r s rs ss a b e = elim (e.to r.0 (inl (omega (arith, ints), a.0))) [
  | inl p ↦ p.0
  | inr h ↦ let k = above (s.1 +ℤ pos 1) ss r.0 b.1 h in let o = b.0 in omega (arith, ints)
]

-- nor does its first range end below
not_short : (r s : Range) (rs ss : List Range) → AreApart (r ∷ rs) → AreApart (s ∷ ss) → r.0 ≡ s.0 → Same (r ∷ rs) (s ∷ ss) → s.1 ≤ℤ r.1
not_short r s rs ss a b same e = by_lt_z r.1 s.1 bad (λ h. h)
  where
    bad : r.1 <ℤ s.1 → s.1 ≤ℤ r.1
    bad l = elim (e.back (r.1 +ℤ pos 1) (inl (omega (arith, ints, a.0, same), omega (arith, ints)))) [
      | inl p ↦ absurd (omega (arith, ints))
      | inr h ↦ let k = above (r.1 +ℤ pos 1) rs (r.1 +ℤ pos 1) a.1 h in absurd (omega (arith, ints))
    ]

le_both : (a b : ℤ) → a ≤ℤ b → b ≤ℤ a → a ≡ b
le_both a b h k = omega (arith, ints)

record SameFrom (r s : Range) : Type 0 where
  pub low : r.0 ≡ s.0
  pub high : r.1 ≡ s.1

flip : {rs ss : List Range} → Same rs ss → Same ss rs
flip e = record { to = e.back; back = e.to }

same_heads : (r s : Range) (rs ss : List Range) → AreApart (r ∷ rs) → AreApart (s ∷ ss) → Same (r ∷ rs) (s ∷ ss) → SameFrom r s
same_heads r s rs ss a b e =
    let low = le_both r.0 s.0 (not_below s r ss rs b a (flip e)) (not_below r s rs ss a b e) in
    record {
      low = low;
      high = le_both r.1 s.1 (not_short s r ss rs b a (sym low) (flip e)) (not_short r s rs ss a b low e);
    }

-- behind equal heads the rests hold the same
same_rest : (r s : Range) (rs ss : List Range) → AreApartFrom (r.1 +ℤ pos 1) rs → r.1 ≡ s.1 → ((z : ℤ) → Holds (r ∷ rs) z → Holds (s ∷ ss) z) → (z : ℤ) → Holds rs z → Holds ss z
same_rest r s rs ss a same to z h = let k = above (r.1 +ℤ pos 1) rs z a h in elim (to z (inr h)) [
  | inl p ↦ absurd (omega (arith, ints))
  | inr g ↦ g
]

pair_same : (r s : Range) → r.0 ≡ s.0 → r.1 ≡ s.1 → r ≡ s
pair_same (a, b) (c, d) h k = cc

-- a list behind a bound is apart
apart_from : (bound : ℤ) (rs : List Range) → AreApartFrom bound rs → AreApart rs
apart_from bound [] a = tt
apart_from bound (r ∷ rs) a = (a.1, a.2)

unique : (rs ss : List Range) → AreApart rs → AreApart ss → Same rs ss → rs ≡ ss
unique [] [] a b e = refl
unique [] (s ∷ ss) a b e = absurd (e.back s.0 (inl (omega (arith, ints), b.0)))
unique (r ∷ rs) [] a b e = absurd (e.to r.0 (inl (omega (arith, ints), a.0)))
unique (r ∷ rs) (s ∷ ss) a b e =
    let heads = same_heads r s rs ss a b e in
    let rest = unique rs ss (apart_from (r.1 +ℤ pos 1) rs a.1) (apart_from (s.1 +ℤ pos 1) ss b.1) (record {
      to = same_rest r s rs ss a.1 heads.high e.to;
      back = same_rest s r ss rs b.1 (sym heads.high) e.back;
    }) in
    let head : r ≡ s = pair_same r s heads.low heads.high in
    cc

same_sets : (numbers : List ℤ) (rs ss : List Range) → AreRangesOf numbers rs → AreRangesOf numbers ss → Same rs ss
same_sets numbers rs ss a b = record {
  to = λ z h. holds_from ss z ((b.same z).1 ((a.same z).0 (in_from rs z h)));
  back = λ z h. holds_from rs z ((a.same z).1 ((b.same z).0 (in_from ss z h)));
}

pub ranges_unique : RangesAreUnique
ranges_unique numbers rs ss a b = unique rs ss a.apart b.apart (same_sets numbers rs ss a b)

-- ---- rising numbers

-- the numbers rise from `bound` on
abbrev pub Rises : ℤ → List ℤ → Type 0
Rises bound [] = Unit {0}
Rises bound (x ∷ xs) = (bound ≤ℤ x) × Rises x xs

-- the same with no bound
abbrev pub Rise : List ℤ → Type 0
Rise [] = Unit {0}
Rise (x ∷ xs) = Rises x xs

int_le_true : (a b : ℤ) → int_le a b ≡ true → a ≤ℤ b
int_le_true a b h = grind (arith, ints)

int_le_false : (a b : ℤ) → int_le a b ≡ false → b <ℤ a
int_le_false a b h = grind (arith, ints)

insert_rises : (bound z : ℤ) (xs : List ℤ) → bound ≤ℤ z → Rises bound xs → Rises bound (insert_number z xs)
insert_rises bound z [] l h = (l, tt)
insert_rises bound z (x ∷ xs) l h = by (λ m. insert_rises x z xs m h.1) (int_le z x) refl
  where
    by : (x ≤ℤ z → Rises x (insert_number z xs)) → (b : Bool) → int_le z x ≡ b → Rises bound (cond b (z ∷ x ∷ xs) (x ∷ insert_number z xs))
    by later true e = (l, (int_le_true z x e, h.1))
    by later false e = let k = int_le_false z x e in (h.0, later (omega (arith, ints)))

insert_rise : (z : ℤ) (xs : List ℤ) → Rise xs → Rise (insert_number z xs)
insert_rise z [] h = tt
insert_rise z (x ∷ xs) h = by (int_le z x) refl
  where
    by : (b : Bool) → int_le z x ≡ b → Rise (cond b (z ∷ x ∷ xs) (x ∷ insert_number z xs))
    by true e = (int_le_true z x e, h)
    by false e = let k = int_le_false z x e in insert_rises x z xs (omega (arith, ints)) h

rising_rise : (xs : List ℤ) → Rise (rising xs)
rising_rise [] = tt
rising_rise (x ∷ xs) = insert_rise x (rising xs) (rising_rise xs)

insert_has : (z : ℤ) (xs : List ℤ) (y : ℤ) → Among (z ∷ xs) y → Among (insert_number z xs) y
insert_has z [] y h = h
insert_has z (x ∷ xs) y h = by (insert_has z xs y) h (int_le z x)
  where
    later : ((z ≡ y) ⊎ Among xs y → Among (insert_number z xs) y) → (z ≡ y) ⊎ ((x ≡ y) ⊎ Among xs y) → (x ≡ y) ⊎ Among (insert_number z xs) y
    later f (inl e) = inr (f (inl e))
    later f (inr (inl e)) = inl e
    later f (inr (inr k)) = inr (f (inr k))

    by : ((z ≡ y) ⊎ Among xs y → Among (insert_number z xs) y) → (z ≡ y) ⊎ ((x ≡ y) ⊎ Among xs y) → (b : Bool) → Among (cond b (z ∷ x ∷ xs) (x ∷ insert_number z xs)) y
    by f g true = g
    by f g false = later f g

insert_only : (z : ℤ) (xs : List ℤ) (y : ℤ) → Among (insert_number z xs) y → Among (z ∷ xs) y
insert_only z [] y h = h
insert_only z (x ∷ xs) y h = by (insert_only z xs y) (int_le z x) h
  where
    earlier : (z ≡ y) ⊎ Among xs y → (z ≡ y) ⊎ ((x ≡ y) ⊎ Among xs y)
    earlier (inl e) = inl e
    earlier (inr k) = inr (inr k)

    by : (Among (insert_number z xs) y → (z ≡ y) ⊎ Among xs y) → (b : Bool) → Among (cond b (z ∷ x ∷ xs) (x ∷ insert_number z xs)) y → (z ≡ y) ⊎ ((x ≡ y) ⊎ Among xs y)
    by f true k = k
    by f false (inl e) = inr (inl e)
    by f false (inr k) = earlier (f k)

rising_has : (xs : List ℤ) (y : ℤ) → Among xs y → Among (rising xs) y
rising_has [] y h = h
rising_has (x ∷ xs) y (inl e) = insert_has x (rising xs) y (inl e)
rising_has (x ∷ xs) y (inr k) = insert_has x (rising xs) y (inr (rising_has xs y k))

rising_only : (xs : List ℤ) (y : ℤ) → Among (rising xs) y → Among xs y
rising_only [] y h = h
rising_only (x ∷ xs) y h = elim (insert_only x (rising xs) y h) [
  | inl e ↦ inl e
  | inr k ↦ inr (rising_only xs y k)
]

-- ---- the ranges of rising numbers

ranges_apart : (bound low high : ℤ) (zs : List ℤ) → bound <ℤ low → low ≤ℤ high → Rises high zs → AreApartFrom bound (ranges_on low high zs)
ranges_apart bound low high [] l m h = (l, m, tt)
ranges_apart bound low high (z ∷ zs) l m h =
    by (ranges_apart bound low z zs l (omega (arith, ints, h.0)) h.1) (λ k. ranges_apart (high +ℤ pos 1) z z zs k (omega (arith, ints)) h.1) (int_le z (high +ℤ pos 1)) refl
  where
    by : AreApartFrom bound (ranges_on low z zs) → ((high +ℤ pos 1) <ℤ z → AreApartFrom (high +ℤ pos 1) (ranges_on z z zs)) → (b : Bool) → int_le z (high +ℤ pos 1) ≡ b → AreApartFrom bound (cond b (ranges_on low z zs) ((low, high) ∷ ranges_on z z zs))
    by on next true e = on
    by on next false e = (l, m, next (int_le_false z (high +ℤ pos 1) e))

abbrev Reached : ℤ → ℤ → List ℤ → ℤ → Type 0
Reached low high zs y = ((low ≤ℤ y) × (y ≤ℤ high)) ⊎ Among zs y

ranges_has : (low high : ℤ) (zs : List ℤ) (y : ℤ) → low ≤ℤ high → Rises high zs → Reached low high zs y → Holds (ranges_on low high zs) y
ranges_has low high [] y m h k = k
ranges_has low high (z ∷ zs) y m h k =
    by (ranges_has low z zs y (omega (arith, ints, h.0)) h.1) (ranges_has z z zs y (omega (arith, ints)) h.1) k (int_le z (high +ℤ pos 1))
  where
    joined : Reached low high (z ∷ zs) y → Reached low z zs y
    joined (inl p) = inl (p.0, omega (arith, ints, p.1, h.0))
    joined (inr (inl e)) = inl (omega (arith, ints, h.0, e), omega (arith, ints, e))
    joined (inr (inr g)) = inr g

    parted : (Reached z z zs y → Holds (ranges_on z z zs) y) → Reached low high (z ∷ zs) y → Holds ((low, high) ∷ ranges_on z z zs) y
    parted next (inl p) = inl p
    parted next (inr (inl e)) = inr (next (inl (omega (arith, ints, e), omega (arith, ints, e))))
    parted next (inr (inr g)) = inr (next (inr g))

    by : (Reached low z zs y → Holds (ranges_on low z zs) y) → (Reached z z zs y → Holds (ranges_on z z zs) y) → Reached low high (z ∷ zs) y → (b : Bool) → Holds (cond b (ranges_on low z zs) ((low, high) ∷ ranges_on z z zs)) y
    by on next g true = on (joined g)
    by on next g false = parted next g

at_most_next : (high y z : ℤ) → y ≤ℤ z → z ≤ℤ (high +ℤ pos 1) → (y ≤ℤ high) ⊎ (z ≡ y)
at_most_next high y z l m = by_lt_z high y (λ h. inr (omega (arith, ints))) (λ h. inl h)

ranges_only : (low high : ℤ) (zs : List ℤ) (y : ℤ) → low ≤ℤ high → Rises high zs → Holds (ranges_on low high zs) y → Reached low high zs y
ranges_only low high [] y m h k = k
ranges_only low high (z ∷ zs) y m h k =
    by (ranges_only low z zs y (omega (arith, ints, h.0)) h.1) (ranges_only z z zs y (omega (arith, ints)) h.1) (int_le z (high +ℤ pos 1)) refl k
  where
    joined : z ≤ℤ (high +ℤ pos 1) → Reached low z zs y → Reached low high (z ∷ zs) y
    joined e (inl p) = elim (at_most_next high y z p.1 e) [
      | inl q ↦ inl (p.0, q)
      | inr q ↦ inr (inl q)
    ]
    joined e (inr g) = inr (inr g)

    parted : Reached z z zs y → Reached low high (z ∷ zs) y
    parted (inl p) = inr (inl (le_both z y p.0 p.1))
    parted (inr g) = inr (inr g)

    by : (Holds (ranges_on low z zs) y → Reached low z zs y) → (Holds (ranges_on z z zs) y → Reached z z zs y) → (b : Bool) → int_le z (high +ℤ pos 1) ≡ b → Holds (cond b (ranges_on low z zs) ((low, high) ∷ ranges_on z z zs)) y → Reached low high (z ∷ zs) y
    by on next true e g = joined (int_le_true z (high +ℤ pos 1) e) (on g)
    by on next false e (inl p) = inl p
    by on next false e (inr g) = parted (next g)

apart_rising : (xs : List ℤ) → Rise xs → AreApart (ranges_of_rising xs)
unfolding ranges_of_rising
apart_rising [] h = tt
apart_rising (x ∷ xs) h = apart_from (x +ℤ neg_ℤ (pos 1)) (ranges_on x x xs) (ranges_apart (x +ℤ neg_ℤ (pos 1)) x x xs (omega (arith, ints)) (omega (arith, ints)) h)

has_rising : (xs : List ℤ) (y : ℤ) → Rise xs → Among xs y → Holds (ranges_of_rising xs) y
unfolding ranges_of_rising
has_rising [] y h k = k
has_rising (x ∷ xs) y h (inl e) = ranges_has x x xs y (omega (arith, ints)) h (inl (omega (arith, ints, e), omega (arith, ints, e)))
has_rising (x ∷ xs) y h (inr k) = ranges_has x x xs y (omega (arith, ints)) h (inr k)

only_rising : (xs : List ℤ) (y : ℤ) → Rise xs → Holds (ranges_of_rising xs) y → Among xs y
unfolding ranges_of_rising
only_rising [] y h k = k
only_rising (x ∷ xs) y h k = elim (ranges_only x x xs y (omega (arith, ints)) h k) [
  | inl p ↦ inl (le_both x y p.0 p.1)
  | inr g ↦ inr g
]

pub rising_ranges : (xs : List ℤ) → Rise xs → AreRangesOf xs (ranges_of_rising xs)
rising_ranges xs h = record {
  apart = apart_rising xs h;
  same = λ z. ((λ k. contains_from xs z (only_rising xs z h (holds_from (ranges_of_rising xs) z k))), (λ k. in_from (ranges_of_rising xs) z (has_rising xs z h (among_from xs z k))));
}

-- ---- the laws

pub have_ranges : HaveRanges
unfolding ranges_of
have_ranges numbers =
    let r = rising_ranges (rising numbers) (rising_rise numbers) in
    record {
      apart = r.apart;
      same = λ z. ((λ k. contains_from numbers z (rising_only numbers z (among_from (rising numbers) z ((r.same z).0 k)))), (λ k. (r.same z).1 (contains_from (rising numbers) z (rising_has numbers z (among_from numbers z k)))));
    }

-- the ranges of the numbers in another, rising order are the same
pub same_ranges : (numbers sorted : List ℤ) → IsPermutation numbers sorted → Rise sorted → ranges_of_rising sorted ≡ ranges_of numbers
same_ranges numbers sorted p h =
    let r = rising_ranges sorted h in
    ranges_unique numbers (ranges_of_rising sorted) (ranges_of numbers) (record {
      apart = r.apart;
      same = λ z. ((λ k. Contains-permutation sorted numbers z (IsPermutation-sym numbers sorted p) ((r.same z).0 k)), (λ k. (r.same z).1 (Contains-permutation numbers sorted z p k)));
    }) (have_ranges numbers)

-- what a sort leaves rises
sorted_pair : (a b : ℤ) → is_lt (int_cmp b a) ≡ false → a ≤ℤ b
sorted_pair a b h = grind (arith, ints)

sorted_tail : (x : ℤ) (xs : List ℤ) → IsSorted int_cmp (x ∷ xs) → IsSorted int_cmp xs
sorted_tail x xs h k d l m =
    let P : ℕ → Type 0 = λ n. is_lt (int_cmp (get_or (x ∷ xs) n d) (get_or xs k d)) ≡ false in
    let e : suc k + 1 ≡ suc (k + 1) = omega arith in
    subst P e (h (suc k) d (omega arith) (omega arith))

sorted_rises : (x : ℤ) (xs : List ℤ) → IsSorted int_cmp (x ∷ xs) → Rises x xs
sorted_rises x [] h = tt
sorted_rises x (y ∷ ys) h = (sorted_pair x y (h 0 x (omega arith) (omega arith)), sorted_rises y ys (sorted_tail x (y ∷ ys) h))

pub sorted_rise : (xs : List ℤ) → IsSorted int_cmp xs → Rise xs
sorted_rise [] h = tt
sorted_rise (x ∷ xs) h = sorted_rises x xs h

pub sorted_ranges : (numbers sorted : List ℤ) → IsPermutation numbers sorted → IsSorted int_cmp sorted → ranges_of_rising sorted ≡ ranges_of numbers
sorted_ranges numbers sorted p h = same_ranges numbers sorted p (sorted_rise sorted h)

pub intervals_hold : IntervalsHold
intervals_hold low high = by (int_le low high) refl
  where
    by : (b : Bool) → int_le low high ≡ b → AreApart (cond b ((low, high) ∷ []) []) × ((z : ℤ) → IsIn (cond b ((low, high) ∷ []) []) z ↔ (low ≤ℤ z) × (z ≤ℤ high))
    by true e = ((int_le_true low high e, tt), λ z. (one z, λ p. in_from ((low, high) ∷ []) z (inl p)))
      where
        one : (z : ℤ) → IsIn ((low, high) ∷ []) z → (low ≤ℤ z) × (z ≤ℤ high)
        one z h = elim (holds_from ((low, high) ∷ []) z h) [
          | inl p ↦ p
          | inr f ↦ absurd f
        ]
    by false e = (tt, λ z. ((λ h. absurd (holds_from [] z h)), (λ p. let k = int_le_false low high e in absurd (omega (arith, ints, p.0, p.1)))))

-- ---- the next of rising numbers

on_drop : (low high : ℤ) (rest : List ℤ) (i : ℕ) → i < length rest → ranges_on low high (drop i rest) ≡ ranges_on low high (get_or rest i (pos 0) ∷ drop (i + 1) rest)
on_drop low high rest i l = ap (ranges_on low high) (drop_step rest i l)
  where
    drop_step : (xs : List ℤ) (i : ℕ) → i < length xs → drop i xs ≡ get_or xs i (pos 0) ∷ drop (i + 1) xs
    drop_step xs i l = rw (add-one, drop-cons xs i (pos 0)) refl

int_le_is_true : (a b : ℤ) → a ≤ℤ b → int_le a b ≡ true
int_le_is_true a b h = grind (arith, ints)

int_le_is_false : (a b : ℤ) → b <ℤ a → int_le a b ≡ false
int_le_is_false a b h = grind (arith, ints)

le_from_test : (a b : ℤ) → lt_z a b ≡ false → b ≤ℤ a
le_from_test a b h = grind (arith, ints)

lt_from_test : (a b : ℤ) → lt_z a b ≡ true → a <ℤ b
lt_from_test a b h = grind (arith, ints)

-- the test by a saturated difference, of a number X that the code holds as its bits
near_plain : (x high : ℤ) → SFits w64 x → SFits w64 high → saturate_signed w64 (x -ℤ pos 1) ≤ℤ high → x ≤ℤ (high +ℤ pos 1)
near_plain x high f g h = grind (arith, ints)

far_plain : (x high : ℤ) → SFits w64 x → SFits w64 high → high <ℤ saturate_signed w64 (x -ℤ pos 1) → (high +ℤ pos 1) <ℤ x
far_plain x high f g h = grind (arith, ints)

pub near : (x X d high : ℤ) → SFits w64 x → SFits w64 high → SFits w64 d → X ≡ x → d ≡ saturate_signed w64 (X -ℤ pos 1) → lt_z high (to_z w64 (of_z w64 d)) ≡ false → X ≤ℤ (high +ℤ pos 1)
near x X d high f g m e s t =
    let P : ℤ → Type 0 = λ v. SFits w64 v in
    let n : d ≤ℤ high = rw (to_z-of_z w64 d m) at (le_from_test high (to_z w64 (of_z w64 d)) t) in
    near_plain X high (subst P (sym e) f) g (subst (λ (v : ℤ). v ≤ℤ high) s n)

pub far : (x X d high : ℤ) → SFits w64 x → SFits w64 high → SFits w64 d → X ≡ x → d ≡ saturate_signed w64 (X -ℤ pos 1) → lt_z high (to_z w64 (of_z w64 d)) ≡ true → (high +ℤ pos 1) <ℤ X
far x X d high f g m e s t =
    let P : ℤ → Type 0 = λ v. SFits w64 v in
    let n : high <ℤ d = rw (to_z-of_z w64 d m) at (lt_from_test high (to_z w64 (of_z w64 d)) t) in
    far_plain X high (subst P (sym e) f) g (subst (λ (v : ℤ). high <ℤ v) s n)

-- it joins the range so far, or begins the next
joined_rest : (low high x : ℤ) (rest : List ℤ) (i : ℕ) → i < length rest → x ≡ get_or rest i (pos 0) → x ≤ℤ (high +ℤ pos 1) → ranges_on low high (drop i rest) ≡ ranges_on low x (drop (i + 1) rest)
joined_rest low high x rest i l e near =
    let m = on_drop low high rest i l in
    let t = cond-true (int_le x (high +ℤ pos 1)) (ranges_on low x (drop (i + 1) rest)) ((low, high) ∷ ranges_on x x (drop (i + 1) rest)) (int_le_is_true x (high +ℤ pos 1) near) in
    m ∙ ap (λ v. ranges_on low high (v ∷ drop (i + 1) rest)) (sym e) ∙ t

begun_rest : (low high x : ℤ) (rest : List ℤ) (i : ℕ) → i < length rest → x ≡ get_or rest i (pos 0) → (high +ℤ pos 1) <ℤ x → ranges_on low high (drop i rest) ≡ (low, high) ∷ ranges_on x x (drop (i + 1) rest)
begun_rest low high x rest i l e far =
    let m = on_drop low high rest i l in
    let t = cond-false (int_le x (high +ℤ pos 1)) (ranges_on low x (drop (i + 1) rest)) ((low, high) ∷ ranges_on x x (drop (i + 1) rest)) (int_le_is_false x (high +ℤ pos 1) far) in
    m ∙ ap (λ v. ranges_on low high (v ∷ drop (i + 1) rest)) (sym e) ∙ t

pub next_joins : (rs rs' all : List Range) (low low' high x : ℤ) (rest : List ℤ) (i : ℕ) → rs ++ ranges_on low high (drop i rest) ≡ all → i < length rest → x ≡ get_or rest i (pos 0) → x ≤ℤ (high +ℤ pos 1) → rs' ≡ rs → low' ≡ low → rs' ++ ranges_on low' x (drop (i + 1) rest) ≡ all
next_joins rs rs' all low low' high x rest i h l e near same same_low =
    let j = joined_rest low high x rest i l e near in
    let k = ap (λ ys. rs ++ ys) j in
    let q = ap (λ v. ranges_on v x (drop (i + 1) rest)) same_low in
    cc

pub next_begins : (rs rs' all : List Range) (low low' high x : ℤ) (rest : List ℤ) (i : ℕ) → rs ++ ranges_on low high (drop i rest) ≡ all → i < length rest → x ≡ get_or rest i (pos 0) → (high +ℤ pos 1) <ℤ x → rs' ≡ rs ++ (low, high) ∷ [] → low' ≡ x → rs' ++ ranges_on low' x (drop (i + 1) rest) ≡ all
next_begins rs rs' all low low' high x rest i h l e far same same_low =
    let j = begun_rest low high x rest i l e far in
    let k = ap (λ ys. rs ++ ys) j in
    let q = ap (λ v. ranges_on v x (drop (i + 1) rest)) same_low in
    let a = append_assoc rs ((low, high) ∷ []) (ranges_on x x (drop (i + 1) rest)) in
    cc
