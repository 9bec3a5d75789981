-- What tasks use, one task on; and that it changes only where a task begins or ends.
use Rattle.std.proofs.Common.{◌≡◌, ◌⊎◌, inl, inr, ◌+◌, ◌<◌, ◌≤◌, ℕ, ℤ, pos, Bool, true, false, ◌&&◌, cond, List, [], ◌∷◌, length, map, drop, get_or, refl, sym, ap, subst, ◌∙◌, arith, min, ⊎_elim}
use Rattle.std.specs.Prelude.{◌+ℤ◌, ◌-ℤ◌, ◌≤ℤ◌, ◌<ℤ◌, int_le, int_lt}
use Rattle.std.specs.Bool.{Decides}
use Rattle.std.specs.List.{list_all, AllByRecursion as Each}
use Rattle.std.specs.Int.{int_min}
use Rattle.std.proofs.lemmas.Int.{ints, clamps}
use Rattle.std.proofs.lemmas.Bool.{and_parts}
use Rattle.std.proofs.lemmas.List.{drop_more, drop_all, get_or-map, length-map}
use Rattle.constraint_model.specs.declared.model.Term.{Term}
use Rattle.constraint_model.specs.Relations.{is_under_way, used_at, IsCumulative}
use Rattle.constraint_check.specs.Tests.{changes, is_cumulative}
use Rattle.constraint_check.proofs.SumLaws.{min_cases}
use Rattle.constraint_check.proofs.TestLaws.{le_decides}

-- ---- the tasks that are left

part : (v : Term → ℤ) (ts : List Term) (i : ℕ) (d : Term) → i < length ts → drop i (map v ts) ≡ v (get_or ts i d) ∷ drop (i + 1) (map v ts)
part v ts i d inside =
    let long = length-map ts v in
    drop_more (map v ts) i (pos 0) (omega arith) ∙ ap (λ (z : ℤ). z ∷ drop (i + 1) (map v ts)) (get_or-map v ts i d (pos 0) inside)

none_left : (v : Term → ℤ) (ts : List Term) (i : ℕ) → length ts ≤ i → drop i (map v ts) ≡ []
none_left v ts i h = let long = length-map ts v in drop_all i (map v ts) (omega arith)

-- what the first of them uses, and the others
pub used_step : (v : Term → ℤ) (ss ds rs : List Term) (t : ℤ) (i : ℕ) (d : Term) → i < length ss → i < length ds → i < length rs
    → used_at (drop i (map v ss)) (drop i (map v ds)) (drop i (map v rs)) t
    ≡ cond (is_under_way (v (get_or ss i d)) (v (get_or ds i d)) t) (v (get_or rs i d)) (pos 0) +ℤ used_at (drop (i + 1) (map v ss)) (drop (i + 1) (map v ds)) (drop (i + 1) (map v rs)) t
used_step v ss ds rs t i d in_ss in_ds in_rs = (λ k. used_at (part v ss i d in_ss k) (part v ds i d in_ds k) (part v rs i d in_rs k) t)

used_none : (ss ds rs : List ℤ) (t : ℤ) → ((ss ≡ []) ⊎ (ds ≡ [])) ⊎ (rs ≡ []) → used_at ss ds rs t ≡ pos 0
used_none [] ds rs t h = refl
used_none (s ∷ ss) [] rs t h = refl
used_none (s ∷ ss) (d ∷ ds) [] t h = refl
used_none (s ∷ ss) (d ∷ ds) (r ∷ rs) t (inl (inl e)) = absurd (cc)
used_none (s ∷ ss) (d ∷ ds) (r ∷ rs) t (inl (inr e)) = absurd (cc)
used_none (s ∷ ss) (d ∷ ds) (r ∷ rs) t (inr e) = absurd (cc)

pub used_end : (v : Term → ℤ) (ss ds rs : List Term) (t : ℤ) (i : ℕ) → min (min (length ss) (length ds)) (length rs) ≤ i
    → used_at (drop i (map v ss)) (drop i (map v ds)) (drop i (map v rs)) t ≡ pos 0
used_end v ss ds rs t i h = used_none _ _ _ t (by (min_cases (min (length ss) (length ds)) (length rs) i h))
  where
    by : (min (length ss) (length ds) ≤ i) ⊎ (length rs ≤ i) → ((drop i (map v ss) ≡ []) ⊎ (drop i (map v ds) ≡ [])) ⊎ (drop i (map v rs) ≡ [])
    by (inr k) = inr (none_left v rs i k)
    by (inl k) = inl (⊎_elim (λ l. inl (none_left v ss i l)) (λ l. inr (none_left v ds i l)) (min_cases (length ss) (length ds) i k))

-- a test of the times at which the first of them begins and ends, and of those of the others
abbrev at_ends : (Term → ℤ) → (ℤ → Bool) → Term → Term → Bool
at_ends v test s d = test (v s) && test (v s +ℤ v d)

abbrev at_left : (Term → ℤ) → (ℤ → Bool) → List Term → List Term → ℕ → Bool
at_left v test ss ds i = list_all test (changes (drop i (map v ss)) (drop i (map v ds)))

and_grouped : (a b c : Bool) → (a && (b && c)) ≡ ((a && b) && c)
and_grouped true b c = refl
and_grouped false b c = refl

changes_step : (v : Term → ℤ) (test : ℤ → Bool) (ss ds : List Term) (i : ℕ) (d e : Term) → i < length ss → i < length ds
    → at_left v test ss ds i ≡ (at_ends v test (get_or ss i d) (get_or ds i e) && at_left v test ss ds (i + 1))
changes_step v test ss ds i d e in_ss in_ds =
    (λ k. list_all test (changes (part v ss i d in_ss k) (part v ds i e in_ds k)))
    ∙ and_grouped (test (v (get_or ss i d))) (test (v (get_or ss i d) +ℤ v (get_or ds i e))) (at_left v test ss ds (i + 1))

pub changes_on : (v : Term → ℤ) (test : ℤ → Bool) (ss ds : List Term) (i : ℕ) (d e : Term) → i < length ss → i < length ds → at_ends v test (get_or ss i d) (get_or ds i e) ≡ true
    → at_left v test ss ds i ≡ at_left v test ss ds (i + 1)
changes_on v test ss ds i d e in_ss in_ds q = changes_step v test ss ds i d e in_ss in_ds ∙ ap (λ b. b && at_left v test ss ds (i + 1)) q

pub changes_off : (v : Term → ℤ) (test : ℤ → Bool) (ss ds : List Term) (i : ℕ) (d e : Term) → i < length ss → i < length ds → at_ends v test (get_or ss i d) (get_or ds i e) ≡ false
    → at_left v test ss ds i ≡ false
changes_off v test ss ds i d e in_ss in_ds q = changes_step v test ss ds i d e in_ss in_ds ∙ ap (λ b. b && at_left v test ss ds (i + 1)) q

changes_none : (ss ds : List ℤ) → (ss ≡ []) ⊎ (ds ≡ []) → changes ss ds ≡ []
changes_none [] ds h = refl
changes_none (s ∷ ss) [] h = refl
changes_none (s ∷ ss) (d ∷ ds) (inl e) = absurd (cc)
changes_none (s ∷ ss) (d ∷ ds) (inr e) = absurd (cc)

pub changes_end : (v : Term → ℤ) (test : ℤ → Bool) (ss ds : List Term) (i : ℕ) → min (length ss) (length ds) ≤ i → list_all test (changes (drop i (map v ss)) (drop i (map v ds))) ≡ true
changes_end v test ss ds i h =
    ap (list_all test) (changes_none _ _ (⊎_elim (λ l. inl (none_left v ss i l)) (λ l. inr (none_left v ds i l)) (min_cases (length ss) (length ds) i h)))

-- ---- what is used changes only where a task begins or ends

-- nothing begins or ends up to a time
abbrev AreLater : ℤ → List ℤ → Type 0
AreLater t es = Each (λ e. t <ℤ e) es

used_before : (ss ds rs : List ℤ) (t : ℤ) → AreLater t (changes ss ds) → used_at ss ds rs t ≡ pos 0
used_before [] ds rs t h = refl
used_before (s ∷ ss) [] rs t h = refl
used_before (s ∷ ss) (d ∷ ds) [] t h = refl
used_before (s ∷ ss) (d ∷ ds) (r ∷ rs) t h =
    let later : t <ℤ s = h.0 in
    let begun : int_le s t ≡ false = grind (arith, ints) in
    let rest = used_before ss ds rs t h.1.1 in
    (λ k. cond (begun k && int_lt t (s +ℤ d)) r (pos 0) +ℤ rest k)

-- nothing begins or ends behind one time up to another
abbrev AreNotBetween : ℤ → ℤ → List ℤ → Type 0
AreNotBetween u t es = Each (λ e. e ≤ℤ t → e ≤ℤ u) es

same_begin : (s t u : ℤ) → u ≤ℤ t → (s ≤ℤ t → s ≤ℤ u) → int_le s t ≡ int_le s u
same_begin s t u below h = by (int_le s t) refl
  where
    by : (b : Bool) → int_le s t ≡ b → b ≡ int_le s u
    by true e = (let k : s ≤ℤ u = h (grind (arith, ints)) in grind (arith, ints))
    by false e = grind (arith, ints)

same_end : (e t u : ℤ) → u ≤ℤ t → (e ≤ℤ t → e ≤ℤ u) → int_lt t e ≡ int_lt u e
same_end e t u below h = by (int_lt t e) refl
  where
    by : (b : Bool) → int_lt t e ≡ b → b ≡ int_lt u e
    by true q = grind (arith, ints)
    by false q = (let k : e ≤ℤ u = h (grind (arith, ints)) in grind (arith, ints))

used_same : (ss ds rs : List ℤ) (t u : ℤ) → u ≤ℤ t → AreNotBetween u t (changes ss ds) → used_at ss ds rs t ≡ used_at ss ds rs u
used_same [] ds rs t u below h = refl
used_same (s ∷ ss) [] rs t u below h = refl
used_same (s ∷ ss) (d ∷ ds) [] t u below h = refl
used_same (s ∷ ss) (d ∷ ds) (r ∷ rs) t u below h =
    let begun = same_begin s t u below h.0 in
    let ended = same_end (s +ℤ d) t u below h.1.0 in
    let rest = used_same ss ds rs t u below h.1.1 in
    (λ k. cond (begun k && ended k) r (pos 0) +ℤ rest k)

cases_le : (x y : ℤ) → (x ≤ℤ y) ⊎ (y <ℤ x)
cases_le x y = by (int_le x y) refl
  where
    by : (b : Bool) → int_le x y ≡ b → (x ≤ℤ y) ⊎ (y <ℤ x)
    by true e = inl (grind (arith, ints))
    by false e = inr (grind (arith, ints))

-- the last of some times up to a time
record IsLast (P : ℤ → Type 0) (t : ℤ) (es : List ℤ) : Type 0 where
  time : ℤ
  below : time ≤ℤ t
  good : P time
  last : AreNotBetween time t es

not_later : (t u : ℤ) (es : List ℤ) → AreLater t es → AreNotBetween u t es
not_later t u [] h = tt
not_later t u (e ∷ es) h = (let later : t <ℤ e = h.0 in λ k. grind (arith, ints), not_later t u es h.1)

between_weaker : (t u w : ℤ) (es : List ℤ) → u ≤ℤ w → AreNotBetween u t es → AreNotBetween w t es
between_weaker t u w [] below h = tt
between_weaker t u w (e ∷ es) below h = (λ k. (let l : e ≤ℤ u = h.0 k in grind (arith, ints)), between_weaker t u w es below h.1)

last_of : (P : ℤ → Type 0) (t : ℤ) (es : List ℤ) → Each P es → AreLater t es ⊎ IsLast P t es
last_of P t [] h = inl tt
last_of P t (e ∷ es) h = by (cases_le e t) (last_of P t es h.1)
  where
    stays : IsLast P t es → e ≤ℤ t → (l : IsLast P t es) → IsLast P t (e ∷ es)
    stays x k l = by_last (cases_le e l.time)
      where
        by_last : (e ≤ℤ l.time) ⊎ (l.time <ℤ e) → IsLast P t (e ∷ es)
        by_last (inl m) = record { time = l.time; below = l.below; good = l.good; last = (λ n. m, l.last) }
        by_last (inr m) = record { time = e; below = k; good = h.0; last = (λ n. omega (arith, ints), between_weaker t l.time e es (omega (arith, ints)) l.last) }

    by : (e ≤ℤ t) ⊎ (t <ℤ e) → AreLater t es ⊎ IsLast P t es → AreLater t (e ∷ es) ⊎ IsLast P t (e ∷ es)
    by (inl k) (inl later) = inr (record { time = e; below = k; good = h.0; last = (λ n. omega (arith, ints), not_later t e es later) })
    by (inl k) (inr l) = inr (stays l k l)
    by (inr k) (inl later) = inl (k, later)
    by (inr k) (inr l) = inr (record { time = l.time; below = l.below; good = l.good; last = (λ n. absurd (omega (arith, ints)), l.last) })

later_weaker : (t u : ℤ) (es : List ℤ) → u ≤ℤ t → AreLater t es → AreLater u es
later_weaker t u [] below h = tt
later_weaker t u (e ∷ es) below h = ((let later : t <ℤ e = h.0 in omega (arith, ints)), later_weaker t u es below h.1)

-- a time before some others
abbrev earliest : List ℤ → ℤ
earliest [] = pos 0
earliest (e ∷ es) = int_min (e -ℤ pos 1) (earliest es)

earliest_is : (es : List ℤ) → AreLater (earliest es) es
earliest_is [] = tt
earliest_is (e ∷ es) = (omega (arith, ints, clamps), later_weaker (earliest es) (int_min (e -ℤ pos 1) (earliest es)) es (omega (arith, ints, clamps)) (earliest_is es))

-- ---- the test

passed : (p : ℤ → Bool) (P : ℤ → Type 0) → ((z : ℤ) → p z ≡ true → P z) → (es : List ℤ) → list_all p es ≡ true → Each P es
passed p P f [] h = tt
passed p P f (e ∷ es) h = let parts = and_parts (p e) (list_all p es) h in (f e parts.0, passed p P f es parts.1)

all_pass : (p : ℤ → Bool) → ((z : ℤ) → p z ≡ true) → (es : List ℤ) → list_all p es ≡ true
all_pass p f [] = refl
all_pass p f (e ∷ es) = (λ k. f e k && all_pass p f es k)

module _ (ss ds rs : List ℤ) (b : ℤ) where
  abbrev keeps_at : ℤ → Bool
  keeps_at t = int_le (used_at ss ds rs t) b

  abbrev KeepsAt : ℤ → Type 0
  KeepsAt t = used_at ss ds rs t ≤ℤ b

  by_last : pos 0 ≤ℤ b → (t : ℤ) → AreLater t (changes ss ds) ⊎ IsLast KeepsAt t (changes ss ds) → KeepsAt t
  by_last h t (inl later) = subst (λ z. z ≤ℤ b) (sym (used_before ss ds rs t later)) h
  by_last h t (inr l) = subst (λ z. z ≤ℤ b) (sym (used_same ss ds rs t l.time l.below l.last)) l.good

  to_all : is_cumulative ss ds rs b ≡ true → IsCumulative ss ds rs b
  to_all e =
      let parts = and_parts (int_le (pos 0) b) (list_all keeps_at (changes ss ds)) e in
      λ t. by_last ((le_decides (pos 0) b).0 parts.0) t (last_of KeepsAt t (changes ss ds) (passed keeps_at KeepsAt (λ u. (le_decides (used_at ss ds rs u) b).0) (changes ss ds) parts.1))

  from_all : IsCumulative ss ds rs b → is_cumulative ss ds rs b ≡ true
  from_all h =
      let t = earliest (changes ss ds) in
      let none : int_le (pos 0) b ≡ true = (le_decides (pos 0) b).1 (subst (λ z. z ≤ℤ b) (used_before ss ds rs t (earliest_is (changes ss ds))) (h t)) in
      let all : list_all keeps_at (changes ss ds) ≡ true = all_pass keeps_at (λ u. (le_decides (used_at ss ds rs u) b).1 (h u)) (changes ss ds) in
      (λ k. none k && all k)

  pub cumulative_decides : Decides (is_cumulative ss ds rs b) (IsCumulative ss ds rs b)
  cumulative_decides = (to_all, from_all)
