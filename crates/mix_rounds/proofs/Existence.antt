-- Every start has a greatest closed mix, or no closed mix is inside it: take one number after another that a tell or a drop
-- takes, until none does or some variable has no number left. The weight falls each time.
use Rattle.std.proofs.Common.{ℕ, ℤ, pos, zero, suc, ◌≡◌, ◌≢◌, ◌+◌, ◌-◌, ◌^◌, ◌<◌, ◌≤◌, ◌≤ℤ◌, ◌<ℤ◌, ◌+ℤ◌, ◌-ℤ◌, Bool, true, false, List, [], ◌∷◌, ◌++◌, length, get_or, set, map, arith, refl, sym, ap, subst, ◌∙◌, inl, inr, w64}
use Rattle.std.specs.Prelude.{cond, min, ◌||◌, int_lt, bit_and, unsigned_abs, Option, None, Some, MatchOption}
use Rattle.std.specs.Int.{bit_at}
use Rattle.std.specs.List.{All, Contains, filter, flat_map}
use Rattle.std.proofs.Math.ListN.{length-set}
use Rattle.std.proofs.lemmas.Int.{ints}
use Rattle.std.proofs.lemmas.Bool.{cases_eq, cases_lt}
use Rattle.std.proofs.lemmas.Nat.{pow_below, and_le_l}
use Rattle.std.proofs.lemmas.Nat.Bits.{bit_at-lt, bit_at_and, bit_at_not, bit_at_above, bit_at-pow_same, bit_at-pow_other}
use Rattle.std.proofs.lemmas.List.Elements.{All-nil, All-cons, All-head, All-tail, All-append, All-map, All-contains}
use Rattle.interval.specs.Limits.{IsBound}
use Rattle.interval.specs.Boxes.{Bounds, low_of, high_of, IsInRange, IsProper, IsCrossed}
use Rattle.guarded_tell.specs.declared.kernel.Kernel.{Kernel}
use Rattle.guarded_tell.specs.Words.{Tell, Side, Low, High, Keeps, KeepsSide, IsProperIn}
use Rattle.guarded_tell.specs.Kernels.{vars_of, tells, IsKernel}
use Rattle.tell_laws.specs.Narrowing.{narrows, narrows_side, narrowing}
use Rattle.fixpoint_laws.specs.Greatest.{is_crossed_box}
use Rattle.bit_domain.specs.Bits.{IsSubset}
use Rattle.bit_domain.specs.declared.dom.Dom.{Dom}
use Rattle.bit_domain.specs.declared.dom.Dom.TheVariants.{Bits, Pair}
use Rattle.bit_domain.specs.Mixes.{Mix, dom_of, hull, hull_of, Has, IsBits, IsDomInRange, IsMixInRange, IsInsideDom, IsInsideMix}
use Rattle.domain_drops.specs.Hearing.{Drop}
use Rattle.domain_drops.specs.Drops.{drops, IsInsideMixIn}
use Rattle.domain_drops.specs.Closed.{weight_of, InsideMixOrder, IsClosedMixUnder, IsClosedMix, IsGreatestMix, FailsMix}
use Rattle.mix_rounds.specs.Greatest.{without, told_dom, tell_step, drop_step, steps_of, after_first, narrowed_in}
use Rattle.mix_rounds.specs.Existence.{GreatestMixIsComputed}
use Rattle.mix_rounds.proofs.MixLaws.{dom_put, dom_other, dom_itself, inside_itself, inside_through, low_at, high_at, length_hull}
use Rattle.mix_rounds.proofs.Hearing.{Monotone, TellPlace, HullInside, DropLaw, DropPlace, Within, Ends, hull_kernel}
use Rattle.mix_rounds.proofs.Ending.{Lighter, crossed_fails}

-- ---- a domain without one number

-- where the number is, as a place among the bits
place_is : (base z : ℤ) (i : ℕ) → z ≡ base +ℤ pos i → unsigned_abs (z -ℤ base) ≡ i
place_is base z i e = grind (arith, ints)

module _ (set i : ℕ) (small : i < 64) where
  abbrev cleared : ℕ
  cleared = bit_and set (2 ^ 64 - 1 - 2 ^ i)

  bits_of : (j : ℕ) → j < 64 → bit_at cleared j ≡ min (bit_at set j) (1 - bit_at (2 ^ i) j)
  bits_of j h = bit_at_and set (2 ^ 64 - 1 - 2 ^ i) j ∙ ap (min (bit_at set j)) (bit_at_not w64 (2 ^ i) j (pow_below i 64 small) h)

  gone_bit : bit_at cleared i ≡ 0
  gone_bit = let b = bits_of i small in let one = bit_at-pow_same i in omega arith

  kept_bit : (j : ℕ) → j < 64 → j ≢ i → bit_at cleared j ≡ bit_at set j
  kept_bit j h ne = let b = bits_of j h in let zero = bit_at-pow_other i j ne in let l = bit_at-lt set j in omega arith

  fewer_bits : (j : ℕ) → bit_at cleared j ≤ bit_at set j
  fewer_bits j = let b = bit_at_and set (2 ^ 64 - 1 - 2 ^ i) j in omega arith

-- a place of a number of a domain that can be kept is one of 64
place_small : (set i : ℕ) → set < 2 ^ 64 → bit_at set i ≡ 1 → i < 64
place_small set i short one = elim (cases_lt i 64) [ inl h ↦ h | inr h ↦ let z : bit_at set i ≡ 0 = bit_at_above set 64 i short h in absurd (omega arith) ]

-- from one domain to another inside it, which a domain inside the first that fulfils the fact is inside of too
pub record IsLess (d new : Dom) (fact : Dom → Type 0) : Type 0 where
  pub in_range : IsDomInRange new
  pub inside : IsInsideDom new d
  pub moves : new ≢ d
  pub holds : (c : Dom) → IsDomInRange c → IsInsideDom c d → fact c → IsInsideDom c new

abbrev set_of_dom : Dom → ℕ
set_of_dom (Bits base set) = set
set_of_dom (Pair low high) = 0

abbrev low_of_dom : Dom → ℤ
low_of_dom (Bits base set) = base
low_of_dom (Pair low high) = low

abbrev high_of_dom : Dom → ℤ
high_of_dom (Bits base set) = base
high_of_dom (Pair low high) = high

module _ (base : ℤ) (set i : ℕ) (r : IsDomInRange (Bits base set)) (one : bit_at set i ≡ 1) where
  small : i < 64
  small = place_small set i r.1 one

  bit_by_bit : (x : ℤ) (s : ℕ) → x ≡ base → IsSubset s set → ((Has (Bits x s) (base +ℤ pos i)) → ⊥) → IsSubset s (cleared set i small)
  bit_by_bit x s e sub none j = elim (cases_eq j i) [
    | inl q ↦ subst (λ (n : ℕ). bit_at s n ≤ bit_at (cleared set i small) n) (sym q) (at_place (bit_at s i) refl (bit_at-lt s i))
    | inr ne ↦ elim (cases_lt j 64) [
      | inl h ↦ let k = kept_bit set i small j h ne in omega (arith, sub j)
      | inr h ↦ let z : bit_at set j ≡ 0 = bit_at_above set 64 j r.1 h in omega (arith, sub j)
    ]
  ]
    where
      at_place : (n : ℕ) → bit_at s i ≡ n → n < 2 → n ≤ bit_at (cleared set i small) i
      at_place zero at l = omega arith
      at_place (suc zero) at l = absurd (none (i, at, ap (λ z. z +ℤ pos i) (sym e)))
      at_place (suc (suc n)) at l = absurd (omega arith)

  holds_dom : (c : Dom) → IsDomInRange c → IsInsideDom c (Bits base set) → (Has c (base +ℤ pos i) → ⊥) → IsInsideDom c (Bits base (cleared set i small))
  holds_dom (Bits x s) rc inside none = (inside.0, bit_by_bit x s inside.0 inside.1 none)
  holds_dom (Pair x s) rc inside none = absurd inside

  less_one : IsLess (Bits base set) (Bits base (cleared set i small)) (λ c. Has c (base +ℤ pos i) → ⊥)
  less_one = record {
    in_range = (r.0, (let l = and_le_l set (2 ^ 64 - 1 - 2 ^ i) in omega (arith, r.1)), λ j bit. r.2 j (let f = fewer_bits set i small j in let l = bit_at-lt set j in omega arith));
    inside = (refl, fewer_bits set i small);
    moves = λ e. let z : bit_at (cleared set i small) i ≡ bit_at set i = ap (λ (d : Dom). bit_at (set_of_dom d) i) e in let g = gone_bit set i small in absurd (omega arith);
    holds = holds_dom;
  }

-- a domain without one of its numbers
pub less_without : (d : Dom) (z : ℤ) → IsDomInRange d → IsBits d → Has d z → IsLess d (without d z) (λ c. Has c z → ⊥)
less_without (Bits base set) z r bits (i, one, at) =
    subst (λ (y : ℤ). IsLess (Bits base set) (without (Bits base set) y) (λ c. Has c y → ⊥)) (sym at)
    (subst (λ (n : ℕ). IsLess (Bits base set) (Bits base (bit_and set (2 ^ 64 - 1 - 2 ^ n))) (λ c. Has c (base +ℤ pos i) → ⊥)) (sym (place_is base (base +ℤ pos i) i refl))
    (less_one base set i r one))
less_without (Pair low high) z r bits has = absurd bits

-- ---- a domain after a narrowing tell

abbrev KeptAt : Side → ℤ → Dom → Type 0
KeptAt Low bound d = bound ≤ℤ (hull_of d).0
KeptAt High bound d = (hull_of d).1 ≤ℤ bound

abbrev NarrowedAt : Side → ℤ → Dom → Type 0
NarrowedAt Low bound d = (hull_of d).0 <ℤ bound
NarrowedAt High bound d = bound <ℤ (hull_of d).1

less_by : (d new : Dom) (f g : Dom → Type 0) → ((c : Dom) → IsDomInRange c → f c → g c) → IsLess d new g → IsLess d new f
less_by d new f g map l = record { in_range = l.in_range; inside = l.inside; moves = l.moves; holds = λ c r i h. l.holds c r i (map c r h) }

module _ (within : Within) (ends : Ends) where
  less_told : (d : Dom) (side : Side) (bound : ℤ) → IsDomInRange d → IsBound bound → (hull_of d).0 ≤ℤ (hull_of d).1 → NarrowedAt side bound d →
      IsLess d (told_dom d side bound) (KeptAt side bound)
  less_told (Bits base set) Low bound r b p n =
      less_by (Bits base set) (told_dom (Bits base set) Low bound) (KeptAt Low bound) (λ c. Has c (hull_of (Bits base set)).0 → ⊥)
      (λ c rc k has. let w = within c (hull_of (Bits base set)).0 rc has in omega (arith, ints, w.0, k, n))
      (less_without (Bits base set) (hull_of (Bits base set)).0 r tt (ends (Bits base set) r p).0)
  less_told (Bits base set) High bound r b p n =
      less_by (Bits base set) (told_dom (Bits base set) High bound) (KeptAt High bound) (λ c. Has c (hull_of (Bits base set)).1 → ⊥)
      (λ c rc k has. let w = within c (hull_of (Bits base set)).1 rc has in omega (arith, ints, w.1, k, n))
      (less_without (Bits base set) (hull_of (Bits base set)).1 r tt (ends (Bits base set) r p).1)
  less_told (Pair low high) Low bound r b p n = record {
    in_range = (b, r.1);
    inside = (omega (arith, ints, n), omega (arith, ints));
    moves = λ e. let z : bound ≡ low = ap low_of_dom e in absurd (omega (arith, ints, n));
    holds = held_low low high bound;
  }
    where
      held_low : (low high bound : ℤ) (c : Dom) → IsDomInRange c → IsInsideDom c (Pair low high) → KeptAt Low bound c → IsInsideDom c (Pair bound high)
      held_low low high bound (Pair a b) rc i k = (k, i.1)
      held_low low high bound (Bits x s) rc i k = absurd i
  less_told (Pair low high) High bound r b p n = record {
    in_range = (r.0, b);
    inside = (omega (arith, ints), omega (arith, ints, n));
    moves = λ e. let z : bound ≡ high = ap high_of_dom e in absurd (omega (arith, ints, n));
    holds = held_high low high bound;
  }
    where
      held_high : (low high bound : ℤ) (c : Dom) → IsDomInRange c → IsInsideDom c (Pair low high) → KeptAt High bound c → IsInsideDom c (Pair low bound)
      held_high low high bound (Pair a b) rc i k = (i.0, k)
      held_high low high bound (Bits x s) rc i k = absurd i

narrowed_side : (s : Side) (b : Bounds) (v : ℕ) (z : ℤ) (d : Dom) → low_of b v ≡ (hull_of d).0 → high_of b v ≡ (hull_of d).1 → narrows_side b s v z ≡ true → NarrowedAt s z d
narrowed_side Low b v z d l h e = omega (arith, ints)
narrowed_side High b v z d l h e = omega (arith, ints)

kept_side : (s : Side) (b : Bounds) (v : ℕ) (z : ℤ) (d : Dom) → low_of b v ≡ (hull_of d).0 → high_of b v ≡ (hull_of d).1 → KeepsSide b s v z → KeptAt s z d
kept_side Low b v z d l h k = omega (arith, ints)
kept_side High b v z d l h k = omega (arith, ints)

unnarrowed_side : (s : Side) (b : Bounds) (v : ℕ) (z : ℤ) → narrows_side b s v z ≡ false → KeepsSide b s v z
unnarrowed_side Low b v z e = omega (arith, ints)
unnarrowed_side High b v z e = omega (arith, ints)

-- ---- lists

passed_here : {X Y : Type 0} (p : X → Bool) (f : X → Y) (Q : Y → Type 0) (x : X) (xs : List X) (m : Bool) → p x ≡ m → (p x ≡ true → Q (f x)) →
    All Q (map f (filter p xs)) → All Q (map f (cond m (x ∷ filter p xs) (filter p xs)))
passed_here p f Q x xs true e here rest = All-cons Q (f x) (map f (filter p xs)) (here e) rest
passed_here p f Q x xs false e here rest = rest

-- what holds of those that pass a test, holds of the images of the filtered list
all_passed : {X Y : Type 0} (p : X → Bool) (f : X → Y) (Q : Y → Type 0) (xs : List X) → All (λ x. p x ≡ true → Q (f x)) xs → All Q (map f (filter p xs))
all_passed p f Q [] a = All-nil Q
all_passed p f Q (x ∷ xs) a = passed_here p f Q x xs (p x) refl (All-head (λ y. p y ≡ true → Q (f y)) x xs a) (all_passed p f Q xs (All-tail (λ y. p y ≡ true → Q (f y)) x xs a))

failed_here : {X : Type 0} (p : X → Bool) (x : X) (xs : List X) (m : Bool) → p x ≡ m → cond m (x ∷ filter p xs) (filter p xs) ≡ [] →
    (filter p xs ≡ [] → All (λ y. p y ≡ false) xs) → All (λ y. p y ≡ false) (x ∷ xs)
failed_here p x xs true q n rest = let l : suc (length (filter p xs)) ≡ 0 = ap length n in absurd (omega arith)
failed_here p x xs false q n rest = All-cons (λ y. p y ≡ false) x xs q (rest n)

-- where none passes, each fails
none_passed : {X : Type 0} (p : X → Bool) (xs : List X) → filter p xs ≡ [] → All (λ x. p x ≡ false) xs
none_passed p [] e = All-nil (λ x. p x ≡ false)
none_passed p (x ∷ xs) e = failed_here p x xs (p x) refl e (none_passed p xs)

both_empty : {X : Type 0} (xs ys : List X) → xs ++ ys ≡ [] → (xs ≡ []) × (ys ≡ [])
both_empty [] ys e = (refl, e)
both_empty (x ∷ xs) ys e = let l : suc (length (xs ++ ys)) ≡ 0 = ap length e in absurd (omega arith)

unmapped : {X Y : Type 0} (f : X → Y) (xs : List X) → map f xs ≡ [] → xs ≡ []
unmapped f [] e = refl
unmapped f (x ∷ xs) e = let l : suc (length (map f xs)) ≡ 0 = ap length e in absurd (omega arith)

contains_first : {X : Type 0} (x : X) (xs : List X) → Contains (x ∷ xs) x
contains_first x xs = (0, omega arith, refl)

contains_later : {X : Type 0} (y : X) (xs : List X) (x : X) → Contains xs x → Contains (y ∷ xs) x
contains_later y xs x (k, h, e) = (suc k, omega arith, e)

-- ---- steps

-- a variable gets a smaller domain, inside of which lies that of each mix that is closed under the kernel
record IsStep (m : Mix) (k : Kernel) (s : ℕ × Dom) : Type 0 where
  variable : s.0 < length m
  in_range : IsDomInRange s.1
  inside : IsInsideDom s.1 (dom_of m s.0)
  moves : s.1 ≢ dom_of m s.0
  holds : (c : Mix) → IsMixInRange c → IsClosedMixUnder k c → IsInsideMix c m → IsInsideDom (dom_of c s.0) s.1

step_of : (m : Mix) (k : Kernel) (v : ℕ) (new : Dom) (fact : Dom → Type 0) → v < length m → IsLess (dom_of m v) new fact →
    ((c : Mix) → IsMixInRange c → IsClosedMixUnder k c → IsInsideMix c m → fact (dom_of c v)) → IsStep m k (v, new)
step_of m k v new fact h l facts = record {
  variable = h;
  in_range = l.in_range;
  inside = l.inside;
  moves = l.moves;
  holds = λ c r q i. l.holds (dom_of c v) (r.doms v (omega (arith, i.same_length))) (i.doms v h) (facts c r q i);
}

-- what the first step of some kernels is, or that none has one
abbrev FirstIs : Mix → List Kernel → List (ℕ × Dom) → Type 0
FirstIs m kernels [] = All (λ k. steps_of m k ≡ []) kernels
FirstIs m kernels (s ∷ ss) = (k : Kernel) × Contains kernels k × IsStep m k s

first_later : (m : Mix) (k : Kernel) (ks : List Kernel) (rest : List (ℕ × Dom)) → steps_of m k ≡ [] → FirstIs m ks rest → FirstIs m (k ∷ ks) rest
first_later m k ks [] e f = All-cons (λ (j : Kernel). steps_of m j ≡ []) k ks e f
first_later m k ks (s ∷ ss) e (j, has, step) = (j, contains_later k ks j has, step)

first_here : (m : Mix) (k : Kernel) (ks : List Kernel) (here rest : List (ℕ × Dom)) → steps_of m k ≡ here → All (IsStep m k) here → FirstIs m ks rest → FirstIs m (k ∷ ks) (here ++ rest)
first_here m k ks [] rest e a f = first_later m k ks rest e f
first_here m k ks (s ∷ ss) rest e a f = (k, contains_first k ks, All-head (IsStep m k) s ss a)

first_is : (m : Mix) (kernels : List Kernel) → All (λ k. All (IsStep m k) (steps_of m k)) kernels → FirstIs m kernels (flat_map (steps_of m) kernels)
first_is m [] a = All-nil (λ (k : Kernel). steps_of m k ≡ [])
first_is m (k ∷ ks) a =
    first_here m k ks (steps_of m k) (flat_map (steps_of m) ks) refl (All-head (λ (j : Kernel). All (IsStep m j) (steps_of m j)) k ks a)
    (first_is m ks (All-tail (λ (j : Kernel). All (IsStep m j) (steps_of m j)) k ks a))

-- ---- the test of a box tells whether it is crossed

proper_cons : (p : ℤ × ℤ) (b : Bounds) → p.0 ≤ℤ p.1 → IsProper b → IsProper (p ∷ b)
proper_cons p b c f zero h = c
proper_cons p b c f (suc v) h = f v (omega arith)

abbrev CrossedIs : Bounds → Bool → Type 0
CrossedIs b true = IsCrossed b
CrossedIs b false = IsProper b

crossed_later : (p : ℤ × ℤ) (b : Bounds) (m n : Bool) → int_lt p.1 p.0 ≡ m → CrossedIs b n → CrossedIs (p ∷ b) (m || n)
crossed_later p b true n e c = (0, omega arith, omega (arith, ints))
crossed_later p b false true e c = (suc c.0, omega (arith, c.1), c.2)
crossed_later p b false false e c = proper_cons p b (omega (arith, ints)) c

crossed_is : (b : Bounds) → CrossedIs b (is_crossed_box b)
unfolding is_crossed_box
crossed_is [] = λ v h. omega arith
crossed_is (p ∷ b) = crossed_later p b (int_lt p.1 p.0) (is_crossed_box b) refl (crossed_is b)

-- ---- the laws

module _ (monotone : Monotone) (place : TellPlace) (inside : HullInside) (hull_range : (m : Mix) → IsMixInRange m → IsInRange (hull m)) (within : Within) (ends : Ends) (drop : DropLaw) (drop_place : DropPlace)
    (order : InsideMixOrder) (lighter : Lighter) where
  module _ (m : Mix) (k : Kernel) (range : IsMixInRange m) (kernel : IsKernel (length m) k) (proper : IsProper (hull m)) where
    in_vars : (c : Mix) → IsInsideMix c m → IsInsideMixIn (vars_of k) c m
    in_vars c i = record { doms = λ j h. i.doms (get_or (vars_of k) j 0) (kernel.variables.each j h) }

    proper_vars : IsProperIn (vars_of k) (hull m)
    proper_vars j h = proper (get_or (vars_of k) j 0) (omega (arith, kernel.variables.each j h, length_hull m))

    kept_tells : (c : Mix) → IsClosedMixUnder k c → IsInsideMix c m → All (Keeps (hull c)) (tells k (hull m))
    kept_tells c q i =
        monotone k (hull m) (hull c) (hull_kernel k m kernel) (hull_range m range) (length_hull c ∙ i.same_length ∙ sym (length_hull m)) proper_vars q.bounds
        (inside (vars_of k) c m kernel.variables range q.bounds.proper (in_vars c i))

    tell_is_step : (j : ℕ) (t : Tell) → j < length (tells k (hull m)) → narrows (hull m) (get_or (tells k (hull m)) j t) ≡ true → IsStep m k (tell_step m (get_or (tells k (hull m)) j t))
    tell_is_step j t h e =
        let u : Tell = get_or (tells k (hull m)) j t in
        let at = place k (hull m) (hull_kernel k m kernel) j t h in
        let v : u.var < length m = omega (arith, at.1, length_hull m) in
        let p = proper u.var at.1 in
        step_of m k u.var (told_dom (dom_of m u.var) u.side u.bound) (KeptAt u.side u.bound) v
        (less_told within ends (dom_of m u.var) u.side u.bound (range.doms u.var v) at.2 (omega (arith, ints, p, low_at m u.var v, high_at m u.var v))
        (narrowed_side u.side (hull m) u.var u.bound (dom_of m u.var) (low_at m u.var v) (high_at m u.var v) e))
        (λ c r q i. let w : u.var < length c = omega (arith, v, i.same_length) in
        kept_side u.side (hull c) u.var u.bound (dom_of c u.var) (low_at c u.var w) (high_at c u.var w) (kept_tells c q i j t h))

    drop_is_step : (j : ℕ) (d : Drop) → j < length (drops k m) → IsStep m k (drop_step m (get_or (drops k m) j d))
    drop_is_step j d h =
        let e : Drop = get_or (drops k m) j d in
        let at = drop_place k m kernel range j d h in
        step_of m k e.0 (without (dom_of m e.0) e.1) (λ c. Has c e.1 → ⊥) at.1
        (less_without (dom_of m e.0) e.1 (range.doms e.0 at.1) at.2 at.3)
        (λ c r q i. drop k m c kernel range q (in_vars c i) j d h)

    steps_are : All (IsStep m k) (steps_of m k)
    unfolding steps_of
    steps_are = All-append (IsStep m k) (map (tell_step m) (narrowing (hull m) (tells k (hull m)))) (map (drop_step m) (drops k m))
        (all_passed (narrows (hull m)) (tell_step m) (IsStep m k) (tells k (hull m)) (λ j t h. tell_is_step j t h))
        (All-map (IsStep m k) (drop_step m) (drops k m) (λ j d h. drop_is_step j d h))

    -- where there is no step, the mix is closed under the kernel
    closed_under : steps_of m k ≡ [] → IsClosedMixUnder k m
    unfolding steps_of
    closed_under e =
        let both = both_empty (map (tell_step m) (narrowing (hull m) (tells k (hull m)))) (map (drop_step m) (drops k m)) e in
        let none = none_passed (narrows (hull m)) (tells k (hull m)) (unmapped (tell_step m) (narrowing (hull m) (tells k (hull m))) both.0) in
        record {
          bounds = record {
            proper = proper_vars;
            kept = λ j t h. let u : Tell = get_or (tells k (hull m)) j t in unnarrowed_side u.side (hull m) u.var u.bound (none j t h);
          };
          whole = unmapped (drop_step m) (drops k m) both.1;
        }

  -- a step from a mix to the next
  module _ (m : Mix) (k : Kernel) (s : ℕ × Dom) (range : IsMixInRange m) (step : IsStep m k s) where
    next_inside : IsInsideMix (set m s.0 s.1) m
    next_inside = record {
      same_length = length-set m s.0 s.1;
      doms = λ v h. elim (cases_eq v s.0) [
        | inl q ↦ subst (λ (w : ℕ). IsInsideDom (dom_of (set m s.0 s.1) w) (dom_of m w)) (sym q) (subst (λ (d : Dom). IsInsideDom d (dom_of m s.0)) (sym (dom_put m s.0 s.1 step.variable)) step.inside)
        | inr ne ↦ subst (λ (d : Dom). IsInsideDom d (dom_of m v)) (sym (dom_other m s.0 s.1 v ne)) (dom_itself (dom_of m v))
      ];
    }

    next_moves : set m s.0 s.1 ≢ m
    next_moves e = step.moves (sym (dom_put m s.0 s.1 step.variable) ∙ ap (λ (x : Mix). dom_of x s.0) e)

    next_range : IsMixInRange (set m s.0 s.1)
    next_range = record {
      short = omega (arith, range.short, length-set m s.0 s.1);
      doms = λ v h. elim (cases_eq v s.0) [
        | inl q ↦ subst (λ (w : ℕ). IsDomInRange (dom_of (set m s.0 s.1) w)) (sym q) (subst IsDomInRange (sym (dom_put m s.0 s.1 step.variable)) step.in_range)
        | inr ne ↦ subst IsDomInRange (sym (dom_other m s.0 s.1 v ne)) (range.doms v (omega (arith, length-set m s.0 s.1)))
      ];
    }

    next_holds : (c : Mix) → IsMixInRange c → IsClosedMixUnder k c → IsInsideMix c m → IsInsideMix c (set m s.0 s.1)
    next_holds c r q i = record {
      same_length = i.same_length ∙ sym (length-set m s.0 s.1);
      doms = λ v h. elim (cases_eq v s.0) [
        | inl p ↦ subst (λ (w : ℕ). IsInsideDom (dom_of c w) (dom_of (set m s.0 s.1) w)) (sym p) (subst (λ (d : Dom). IsInsideDom (dom_of c s.0) d) (sym (dom_put m s.0 s.1 step.variable)) (step.holds c r q i))
        | inr ne ↦ subst (λ (d : Dom). IsInsideDom (dom_of c v) d) (sym (dom_other m s.0 s.1 v ne)) (i.doms v (omega (arith, length-set m s.0 s.1)))
      ];
    }

  -- the answer for a start
  abbrev Answers : List Kernel → Mix → Option Mix → Type 0
  Answers kernels start o = MatchOption o (FailsMix start kernels) (λ g. IsGreatestMix g start kernels)

  -- what holds of a smaller mix that holds each closed mix, holds of the start
  answers_back : (start m : Mix) (kernels : List Kernel) (o : Option Mix) → IsInsideMix m start →
      ((c : Mix) → IsClosedMix c kernels → IsInsideMix c start → IsInsideMix c m) → Answers kernels m o → Answers kernels start o
  answers_back start m kernels (Some g) i keeps r = record {
    closed = r.closed;
    inside = inside_through g m start r.inside i;
    greatest = λ c closed j. r.greatest c closed (keeps c closed j);
  }
  answers_back start m kernels None i keeps f = λ c closed j. f c closed (keeps c closed j)

  -- how an answer for a start is had from answers for smaller ones
  abbrev Next : List Kernel → ℕ → Type 0
  Next kernels steps = (m : Mix) → IsMixInRange m → All (IsKernel (length m)) kernels → (IsProper (hull m) → weight_of m < steps) →
      Answers kernels m (narrowed_in steps kernels m)

  module _ (kernels : List Kernel) where
    by_step : (steps : ℕ) (m : Mix) (ss : List (ℕ × Dom)) → IsMixInRange m → All (IsKernel (length m)) kernels → IsProper (hull m) → weight_of m < suc steps → Next kernels steps →
        FirstIs m kernels ss → Answers kernels m (after_first ss m (narrowed_in steps kernels))
    by_step steps m [] r all p w next none = record {
      closed = record { proper = p; quiet = λ j k h. closed_under m (get_or kernels j k) r (all j k h) p (none j k h) };
      inside = inside_itself m;
      greatest = λ c closed i. i;
    }
    by_step steps m (s ∷ ss) r all p w next (k, has, step) =
        let i : IsInsideMix (set m s.0 s.1) m = next_inside m k s r step in
        answers_back m (set m s.0 s.1) kernels (narrowed_in steps kernels (set m s.0 s.1)) i
        (λ c closed j. next_holds m k s r step c (order.in_range c m closed.proper r j) (All-contains (λ (q : Kernel). IsClosedMixUnder q c) kernels k closed.quiet has) j)
        (next (set m s.0 s.1) (next_range m k s r step) (subst (λ (n : ℕ). All (IsKernel n) kernels) (sym i.same_length) all)
        (λ q. let less = lighter (set m s.0 s.1) m q r i (next_moves m k s r step) in omega (arith, less, w)))

    by_test : (steps : ℕ) (m : Mix) (b : Bool) → CrossedIs (hull m) b → IsMixInRange m → All (IsKernel (length m)) kernels → (IsProper (hull m) → weight_of m < suc steps) → Next kernels steps →
        Answers kernels m (cond b None (after_first (flat_map (steps_of m) kernels) m (narrowed_in steps kernels)))
    by_test steps m true x r all w next = crossed_fails order kernels m r x
    by_test steps m false p r all w next =
        by_step steps m (flat_map (steps_of m) kernels) r all p (w p) next (first_is m kernels (λ j k h. steps_are m (get_or kernels j k) r (all j k h) p))

    by_weight : (steps : ℕ) → Next kernels steps
    unfolding narrowed_in
    by_weight zero m r all w = λ c closed i. absurd (omega (arith, w (order.outer_is_proper c m closed.proper r i)))
    by_weight (suc steps) m r all w = by_test steps m (is_crossed_box (hull m)) (crossed_is (hull m)) r all w (by_weight steps)

  pub greatest_is_computed : GreatestMixIsComputed
  greatest_is_computed start kernels r all = by_weight kernels (weight_of start + 1) start r all (λ p. omega arith)
