-- The members of a set as a list: its first and its last, and those that are left without the first.
use Rattle.std.proofs.Common.{ℕ, zero, suc, ◌≡◌, ◌≢◌, ◌+◌, ◌<◌, ◌≤◌, Bool, true, false, cond, List, [], ◌∷◌, map, length, ◌⊎◌, inl, inr, ⊎_elim, refl, sym, ap, ◌∙◌, subst, arith, w64}
use Rattle.std.specs.Prelude.{nat_eq, ℤ, ◌*◌, ◌%◌, ◌^◌, bit_and}
use Rattle.std.specs.Int.{bit_at, bit_not}
use Rattle.std.specs.List.{filter, range_with_len, Contains}
use Rattle.std.proofs.lemmas.Bool.{true≢false}
use Rattle.std.proofs.lemmas.Nat.{and_le_l}
use Rattle.std.proofs.lemmas.Nat.Bits.{bit_at-zero, bit_at-lt, bit_at_and, same_from_bits_below, bit_at_clear_same, bit_at_clear_other}
use mathlib.Core.Logic.{dite}
use native.Mathlib.Decide.{ℕ_discrete}
use Rattle.bit_domain.specs.Bits.{members, IsSubset, IsLeast, IsGreatest}
use Rattle.bit_domain.specs.Mixes.{last_of}

pub by_bool : {P : Type 0} (b : Bool) → (b ≡ true → P) → (b ≡ false → P) → P
by_bool true f g = f refl
by_bool false f g = g refl

abbrev has : ℕ → ℕ → Bool
has set i = nat_eq (bit_at set i) 1

-- what is listed of a set from a place on
abbrev listed : ℕ → ℕ → ℕ → List ℕ
listed set a n = filter (has set) (range_with_len a n)

is_in : (set i : ℕ) → bit_at set i ≡ 1 → has set i ≡ true
is_in set i e = ap (λ (b : ℕ). nat_eq b 1) e

is_not_in : (set i : ℕ) → bit_at set i ≡ 0 → has set i ≡ false
is_not_in set i e = ap (λ (b : ℕ). nat_eq b 1) e

-- the list with one more place in front
kept : (set a n : ℕ) → has set a ≡ true → listed set a (suc n) ≡ a ∷ listed set (a + 1) n
kept set a n e = ap (λ (b : Bool). cond b (a ∷ listed set (a + 1) n) (listed set (a + 1) n)) e

left_out : (set a n : ℕ) → has set a ≡ false → listed set a (suc n) ≡ listed set (a + 1) n
left_out set a n e = ap (λ (b : Bool). cond b (a ∷ listed set (a + 1) n) (listed set (a + 1) n)) e

none_listed : (set a n : ℕ) → ((i : ℕ) → a ≤ i → bit_at set i ≡ 0) → listed set a n ≡ []
none_listed set a zero h = refl
none_listed set a (suc n) h =
    left_out set a n (is_not_in set a (h a (omega arith))) ∙ none_listed set (a + 1) n (λ i le. h i (omega arith))

same_listed : (set rest a n : ℕ) → ((i : ℕ) → a ≤ i → i < a + n → bit_at rest i ≡ bit_at set i) → listed set a n ≡ listed rest a n
same_listed set rest a zero h = refl
same_listed set rest a (suc n) h =
    let e : has set a ≡ has rest a = ap (λ (b : ℕ). nat_eq b 1) (sym (h a (omega arith) (omega arith))) in
    let more = same_listed set rest (a + 1) n (λ i le less. h i (omega arith) (omega arith)) in
    (λ j. cond (e j) (a ∷ more j) (more j))

first_listed : (set rest t a n : ℕ) → a ≤ t → t < a + n → bit_at set t ≡ 1 → ((i : ℕ) → i < t → bit_at set i ≡ 0)
    → bit_at rest t ≡ 0 → ((i : ℕ) → i < a + n → i ≢ t → bit_at rest i ≡ bit_at set i) → listed set a n ≡ t ∷ listed rest a n
first_listed set rest t a zero from to inside below gone others = absurd (omega arith)
first_listed set rest t a (suc n) from to inside below gone others = dite (ℕ_discrete a t)
    (λ (e : a ≡ t).
    let here : has set a ≡ true = is_in set a (subst (λ (x : ℕ). bit_at set x ≡ 1) (sym e) inside) in
    let out : has rest a ≡ false = is_not_in rest a (subst (λ (x : ℕ). bit_at rest x ≡ 0) (sym e) gone) in
    let more = same_listed set rest (a + 1) n (λ i le less. others i (omega arith) (omega arith)) in
    kept set a n here ∙ (λ j. e j ∷ more j) ∙ ap (λ (xs : List ℕ). t ∷ xs) (sym (left_out rest a n out)))
    (λ (ne : a ≢ t).
    let no = below a (omega arith) in
    let same = others a (omega arith) ne in
    let out : bit_at rest a ≡ 0 = same ∙ no in
    let more = first_listed set rest t (a + 1) n (omega arith) (omega arith) inside below gone (λ i less other. others i (omega arith) other) in
    left_out set a n (is_not_in set a no) ∙ more ∙ ap (λ (xs : List ℕ). t ∷ xs) (sym (left_out rest a n (is_not_in rest a out))))

last_listed : (f : ℕ → ℤ) (set u a n : ℕ) (z : ℤ) → a ≤ u → u < a + n → bit_at set u ≡ 1 → ((i : ℕ) → u < i → bit_at set i ≡ 0)
    → last_of z (map f (listed set a n)) ≡ f u
unfolding last_of
last_listed f set u a zero z from to inside above = absurd (omega arith)
last_listed f set u a (suc n) z from to inside above = dite (ℕ_discrete a u)
    (λ (e : a ≡ u).
    let here : has set a ≡ true = is_in set a (subst (λ (x : ℕ). bit_at set x ≡ 1) (sym e) inside) in
    let none = none_listed set (a + 1) n (λ i le. above i (omega arith)) in
    ap (λ (xs : List ℕ). last_of z (map f xs)) (kept set a n here) ∙ ap (λ (xs : List ℕ). last_of (f a) (map f xs)) none ∙ ap f e)
    (λ (ne : a ≢ u).
    let more : (y : ℤ) → last_of y (map f (listed set (a + 1) n)) ≡ f u = (λ y. last_listed f set u (a + 1) n y (omega arith) (omega arith) inside above) in
    by_bool (has set a)
    (λ e. ap (λ (xs : List ℕ). last_of z (map f xs)) (kept set a n e) ∙ more (f a))
    (λ e. ap (λ (xs : List ℕ). last_of z (map f xs)) (left_out set a n e) ∙ more z))

pub members_none : members 0 ≡ []
unfolding members
members_none = none_listed 0 0 64 (λ i le. bit_at-zero i)

-- the set without its least member
abbrev pub cleared : ℕ → ℕ → ℕ
cleared set i = bit_and set (bit_not w64 (1 * 2 ^ i % 2 ^ 64))

pub members_first : (set rest i : ℕ) → IsLeast set i → bit_at rest i ≡ 0 → ((j : ℕ) → j < 64 → j ≢ i → bit_at rest j ≡ bit_at set j) → members set ≡ i ∷ members rest
unfolding members
members_first set rest i least gone others = first_listed set rest i 0 64 (omega arith) least.small least.inside least.below gone others

pub members_some : (set i : ℕ) → IsLeast set i → members set ≡ i ∷ members (cleared set i)
members_some set i least =
    members_first set (cleared set i) i least (bit_at_clear_same w64 set i least.small) (λ j less ne. bit_at_clear_other w64 set i least.small j less ne)

pub members_last : (f : ℕ → ℤ) (set i : ℕ) (z : ℤ) → IsGreatest set i → last_of z (map f (members set)) ≡ f i
unfolding members
members_last f set i z greatest = last_listed f set i 0 64 z (omega arith) greatest.small greatest.inside greatest.above

-- ---- the members are those that the set has

pub contains_first : {X : Type 0} (x : X) (xs : List X) → Contains (x ∷ xs) x
contains_first x xs = (0, omega arith, refl)

pub contains_later : {X : Type 0} (y x : X) (xs : List X) → Contains xs x → Contains (y ∷ xs) x
contains_later y x xs (k, l, e) = (suc k, omega arith, e)

pub contains_cases : {X : Type 0} (y x : X) (xs : List X) → Contains (y ∷ xs) x → (y ≡ x) ⊎ Contains xs x
contains_cases y x xs (zero, l, e) = inl e
contains_cases y x xs (suc k, l, e) = inr (k, omega arith, e)

is_one : (set i : ℕ) → has set i ≡ true → bit_at set i ≡ 1
is_one set i e =
    let small = bit_at-lt set i in
    dite (ℕ_discrete (bit_at set i) 1)
    (λ (one : bit_at set i ≡ 1). one)
    (λ (ne : bit_at set i ≢ 1). let out = is_not_in set i (omega arith) in absurd (true≢false (sym e ∙ out)))

listed_has : (f : ℕ → ℤ) (set a n : ℕ) (z : ℤ) → Contains (map f (listed set a n)) z → (i : ℕ) × (bit_at set i ≡ 1) × (z ≡ f i)
listed_has f set a zero z (k, l, e) = absurd (omega arith)
listed_has f set a (suc n) z h = by_bool (has set a)
    (λ e.
    let P : List ℕ → Type 0 = λ xs. Contains (map f xs) z in
    ⊎_elim
    (λ (same : f a ≡ z). (a, is_one set a e, sym same))
    (λ (more : Contains (map f (listed set (a + 1) n)) z). listed_has f set (a + 1) n z more)
    (contains_cases (f a) z (map f (listed set (a + 1) n)) (subst P (kept set a n e) h)))
    (λ e.
    let P : List ℕ → Type 0 = λ xs. Contains (map f xs) z in
    listed_has f set (a + 1) n z (subst P (left_out set a n e) h))

has_listed : (f : ℕ → ℤ) (set a n i : ℕ) → a ≤ i → i < a + n → bit_at set i ≡ 1 → Contains (map f (listed set a n)) (f i)
has_listed f set a zero i from to inside = absurd (omega arith)
has_listed f set a (suc n) i from to inside =
    let P : List ℕ → Type 0 = λ xs. Contains (map f xs) (f i) in
    dite (ℕ_discrete a i)
    (λ (e : a ≡ i).
    let here : has set a ≡ true = is_in set a (subst (λ (x : ℕ). bit_at set x ≡ 1) (sym e) inside) in
    let first : Contains (map f (a ∷ listed set (a + 1) n)) (f i) = subst (λ (x : ℕ). Contains (map f (a ∷ listed set (a + 1) n)) (f x)) e (contains_first (f a) (map f (listed set (a + 1) n))) in
    subst P (sym (kept set a n here)) first)
    (λ (ne : a ≢ i).
    let more = has_listed f set (a + 1) n i (omega arith) (omega arith) inside in
    by_bool (has set a)
    (λ e. subst P (sym (kept set a n e)) (contains_later (f a) (f i) (map f (listed set (a + 1) n)) more))
    (λ e. subst P (sym (left_out set a n e)) more))

pub members_has : (f : ℕ → ℤ) (set : ℕ) (z : ℤ) → Contains (map f (members set)) z → (i : ℕ) × (bit_at set i ≡ 1) × (z ≡ f i)
unfolding members
members_has f set z h = listed_has f set 0 64 z h

pub has_members : (f : ℕ → ℤ) (set i : ℕ) → i < 64 → bit_at set i ≡ 1 → Contains (map f (members set)) (f i)
unfolding members
has_members f set i small inside = has_listed f set 0 64 i (omega arith) (omega arith) inside

-- the set without its least member is a smaller number
pub cleared_less : (set i : ℕ) → IsLeast set i → cleared set i < set
cleared_less set i least =
    let gone : bit_at (cleared set i) i ≡ 0 = bit_at_clear_same w64 set i least.small in
    let le : cleared set i ≤ set = and_le_l set (bit_not w64 (1 * 2 ^ i % 2 ^ 64)) in
    dite (ℕ_discrete (cleared set i) set)
    (λ (e : cleared set i ≡ set).
    let one : bit_at (cleared set i) i ≡ 1 = subst (λ (n : ℕ). bit_at n i ≡ 1) (sym e) least.inside in
    let clash : 0 ≡ 1 = sym gone ∙ one in
    absurd (omega arith))
    (λ (ne : cleared set i ≢ set). omega arith)

pub cleared_inside : (set i : ℕ) → IsSubset (cleared set i) set
cleared_inside set i = λ j. let both = bit_at_and set (bit_not w64 (1 * 2 ^ i % 2 ^ 64)) j in omega arith

-- ---- how many members a set has

kept_length : (set a n : ℕ) → has set a ≡ true → length (listed set a (suc n)) ≡ suc (length (listed set (a + 1) n))
kept_length set a n e = ap (λ (xs : List ℕ). length xs) (kept set a n e)

left_length : (set a n : ℕ) → has set a ≡ false → length (listed set a (suc n)) ≡ length (listed set (a + 1) n)
left_length set a n e = ap (λ (xs : List ℕ). length xs) (left_out set a n e)

is_none : (set i : ℕ) → has set i ≡ false → bit_at set i ≡ 0
is_none set i e =
    let small = bit_at-lt set i in
    dite (ℕ_discrete (bit_at set i) 1)
    (λ (one : bit_at set i ≡ 1). let inside = is_in set i one in absurd (true≢false (sym inside ∙ e)))
    (λ (ne : bit_at set i ≢ 1). omega arith)

listed_bounded : (set a n : ℕ) → length (listed set a n) ≤ n
listed_bounded set a zero = omega arith
listed_bounded set a (suc n) =
    let rest = listed_bounded set (a + 1) n in
    by_bool (has set a)
    (λ e. let own = kept_length set a n e in omega arith)
    (λ e. let own = left_length set a n e in omega arith)

listed_fewer : (inner outer a n : ℕ) → IsSubset inner outer → length (listed inner a n) ≤ length (listed outer a n)
listed_fewer inner outer a zero subset = omega arith
listed_fewer inner outer a (suc n) subset =
    let rest = listed_fewer inner outer (a + 1) n subset in
    let le = subset a in
    by_bool (has inner a)
    (λ e.
    let small = bit_at-lt outer a in
    let one = is_one inner a e in
    let outer_one : bit_at outer a ≡ 1 = omega arith in
    let own = kept_length inner a n e in
    let other = kept_length outer a n (is_in outer a outer_one) in
    omega arith)
    (λ e.
    let own = left_length inner a n e in
    by_bool (has outer a)
    (λ f. let other = kept_length outer a n f in omega arith)
    (λ f. let other = left_length outer a n f in omega arith))

listed_same : (inner outer a n : ℕ) → IsSubset inner outer → length (listed inner a n) ≡ length (listed outer a n)
    → (i : ℕ) → a ≤ i → i < a + n → bit_at inner i ≡ bit_at outer i
listed_same inner outer a zero subset same i from to = absurd (omega arith)
listed_same inner outer a (suc n) subset same i from to =
    let fewer = listed_fewer inner outer (a + 1) n subset in
    let le = subset a in
    let small = bit_at-lt outer a in
    let further : length (listed inner (a + 1) n) ≡ length (listed outer (a + 1) n) → bit_at inner a ≡ bit_at outer a → bit_at inner i ≡ bit_at outer i = (λ lengths here.
    dite (ℕ_discrete a i)
    (λ (e : a ≡ i). subst (λ (j : ℕ). bit_at inner j ≡ bit_at outer j) e here)
    (λ (ne : a ≢ i). listed_same inner outer (a + 1) n subset lengths i (omega arith) (omega arith))) in
    by_bool (has inner a)
    (λ e.
    let one = is_one inner a e in
    let outer_one : bit_at outer a ≡ 1 = omega arith in
    let own = kept_length inner a n e in
    let other = kept_length outer a n (is_in outer a outer_one) in
    further (omega arith) (omega arith))
    (λ e.
    let none = is_none inner a e in
    let own = left_length inner a n e in
    by_bool (has outer a)
    (λ f. let other = kept_length outer a n f in absurd (omega arith))
    (λ f. let other = left_length outer a n f in let outer_none = is_none outer a f in further (omega arith) (omega arith)))

pub members_bounded : (set : ℕ) → length (members set) ≤ 64
unfolding members
members_bounded set = listed_bounded set 0 64

pub members_fewer : (inner outer : ℕ) → IsSubset inner outer → length (members inner) ≤ length (members outer)
unfolding members
members_fewer inner outer subset = listed_fewer inner outer 0 64 subset

pub members_same : (inner outer : ℕ) → inner < 2 ^ 64 → outer < 2 ^ 64 → IsSubset inner outer → length (members inner) ≡ length (members outer) → inner ≡ outer
unfolding members
members_same inner outer short far subset same = same_from_bits_below 64 inner outer short far (λ i less. listed_same inner outer 0 64 subset same i (omega arith) (omega arith))
