-- Tests and the facts that they decide.
use Rattle.std.proofs.Common.{◌≡◌, ◌↔◌, ℕ, zero, suc, ◌+◌, ◌-◌, ◌<◌, ◌≤◌, ℤ, pos, negsuc, Bool, true, false, not, ◌&&◌, ◌||◌, List, [], ◌∷◌, length, map, drop, get_or, refl, sym, ap, subst, ◌∙◌, arith}
use Rattle.std.specs.Prelude.{◌≤ℤ◌, ◌<ℤ◌, ◌≢◌, int_le, unsigned_abs, slice_get, slice_index_or, All, Any, AllPairs, Contains}
use Rattle.std.specs.Bool.{Decides}
use Rattle.std.specs.Option.{option_map_or}
use Rattle.std.specs.List.{list_any, list_all}
use Rattle.std.specs.Ordering.{int_eq}
use Rattle.std.proofs.lemmas.Int.{ints}
use Rattle.std.proofs.lemmas.Bool.Decides.{Decides-int_eq, Decides-and, Decides-not, Decides-like, Decides-by_and}
use Rattle.std.proofs.lemmas.List.{drop_more, drop_all, get_or_default}
use Rattle.std.proofs.lemmas.List.Kept.{AllPairs-cons}
use Rattle.std.proofs.lemmas.List.Folds.{Any-from_list_any, list_any-from_Any, list_all-map}
use Rattle.constraint_model.specs.Ranges.{Range, IsIn}
use Rattle.constraint_model.specs.declared.model.Term.{Term}
use Rattle.constraint_model.specs.Relations.{value, IsTrueNumber, IsEntry}
use Rattle.constraint_check.specs.Tests.{is_true, same, is_in, all_differ}

pub untrue : {A : Type 0} → false ≡ true → A
untrue h = cc

-- what never holds
pub never : Decides false ⊥
never = (λ e. untrue e, λ h. absurd h)

-- two answers are the same exactly where two facts are equivalent
pub same_decides : {P Q : Type 0} (p q : Bool) → Decides p P → Decides q Q → Decides (same p q) (P ↔ Q)
same_decides true true f g = (λ e. (λ x. g.0 refl, λ y. f.0 refl), λ h. refl)
same_decides true false f g = (λ e. untrue e, λ h. untrue (g.1 (h.0 (f.0 refl))))
same_decides false true f g = (λ e. untrue e, λ h. untrue (f.1 (h.1 (g.0 refl))))
same_decides false false f g = (λ e. (λ x. untrue (f.1 x), λ y. untrue (g.1 y)), λ h. refl)

-- ---- numbers

pub le_decides : (x y : ℤ) → Decides (int_le x y) (x ≤ℤ y)
le_decides x y = (λ e. grind (arith, ints), λ h. grind (arith, ints))

pub less_decides : (x y : ℤ) → Decides (not (int_le y x)) (x <ℤ y)
less_decides x y = (λ e. grind (arith, ints), λ h. grind (arith, ints))

pub differs_decides : (x y : ℤ) → Decides (not (int_eq x y)) (x ≢ y)
differs_decides x y = Decides-not (int_eq x y) (Decides-int_eq x y)

pub true_decides : (z : ℤ) → Decides (is_true z) (IsTrueNumber z)
true_decides z = le_decides (pos 1) z

-- ---- lists

list_any-map : {X Y : Type 0} (v : X → Y) (p : Y → Bool) (xs : List X) → list_any (λ x. p (v x)) xs ≡ list_any p (map v xs)
list_any-map v p [] = refl
list_any-map v p (x ∷ xs) = ap (λ b. p (v x) || b) (list_any-map v p xs)

any_of : {Y : Type 0} (p : Y → Bool) (P : Y → Type 0) → ((y : Y) → Decides (p y) (P y)) → (ys : List Y) → Decides (list_any p ys) (Any P ys)
any_of p P h ys = (
  λ e. (let w = Any-from_list_any p ys e in (w.0, w.1, w.2, w.3, (h w.1).0 w.4)),
  λ w. list_any-from_Any p ys (w.0, w.1, w.2, w.3, (h w.1).1 w.4),
)

-- some, or each, of the values of some things
pub any_decides : {X Y : Type 0} (v : X → Y) (p : Y → Bool) (P : Y → Type 0) → ((y : Y) → Decides (p y) (P y)) → (xs : List X) → Decides (list_any (λ x. p (v x)) xs) (Any P (map v xs))
any_decides v p P h xs = subst (λ b. Decides b (Any P (map v xs))) (sym (list_any-map v p xs)) (any_of p P h (map v xs))

pub all_decides : {X Y : Type 0} (v : X → Y) (p : Y → Bool) (P : Y → Type 0) → ((y : Y) → Decides (p y) (P y)) → (xs : List X) → Decides (list_all (λ x. p (v x)) xs) (All P (map v xs))
all_decides v p P h xs = subst (λ b. Decides b (All P (map v xs))) (list_all-map p v xs) (Decides-by_and p P (list_all p) h refl (λ _ _. refl) (map v xs))

-- a number is one of the values
pub contains_decides : {X : Type 0} (v : X → ℤ) (m : ℤ) (xs : List X) → Decides (list_any (λ x. int_eq (v x) m) xs) (Contains (map v xs) m)
contains_decides v m xs =
    Decides-like _
    (λ w. (w.0, w.2, subst (λ z. slice_index_or (map v xs) w.0 z ≡ z) w.4 w.3))
    (λ w. (w.0, m, w.1, w.2, refl))
    (any_decides v (λ y. int_eq y m) (λ y. y ≡ m) (λ y. Decides-int_eq y m) xs)

pub in_decides : (x : ℤ) (ranges : List Range) → Decides (is_in x ranges) (IsIn ranges x)
in_decides x ranges = any_of (λ r. int_le r.0 x && int_le x r.1) _ (λ r. Decides-and (int_le r.0 x) (int_le x r.1) (le_decides r.0 x) (le_decides x r.1)) ranges

-- ---- entries

length-values : {X : Type 0} (v : X → ℤ) (xs : List X) → length (map v xs) ≡ length xs
length-values v [] = refl
length-values v (x ∷ xs) = ap suc (length-values v xs)

at_decides : {X : Type 0} (v : X → ℤ) (c : ℤ) (xs : List X) (k : ℕ) → Decides (option_map_or (λ t. int_eq (v t) c) (slice_get xs k) false) ((k < length xs) × (slice_index_or (map v xs) k (pos 0) ≡ c))
at_decides v c [] k = (λ e. untrue e, λ h. absurd (omega (arith, h.0)))
at_decides v c (x ∷ xs) zero = (λ e. (omega arith, (Decides-int_eq (v x) c).0 e), λ h. (Decides-int_eq (v x) c).1 h.1)
at_decides v c (x ∷ xs) (suc k) = Decides-like _ (λ h. (omega (arith, h.0), h.1)) (λ h. (omega (arith, h.0), h.1)) (at_decides v c xs k)

-- the place of an entry is counted from 1
abbrev IsAt : {X : Type 0} → (X → ℤ) → List X → ℤ → ℤ → Type 0
IsAt v xs x c = (pos 1 ≤ℤ x) × ((unsigned_abs x - 1 < length xs) × (slice_index_or (map v xs) (unsigned_abs x - 1) (pos 0) ≡ c))

to_entry : {X : Type 0} (v : X → ℤ) (xs : List X) (x c : ℤ) → IsAt v xs x c → IsEntry x (map v xs) c
to_entry v xs (pos n) c h =
    let low : 1 ≤ n = omega (arith, ints, h.0) in
    let same = length-values v xs in
    let short = h.1.0 in
    record { place = n - 1; inside = omega arith; counted = ap pos (omega arith); entry = h.1.1 }
to_entry v xs (negsuc n) c h = absurd (omega (arith, ints, h.0))

from_place : {X : Type 0} (v : X → ℤ) (xs : List X) (c : ℤ) (k : ℕ) → k < length (map v xs) → slice_index_or (map v xs) k (pos 0) ≡ c → IsAt v xs (pos (k + 1)) c
from_place v xs c k inside entry =
    let same = length-values v xs in
    let back : k ≡ k + 1 - 1 = omega arith in
    (omega (arith, ints), (omega arith, subst (λ i. slice_index_or (map v xs) i (pos 0) ≡ c) back entry))

from_entry : {X : Type 0} (v : X → ℤ) (xs : List X) (x c : ℤ) → IsEntry x (map v xs) c → IsAt v xs x c
from_entry v xs x c r = subst (λ z. IsAt v xs z c) (sym r.counted) (from_place v xs c r.place r.inside r.entry)

pub entry_decides : {X : Type 0} (v : X → ℤ) (x : ℤ) (xs : List X) (c : ℤ) → Decides (int_le (pos 1) x && option_map_or (λ t. int_eq (v t) c) (slice_get xs (unsigned_abs x - 1)) false) (IsEntry x (map v xs) c)
entry_decides v x xs c =
    Decides-like _ (to_entry v xs x c) (from_entry v xs x c)
    (Decides-and (int_le (pos 1) x) _ (le_decides (pos 1) x) (at_decides v c xs (unsigned_abs x - 1)))

-- ---- different numbers

-- no later number is the same as the first, and those differ
abbrev Apart : ℤ → List ℤ → Type 0
Apart x xs = (Contains xs x → ⊥) × AllPairs (λ y z. y ≢ z) xs

to_pairs : (x : ℤ) (xs : List ℤ) → Apart x xs → AllPairs (λ y z. y ≢ z) (x ∷ xs)
to_pairs x xs h = AllPairs-cons (λ y z. y ≢ z) x xs (λ i d inside e. h.0 (i, inside, get_or_default xs i x d inside ∙ sym e)) h.1

from_pairs : (x : ℤ) (xs : List ℤ) → AllPairs (λ y z. y ≢ z) (x ∷ xs) → Apart x xs
from_pairs x xs h = (
  λ c. h 0 (suc c.0) x (omega arith) (let inside = c.1 in omega arith) (sym c.2),
  λ i j d less inside. h (suc i) (suc j) d (omega arith) (omega arith),
)

pub differ_decides : (a : List ℤ) (ts : List Term) → Decides (all_differ a ts) (AllPairs (λ x y. x ≢ y) (map (value a) ts))
differ_decides a [] = (λ e i j d less inside. absurd (omega arith), λ h. refl)
differ_decides a (t ∷ ts) =
    let x : ℤ = value a t in
    Decides-like _ (to_pairs x (map (value a) ts)) (from_pairs x (map (value a) ts))
    (Decides-and (not (list_any (λ u. int_eq (value a u) x) ts)) (all_differ a ts) (Decides-not (list_any (λ u. int_eq (value a u) x) ts) (contains_decides (value a) x ts)) (differ_decides a ts))

-- ---- the terms that are left

abbrev later_same : List ℤ → List Term → ℕ → Term → Bool
later_same a ts i d = list_any (λ u. int_eq (value a u) (value a (get_or ts i d))) (drop (i + 1) ts)

differ_step : (a : List ℤ) (ts : List Term) (i : ℕ) (d : Term) → i < length ts → all_differ a (drop i ts) ≡ (not (later_same a ts i d) && all_differ a (drop (i + 1) ts))
differ_step a ts i d inside = ap (all_differ a) (drop_more ts i d inside)

pub differ_on : (a : List ℤ) (ts : List Term) (i : ℕ) (d : Term) → i < length ts → later_same a ts i d ≡ false → all_differ a (drop i ts) ≡ all_differ a (drop (i + 1) ts)
differ_on a ts i d inside e = differ_step a ts i d inside ∙ ap (λ b. not b && all_differ a (drop (i + 1) ts)) e

pub differ_off : (a : List ℤ) (ts : List Term) (i : ℕ) (d : Term) → i < length ts → later_same a ts i d ≡ true → all_differ a (drop i ts) ≡ false
differ_off a ts i d inside e = differ_step a ts i d inside ∙ ap (λ b. not b && all_differ a (drop (i + 1) ts)) e

pub differ_end : (a : List ℤ) (ts : List Term) (i : ℕ) → length ts ≤ i → all_differ a (drop i ts) ≡ true
differ_end a ts i h = ap (all_differ a) (drop_all i ts h)

pub ruleset differ_laws = (differ_on, differ_off, differ_end)
