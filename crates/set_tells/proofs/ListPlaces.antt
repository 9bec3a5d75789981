-- One place of a list, and what the rest of the list adds to it.
use Rattle.std.proofs.Common.{◌≡◌, ◌≢◌, ℕ, zero, suc, ◌-◌, ◌<◌, ◌≤◌, List, [], ◌∷◌, ◌++◌, length, get_or, Bool, true, false, ◌||◌, refl, sym, ap, ◌∙◌, arith}
use Rattle.std.proofs.lemmas.Bool.{both_ways}
use Rattle.std.proofs.lemmas.List.{append-nil}
use Rattle.std.proofs.lemmas.List.Folds.{list_any_none}
use Rattle.std.specs.List.{flat_map, list_any}
use Rattle.tells.specs.declared.tell.Tell.{Tell}
use Rattle.tells.specs.Words.{when}
use Rattle.extreme_tells.specs.Extremes.{at_place, last_of}
use Rattle.set_tells.proofs.LiteralLaws.{by_bool}

pub at_yes : {X : Type 0} (xs : List X) (i : ℕ) (d : X) → i < length xs → at_place xs i ≡ get_or xs i d ∷ []
at_yes [] i d h = absurd (omega arith)
at_yes (x ∷ xs) zero d h = refl
at_yes (x ∷ xs) (suc i) d h = at_yes xs i d (omega arith)

pub at_no : {X : Type 0} (xs : List X) (i : ℕ) → length xs ≤ i → at_place xs i ≡ []
at_no [] zero h = refl
at_no [] (suc i) h = refl
at_no (x ∷ xs) zero h = absurd (omega arith)
at_no (x ∷ xs) (suc i) h = at_no xs i (omega arith)

pub last_yes : {X : Type 0} (xs : List X) (count : ℕ) (d : X) → 0 < count → count ≤ length xs → last_of xs count ≡ get_or xs (count - 1) d ∷ []
last_yes xs zero d h k = absurd (omega arith)
last_yes xs (suc i) d h k = let e : suc i - 1 ≡ i = omega arith in at_yes xs i d (omega arith) ∙ ap (λ j. get_or xs j d ∷ []) (sym e)

pub last_no : {X : Type 0} (xs : List X) (count : ℕ) → count ≤ 0 → last_of xs count ≡ []
last_no xs zero h = refl
last_no xs (suc i) h = absurd (omega arith)

-- none before the place passes, and none after it that the one at the place doesn't
pub list_any_at_place : {X : Type 0} (p : X → Bool) (xs : List X) (i : ℕ) → ((k : ℕ) (d : X) → k < i → k < length xs → p (get_or xs k d) ≡ false)
    → ((k : ℕ) (d : X) → i < k → k < length xs → p (get_or xs k d) ≡ true → p (get_or xs i d) ≡ true) → list_any p xs ≡ list_any p (at_place xs i)
list_any_at_place p [] zero before after = refl
list_any_at_place p [] (suc i) before after = refl
list_any_at_place p (x ∷ xs) zero before after = by_bool (p x)
    (λ t. (λ k. t k || list_any p xs) ∙ (λ k. sym t k || false))
    (λ f. ap (λ t. p x || t) (list_any_none p xs (λ k d h. by_bool (p (get_or xs k d)) (λ t. absurd (both_ways (p x) f (after (suc k) d (omega arith) (omega arith) t))) (λ e. e))))
list_any_at_place p (x ∷ xs) (suc i) before after =
    (λ k. before 0 x (omega arith) (omega arith) k || list_any p xs)
    ∙ list_any_at_place p xs i (λ k d h l. before (suc k) d (omega arith) (omega arith)) (λ k d h l t. after (suc k) d (omega arith) (omega arith) t)

pub flat_map_nothing : {X Y : Type 0} (f : X → List Y) (xs : List X) → ((k : ℕ) (d : X) → k < length xs → f (get_or xs k d) ≡ []) → flat_map f xs ≡ []
flat_map_nothing f [] all = refl
flat_map_nothing f (x ∷ xs) all = (λ k. all 0 x (omega arith) k ++ flat_map_nothing f xs (λ j d h. all (suc j) d (omega arith)) k)

-- only the one at the place gives anything
pub flat_map_at_place : {X Y : Type 0} (f : X → List Y) (xs : List X) (i : ℕ) → ((k : ℕ) (d : X) → k ≢ i → k < length xs → f (get_or xs k d) ≡ []) → flat_map f xs ≡ flat_map f (at_place xs i)
flat_map_at_place f [] zero others = refl
flat_map_at_place f [] (suc i) others = refl
flat_map_at_place f (x ∷ xs) zero others = ap (λ ys. f x ++ ys) (flat_map_nothing f xs (λ k d h. others (suc k) d (omega arith) (omega arith)))
flat_map_at_place f (x ∷ xs) (suc i) others =
    (λ k. others 0 x (omega arith) (omega arith) k ++ flat_map f xs)
    ∙ flat_map_at_place f xs i (λ k d n h. others (suc k) d (omega arith) (omega arith))

pub one_mapped : {X Y : Type 0} (f : X → List Y) (xs : List X) (x : X) → xs ≡ x ∷ [] → flat_map f xs ≡ f x
one_mapped f xs x e = ap (flat_map f) e ∙ append-nil (f x)

-- a test that can't be true
pub no_true : (t : Bool) → (t ≡ true → ⊥) → t ≡ false
no_true t never = by_bool t (λ e. absurd (never e)) (λ f. f)

pub when_no : (t : Bool) (ts : List Tell) → (t ≡ true → ⊥) → when t ts ≡ []
when_no true ts never = absurd (never refl)
when_no false ts _ = refl
