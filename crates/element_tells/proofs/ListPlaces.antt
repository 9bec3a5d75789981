-- One place of a list, and what the rest of the list adds to it.
use Rattle.std.proofs.Common.{◌≡◌, ◌≢◌, ℕ, zero, suc, ◌<◌, List, [], ◌∷◌, ◌++◌, length, get_or, Bool, true, false, refl, ap, ◌∙◌, arith}
use Rattle.std.proofs.lemmas.List.{append-nil}
use Rattle.std.specs.List.{flat_map}
use Rattle.tells.specs.declared.tell.Tell.{Tell}
use Rattle.tells.specs.Words.{when}
use Rattle.extreme_tells.specs.Extremes.{at_place}
use Rattle.element_tells.proofs.LiteralLaws.{by_bool}

pub at_yes : {X : Type 0} (xs : List X) (i : ℕ) (d : X) → i < length xs → at_place xs i ≡ get_or xs i d ∷ []
at_yes [] i d h = absurd (omega arith)
at_yes (x ∷ xs) zero d h = refl
at_yes (x ∷ xs) (suc i) d h = at_yes xs i d (omega arith)

pub flat_map_nothing : {X Y : Type 0} (f : X → List Y) (xs : List X) → ((k : ℕ) (d : X) → k < length xs → f (get_or xs k d) ≡ []) → flat_map f xs ≡ []
flat_map_nothing f [] all = refl
flat_map_nothing f (x ∷ xs) all = (λ k. all 0 x (omega arith) k ++ flat_map_nothing f xs (λ j d h. all (suc j) d (omega arith)) k)

-- only the one at the place gives anything
pub flat_map_at_place : {X Y : Type 0} (f : X → List Y) (xs : List X) (i : ℕ) → ((k : ℕ) (d : X) → k ≢ i → k < length xs → f (get_or xs k d) ≡ []) → flat_map f xs ≡ flat_map f (at_place xs i)
flat_map_at_place f [] zero others = refl
flat_map_at_place f [] (suc i) others = refl
flat_map_at_place f (x ∷ xs) zero others = ap (λ ys. f x ++ ys) (flat_map_nothing f xs (λ k d h. others (suc k) d (omega arith) (omega arith)))
flat_map_at_place f (x ∷ xs) (suc i) others =
    (λ k. others 0 x (omega arith) (omega arith) k ++ flat_map f xs)
    ∙ flat_map_at_place f xs i (λ k d n h. others (suc k) d (omega arith) (omega arith))

pub one_mapped : {X Y : Type 0} (f : X → List Y) (xs : List X) (x : X) → xs ≡ x ∷ [] → flat_map f xs ≡ f x
one_mapped f xs x e = ap (flat_map f) e ∙ append-nil (f x)

-- a test that can't be true
pub no_true : (t : Bool) → (t ≡ true → ⊥) → t ≡ false
no_true t never = by_bool t (λ e. absurd (never e)) (λ f. f)

pub when_no : (t : Bool) (ts : List Tell) → (t ≡ true → ⊥) → when t ts ≡ []
when_no true ts never = absurd (never refl)
when_no false ts _ = refl
