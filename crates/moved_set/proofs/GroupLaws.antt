-- Groups of masks that are built.
use Rattle.std.proofs.Common.{◌≡◌, ℕ, zero, suc, ◌+◌, ◌/◌, ◌%◌, ◌<◌, ◌≤◌, ◌==◌, Bool, true, false, ◌||◌, ◌&&◌, List, [], ◌∷◌, ◌++◌, length, get_or, set, bit_or, refl, sym, ◌∙◌, ap, ⊎_elim, arith}
use Rattle.std.specs.List.{list_any}
use Rattle.std.proofs.lemmas.Bool.{cases_lt}
use Rattle.std.proofs.lemmas.List.{length_push, get_or_append_left, get_or_push}
use Rattle.moved_set.specs.Words.{has_bit, hits, names}
use Rattle.moved_set.specs.Building.{AreGroupsOf}
use Rattle.moved_set.specs.declared.mask.Mask.{Mask}
use Rattle.moved_set.proofs.SetLaws.{has_bit-or}

or_swap : (a b t : Bool) → ((a || t) || b) ≡ ((a || b) || t)
or_swap true b t = refl
or_swap false true true = refl
or_swap false true false = refl
or_swap false false true = refl
or_swap false false false = refl

pub or_assoc : (a b t : Bool) → (a || (b || t)) ≡ ((a || b) || t)
or_assoc true b t = refl
or_assoc false b t = refl

and_or : (a b c : Bool) → (a && (b || c)) ≡ ((a && b) || (a && c))
and_or true b c = refl
and_or false b c = refl

-- a mask with the bits of two
pub hits_or : (v place other bits more : ℕ) → place ≡ other → hits v (record { place = place; bits = bit_or bits more }) ≡ (hits v (record { place = place; bits = bits }) || hits v (record { place = other; bits = more }))
hits_or v place other bits more e =
    ap (λ (b : Bool). (place == v / 32) && b) (has_bit-or bits more (v % 32))
    ∙ and_or (place == v / 32) (has_bit bits (v % 32)) (has_bit more (v % 32))
    ∙ ap (λ (p : ℕ). hits v (record { place = place; bits = bits }) || hits v (record { place = p; bits = more })) e

-- a mask that is exchanged
pub names_set : (masks : List Mask) (at v : ℕ) (old new : Mask) (t : Bool) → at < length masks → old ≡ get_or masks at old → hits v new ≡ (hits v old || t) → names (set masks at new) v ≡ (names masks v || t)
names_set [] at v old new t h is more = absurd (omega arith)
names_set (m ∷ ms) zero v old new t h is more =
    ap (λ (b : Bool). b || names ms v) (more ∙ ap (λ (x : Mask). hits v x || t) is) ∙ or_swap (hits v m) (names ms v) t
names_set (m ∷ ms) (suc at) v old new t h is more =
    ap (λ (b : Bool). hits v m || b) (names_set ms at v old new t (omega arith) is more) ∙ or_assoc (hits v m) (names ms v) t

-- a mask that gets the bits of another
pub names_more : (masks : List Mask) (at v : ℕ) (old mask : Mask) → at < length masks → old ≡ get_or masks at old → old.place ≡ mask.place
    → names (set masks at (record { place = old.place; bits = bit_or old.bits mask.bits })) v ≡ (names masks v || hits v mask)
names_more masks at v old mask h is same =
    names_set masks at v old (record { place = old.place; bits = bit_or old.bits mask.bits }) (hits v mask) h is (hits_or v old.place mask.place old.bits mask.bits same)

-- ---- groups of rows

pub or_cases : {R : Type 0} (a b : Bool) → (a || b) ≡ true → (a ≡ true → R) → (b ≡ true → R) → R
or_cases true b h f g = f refl
or_cases false b h f g = g h

pub or_right : (a b : Bool) → b ≡ true → (a || b) ≡ true
or_right true b h = refl
or_right false b h = h

pub or_left : (a b : Bool) → a ≡ true → (a || b) ≡ true
or_left a b h = ap (λ (t : Bool). t || b) h

pub masks_push : (row : ℕ → List ℕ) (i : ℕ) (numbers : List ℕ) (groups : List (List Mask)) (group : List Mask) → row i ≡ numbers
    → ((j : ℕ) → names group j ≡ list_any (λ n. j == n) numbers) → AreGroupsOf row i groups → AreGroupsOf row (i + 1) (groups ++ group ∷ [])
masks_push row i numbers groups group is named are =
    let len = are.same_length in
    record {
      same_length = length_push groups group ∙ ap (λ (n : ℕ). n + 1) are.same_length;
      each = λ k j lt.
          let old : k < i → names (get_or (groups ++ group ∷ []) k []) j ≡ list_any (λ n. j == n) (row k) =
          λ below. ap (λ (g : List Mask). names g j) (get_or_append_left groups (group ∷ []) [] k (omega arith)) ∙ are.each k j below in
          let new : i ≤ k → names (get_or (groups ++ group ∷ []) k []) j ≡ list_any (λ n. j == n) (row k) =
          λ above.
          let e : k ≡ i = omega arith in
          ap (λ (g : List Mask). names g j) (get_or_push groups group [] k (omega arith)) ∙ named j
          ∙ ap (λ (ns : List ℕ). list_any (λ n. j == n) ns) (sym is ∙ ap row (sym e)) in
          ⊎_elim old new (cases_lt k i);
    }
