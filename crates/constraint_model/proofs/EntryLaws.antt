-- The entries of an array that their terms tell.
use Rattle.std.proofs.Common.{◌≡◌, List, [], ◌∷◌, Bool, true, false, not, ◌||◌, cond, refl, sym, ap, ◌∙◌, map, length, true≢false}
use Rattle.std.specs.List.{list_all}
use Rattle.std.proofs.lemmas.Bool.{and_parts}
use Rattle.std.proofs.lemmas.List.{length-map}
use Rattle.constraint_model.specs.declared.model.Term.{Term}
use Rattle.constraint_model.specs.declared.meanings.Scalar.{Scalar}
use Rattle.constraint_model.specs.declared.kinds.Kinds.{Kinds}
use Rattle.constraint_model.specs.Kinds.{is_integer, is_boolean, kinds_of, entries_on, scalars_of}

abbrev term_of : Scalar → Term
term_of s = s.term

turned : (b : Bool) → not b ≡ true → b ≡ false
turned true e = absurd (true≢false (sym e))
turned false e = refl

plain : (b : Bool) (s : Scalar) → s.is_bool ≡ b → record { is_bool = b; term = s.term } ≡ s
plain b s e = ap (λ (c : Bool). record { is_bool = c; term = s.term }) (sym e)

integers_told : (ss : List Scalar) → list_all is_integer ss ≡ true → entries_on false (map (λ s. s.term) ss) ≡ ss
integers_told [] e = refl
integers_told (s ∷ ss) e =
    let parts = and_parts (is_integer s) (list_all is_integer ss) e in
    ap (λ (x : Scalar). x ∷ entries_on false (map term_of ss)) (plain false s (turned s.is_bool parts.0)) ∙ ap (λ xs. s ∷ xs) (integers_told ss parts.1)

booleans_told : (ss : List Scalar) → list_all is_boolean ss ≡ true → entries_on true (map (λ s. s.term) ss) ≡ ss
booleans_told [] e = refl
booleans_told (s ∷ ss) e =
    let parts = and_parts (is_boolean s) (list_all is_boolean ss) e in
    ap (λ (x : Scalar). x ∷ entries_on true (map term_of ss)) (plain true s parts.0) ∙ ap (λ xs. s ∷ xs) (booleans_told ss parts.1)

by_kinds : (a b : Bool) (ts : List Term) (ss mixed : List Scalar) → (a ≡ true → entries_on false ts ≡ ss) → (b ≡ true → entries_on true ts ≡ ss) → (a || b) ≡ true
    → cond a (entries_on false ts) (cond b (entries_on true ts) mixed) ≡ ss
by_kinds true b ts ss mixed f g e = f refl
by_kinds false true ts ss mixed f g e = g refl
by_kinds false false ts ss mixed f g e = absurd (true≢false (sym e))

-- all integers or all booleans
pub told_alike : (kinds : Kinds) (ts : List Term) (ss mixed : List Scalar) → kinds ≡ kinds_of ss → ts ≡ map (λ s. s.term) ss → (kinds.all_integers || kinds.all_booleans) ≡ true
    → scalars_of kinds ts mixed ≡ ss
told_alike kinds ts ss mixed e f h =
    by_kinds kinds.all_integers kinds.all_booleans ts ss mixed
    (λ i. ap (entries_on false) f ∙ integers_told ss (sym (ap (λ (k : Kinds). k.all_integers) e) ∙ i))
    (λ i. ap (entries_on true) f ∙ booleans_told ss (sym (ap (λ (k : Kinds). k.all_booleans) e) ∙ i)) h

-- neither
pub told_mixed : (kinds : Kinds) (ts : List Term) (ss : List Scalar) → (kinds.all_integers || kinds.all_booleans) ≡ false → scalars_of kinds ts ss ≡ ss
told_mixed kinds ts ss h = by kinds.all_integers kinds.all_booleans h
  where
    by : (a b : Bool) → (a || b) ≡ false → cond a (entries_on false ts) (cond b (entries_on true ts) ss) ≡ ss
    by true b h = absurd (true≢false h)
    by false true h = absurd (true≢false h)
    by false false h = refl

pub as_many : (ts : List Term) (ss : List Scalar) → ts ≡ map (λ s. s.term) ss → length ts ≡ length ss
as_many ts ss e = ap length e ∙ length-map ss (λ s. s.term)
