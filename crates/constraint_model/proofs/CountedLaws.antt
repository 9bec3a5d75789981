-- An array whose constants are all there adds none.
use Rattle.std.proofs.Common.{◌≡◌, ◌<◌, ℕ, zero, suc, ℤ, List, [], ◌∷◌, ◌++◌, Bool, true, false, cond, length, take, drop, fold, All, Contains, Some, slice_get, refl, ap, ◌∙◌, sym, subst, arith}
use Rattle.std.specs.Prelude.{flat_map, Option, None, IfSome}
use Rattle.std.specs.BTreeMap.{is_at}
use Rattle.constraint_model.specs.declared.places.Places.{Places}
use Rattle.std.specs.BTreeSet.{BTreeSet, contains, Updates}
use Rattle.std.specs.List.{list_any}
use Rattle.std.specs.Ordering.{int_eq, nat_cmp}
use Rattle.std.proofs.lemmas.Bool.Decides.{Decides-int_eq}
use Rattle.std.proofs.lemmas.Bool.{cond-true}
use Rattle.std.proofs.lemmas.Cmp.{int_eq_equiv}
use Rattle.std.proofs.lemmas.Bool.{eqb-true}
use Rattle.std.specs.Cmp.{unsigned_ties}
use Rattle.std.proofs.lemmas.List.{take-append-drop, length-append}
use Rattle.std.proofs.lemmas.List.Elements.{All-nil, All-cons, All-head, All-tail, All-weaker, Contains-append_left, Contains-push}
use Rattle.std.proofs.lemmas.Option.{slice_get_within}
use Rattle.std.proofs.lemmas.Map.Views.{Contains-from_any, list_any-from_Contains}
use Rattle.constraint_model.specs.declared.model.Term.{Term}
use Rattle.constraint_model.specs.declared.model.ArrayTerms.{ArrayTerms}
use Rattle.constraint_model.specs.Arrays.{IsNumbered}
use Rattle.constraint_model.specs.Fits.{IsFront, add_once, constant_of}
use Rattle.constraint_model.specs.Found.{KnownConstants, Finds, HasConstants, AreCounted, AreConstants}
use Rattle.constraint_model.proofs.ConstantLaws.{fold_front}

absurd_bool : {A : Type 0} → false ≡ true → A
absurd_bool h = absurd (let k : false ≡ true = h in cc)

-- the place that a look-up finds is the one that was asked for
is_same : (n k : ℕ) → is_at (nat_cmp n) k ≡ true → n ≡ k
is_same n k e = eqb-true n k (unsigned_ties n k ∙ e)

same_place : (k n : ℕ) → Some k ≡ Some n → k ≡ n
same_place k n h = cc

-- what two views that are the same have in common
pub view_numbers : {v w : KnownConstants} → v ≡ w → v.numbers ≡ w.numbers
view_numbers e = ap (λ u. u.numbers) e

pub view_arrays : {v w : KnownConstants} → v ≡ w → v.arrays ≡ w.arrays
view_arrays e = ap (λ u. u.arrays) e

-- the terms of an array of this number stand at it
pub numbered_at : (arrays : List (List Term)) (row : ArrayTerms) (n : ℕ) → row.number ≡ Some n → IsNumbered arrays row → slice_get arrays n ≡ Some row.terms
numbered_at arrays row n e is_numbered = by row.number e is_numbered
  where
    by : (number : Option ℕ) → number ≡ Some n → IfSome number (λ k. slice_get arrays k ≡ Some row.terms) → slice_get arrays n ≡ Some row.terms
    by (Some k) same at = ap (slice_get arrays) (sym (same_place k n same)) ∙ at
    by None same at = absurd (cc)

-- ---- what is there stays there

front_has : (xs ys : List ℤ) (n : ℤ) → IsFront xs ys → Contains xs n → Contains ys n
front_has xs ys n front has =
    let here : Contains (take (length xs) ys) n = subst (λ zs. Contains zs n) (sym front) has in
    subst (λ zs. Contains zs n) (take-append-drop (length xs) ys) (Contains-append_left (take (length xs) ys) (drop (length xs) ys) n here)

has_more : (xs : List ℤ) (n : ℤ) (terms : List Term) → HasConstants xs terms → HasConstants (xs ++ n ∷ []) terms
has_more xs n terms = All-weaker (Contains xs) (Contains (xs ++ n ∷ [])) (Contains-append_left xs (n ∷ [])) (flat_map constant_of terms)

-- with one number more the arrays that were counted have their constants there still
pub number_more : (xs : List ℤ) (n : ℤ) (arrays : List (List Term)) (marked : BTreeSet ℕ) → AreCounted xs arrays marked → AreCounted (xs ++ n ∷ []) arrays marked
number_more xs n arrays marked all = record { inside = all.inside; there = λ k terms m at. has_more xs n terms (all.there k terms m at) }

-- ---- with one array more

before_end : (arrays : List (List Term)) (terms last : List Term) (k : ℕ) → k < length arrays → slice_get (arrays ++ last ∷ []) k ≡ Some terms → slice_get arrays k ≡ Some terms
before_end [] terms last k h at = absurd (omega arith)
before_end (a ∷ rest) terms last zero h at = at
before_end (a ∷ rest) terms last (suc k) h at = before_end rest terms last k (omega arith) at

pub array_more : (xs : List ℤ) (arrays : List (List Term)) (last : List Term) (marked : BTreeSet ℕ) → AreCounted xs arrays marked → AreCounted xs (arrays ++ last ∷ []) marked
array_more xs arrays last marked all = record {
  inside = λ k m. let h = all.inside k m in omega (arith, h, length-append arrays (last ∷ []));
  there = λ k terms m at. all.there k terms m (before_end arrays terms last k (all.inside k m) at);
}

-- ---- one that is there adds nothing

same_number : (a b : ℤ) → int_eq a b ≡ true → a ≡ b
same_number a b e = (Decides-int_eq a b).0 e

there_once : (xs : List ℤ) (n : ℤ) → Contains xs n → add_once xs n ≡ xs
there_once xs n has = cond-true (list_any (int_eq n) xs) xs (xs ++ n ∷ []) (list_any-from_Contains int_eq_equiv n xs has)

all_there : (xs ns : List ℤ) → All (Contains xs) ns → xs ≡ fold add_once xs ns
all_there xs [] h = refl
all_there xs (n ∷ ns) h =
    all_there xs ns (All-tail (Contains xs) n ns h)
    ∙ ap (λ ys. fold add_once ys ns) (sym (there_once xs n (All-head (Contains xs) n ns h)))

pub row_there : (xs : List ℤ) (terms : List Term) → HasConstants xs terms → xs ≡ fold add_once xs (flat_map constant_of terms)
row_there xs terms = all_there xs (flat_map constant_of terms)

-- ---- what was added is there

once_has : (xs : List ℤ) (n : ℤ) → Contains (add_once xs n) n
once_has xs n = by (list_any (int_eq n) xs) refl
  where
    by : (b : Bool) → list_any (int_eq n) xs ≡ b → Contains (cond b xs (xs ++ n ∷ [])) n
    by true e = Contains-from_any same_number n xs e
    by false e = Contains-push xs n

fold_has : (xs ns : List ℤ) → All (Contains (fold add_once xs ns)) ns
fold_has xs [] = All-nil (Contains xs)
fold_has xs (n ∷ ns) =
    let whole = fold add_once (add_once xs n) ns in
    All-cons (Contains whole) n ns (front_has (add_once xs n) whole n (fold_front (add_once xs n) ns) (once_has xs n)) (fold_has (add_once xs n) ns)

pub row_added : (xs ys : List ℤ) (terms : List Term) → ys ≡ fold add_once xs (flat_map constant_of terms) → HasConstants ys terms
row_added xs ys terms e = subst (λ zs. HasConstants zs terms) (sym e) (fold_has xs (flat_map constant_of terms))

-- ---- what is known of the arrays

same_terms : (x y : List Term) → Some x ≡ Some y → x ≡ y
same_terms x y h = cc

-- one that has its constants there is noted
pub row_kept : (xs : List ℤ) (arrays : List (List Term)) (old new : BTreeSet ℕ) (n : ℕ) (terms : List Term)
    → AreCounted xs arrays old → slice_get arrays n ≡ Some terms → HasConstants xs terms → Updates nat_cmp old new n true → AreCounted xs arrays new
row_kept xs arrays old new n terms all here has u = record {
  inside = λ k m. inside k m (is_at (nat_cmp n) k) refl;
  there = λ k others m at. there k others m at (is_at (nat_cmp n) k) refl;
}
  where
    inside : (k : ℕ) → contains nat_cmp new k ≡ true → (b : Bool) → is_at (nat_cmp n) k ≡ b → k < length arrays
    inside k m true e = subst (λ i. i < length arrays) (is_same n k e) (slice_get_within arrays n terms here)
    inside k m false e = all.inside k (ap (λ b. cond b true (contains nat_cmp old k)) (sym e) ∙ sym (u.0 k) ∙ m)

    there : (k : ℕ) (others : List Term) → contains nat_cmp new k ≡ true → slice_get arrays k ≡ Some others → (b : Bool) → is_at (nat_cmp n) k ≡ b → HasConstants xs others
    there k others m at true e = subst (HasConstants xs) (same_terms terms others (sym here ∙ ap (slice_get arrays) (is_same n k e) ∙ at)) has
    there k others m at false e = all.there k others (ap (λ b. cond b true (contains nat_cmp old k)) (sym e) ∙ sym (u.0 k) ∙ m) at

-- a set that wasn't changed
pub rows_unchanged : (xs : List ℤ) (arrays : List (List Term)) (old new : BTreeSet ℕ) → new.keys ≡ old.keys → AreCounted xs arrays old → AreCounted xs arrays new
rows_unchanged xs arrays old new e all = record { inside = λ k m. all.inside k (was k ∙ m); there = λ k terms m at. all.there k terms (was k ∙ m) at }
  where
    was : (k : ℕ) → contains nat_cmp old k ≡ contains nat_cmp new k
    was k = sym (ap (λ ks. list_any (is_at (nat_cmp k)) ks) e)

-- with no array counted
pub none_counted : (places : Places) (xs : List ℤ) (arrays : List (List Term)) (marked : BTreeSet ℕ) → marked.keys ≡ [] → Finds places xs → AreConstants places xs arrays marked
none_counted places xs arrays marked e found = record {
  found = found;
  counted = record {
    inside = λ k m. absurd_bool (absent k ∙ m);
    there = λ k terms m at. absurd_bool (absent k ∙ m);
  };
}
  where
    absent : (k : ℕ) → false ≡ contains nat_cmp marked k
    absent k = sym (ap (λ ks. list_any (is_at (nat_cmp k)) ks) e)
