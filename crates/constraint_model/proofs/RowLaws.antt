-- The letters by the number of arguments are those that the arguments fit.
use Rattle.std.proofs.Common.{◌≡◌, ◌≢◌, ℕ, List, [], ◌∷◌, length, Bool, true, false, not, ◌&&◌, ◌||◌, cond, nat_eq, unwrap_or, Some, refl, sym, ap, subst, ◌∙◌, arith}
use Rattle.std.specs.Prelude.{find}
use Rattle.std.specs.List.{list_any}
use Rattle.std.proofs.lemmas.List.{length-map}
use Rattle.std.proofs.lemmas.Bool.{and_parts, eq-eqb, ne_eqb, false≢true}
use Rattle.constraint_model.specs.declared.meanings.Meaning.{Meaning}
use Rattle.constraint_model.specs.declared.table.ConstraintName.{ConstraintName}
use Rattle.constraint_model.specs.declared.table.Letter.{Letter}
use Rattle.constraint_model.specs.Table.{signatures}
use Rattle.constraint_model.specs.Fits.{fits, all_fit, fits_row, has_equal_lengths, row_for, operand_of, LettersAreThose}

-- arguments that fit are as many as letters
fit_lengths : (letters : List Letter) (meanings : List Meaning) → all_fit letters meanings ≡ true → length letters ≡ length meanings
fit_lengths [] [] h = refl
fit_lengths [] (m ∷ ms) h = absurd (false≢true h)
fit_lengths (l ∷ ls) [] h = absurd (false≢true h)
fit_lengths (l ∷ ls) (m ∷ ms) h = let e = fit_lengths ls ms (and_parts (fits l m) (all_fit ls ms) h).1 in omega arith

row_lengths : (letters : List Letter) (meanings : List Meaning) → fits_row meanings letters ≡ true → length letters ≡ length meanings
row_lengths letters meanings h = fit_lengths letters meanings (and_parts (all_fit letters meanings) (has_equal_lengths letters meanings) h).0

-- the first row of a length
abbrev by_length : ℕ → List (List Letter) → List Letter
by_length n rows = unwrap_or (find (λ letters. nat_eq (length letters) n) rows) []

same_some : {A : Type 0} (x y : A) → Some x ≡ Some y → x ≡ y
same_some x y h = cc

abbrev has_length : ℕ → List Letter → Bool
has_length n letters = nat_eq (length letters) n

-- no two lists are of one length
abbrev are_apart : List (List Letter) → Bool
are_apart [] = true
are_apart (r ∷ rs) = not (list_any (has_length (length r)) rs) && are_apart rs

or_second : (b x : Bool) → x ≡ true → (b || x) ≡ true
or_second true x h = refl
or_second false x h = h

-- the one that is found has the length of the arguments
found_length : (rows : List (List Letter)) (meanings : List Meaning) (letters : List Letter) → find (fits_row meanings) rows ≡ Some letters → list_any (has_length (length meanings)) rows ≡ true
found_length [] meanings letters h = absurd (cc)
found_length (r ∷ rs) meanings letters h = by (found_length rs meanings letters) (fits_row meanings r) refl h
  where
    n : ℕ
    n = length meanings

    by : (find (fits_row meanings) rs ≡ Some letters → list_any (has_length n) rs ≡ true) → (b : Bool) → fits_row meanings r ≡ b → cond b (Some r) (find (fits_row meanings) rs) ≡ Some letters
        → list_any (has_length n) (r ∷ rs) ≡ true
    by rest true e k = ap (λ b. b || list_any (has_length n) rs) (eq-eqb (length r) n (row_lengths r meanings e))
    by rest false e k = or_second (has_length n r) (list_any (has_length n) rs) (rest k)

by_lengths : (rows : List (List Letter)) → are_apart rows ≡ true → (meanings : List Meaning) (letters : List Letter) → find (fits_row meanings) rows ≡ Some letters → by_length (length meanings) rows ≡ letters
by_lengths [] apart meanings letters h = absurd (cc)
by_lengths (r ∷ rs) apart meanings letters h = by (by_lengths rs parts.1 meanings letters) (fits_row meanings r) refl h
  where
    n : ℕ
    n = length meanings

    parts : (not (list_any (has_length (length r)) rs) ≡ true) × (are_apart rs ≡ true)
    parts = and_parts (not (list_any (has_length (length r)) rs)) (are_apart rs) apart

    other : list_any (has_length n) rs ≡ true → length r ≢ n
    other some same = false≢true (sym (ap not some) ∙ subst (λ k. not (list_any (has_length k) rs) ≡ true) same parts.0)

    by : (find (fits_row meanings) rs ≡ Some letters → by_length n rs ≡ letters) → (b : Bool) → fits_row meanings r ≡ b → cond b (Some r) (find (fits_row meanings) rs) ≡ Some letters
        → by_length n (r ∷ rs) ≡ letters
    by rest true e k = ap (λ b. unwrap_or (cond b (Some r) (find (has_length n) rs)) []) (eq-eqb (length r) n (row_lengths r meanings e)) ∙ same_some r letters k
    by rest false e k = ap (λ b. unwrap_or (cond b (Some r) (find (has_length n) rs)) []) (ne_eqb (length r) n (other (found_length rs meanings letters k))) ∙ rest k

-- the first line makes a case of each name
apart : (name : ConstraintName) → are_apart (signatures name) ≡ true
apart ConstraintName.IntEq = refl
apart _ = refl

pub letters_those : LettersAreThose
unfolding row_for
letters_those name meanings letters h =
    ap (λ n. by_length n (signatures name)) (length-map meanings operand_of) ∙ by_lengths (signatures name) (apart name) meanings letters h
