-- Each name is found by its spelling, in the table as in its definition.
use Rattle.std.proofs.Common.{◌≡◌, ℕ, ◌<◌, ◌≤◌, List, [], ◌∷◌, length, map, get_or, drop, Bool, true, false, cond, Option, Some, None, refl, sym, ap, subst, ◌∙◌}
use Rattle.std.specs.Prelude.{find, bytes_eq}
use Rattle.std.specs.List.{list_all}
use Rattle.std.specs.Option.{option_map}
use Rattle.std.proofs.lemmas.Bool.{and_parts}
use Rattle.std.proofs.lemmas.Slice.Eq.{bytes_eq-Decides}
use Rattle.constraint_model.specs.declared.table.ConstraintName.{ConstraintName}
use Rattle.constraint_model.specs.declared.table.Row.{Row}
use Rattle.constraint_model.specs.Table.{spelled}
use Rattle.constraint_model.specs.Fits.{named}
use Rattle.constraint_model.proofs.Finds.{find_here, find_end}

-- the first line makes a case of each name
pub names_found : (name : ConstraintName) → named (spelled name) ≡ Some name
unfolding named
names_found ConstraintName.IntEq = refl
names_found _ = refl

abbrev is_spelled : Row → Bool
is_spelled row = bytes_eq row.spelling.now (spelled row.name)

one_more : (row : Row) (b : Bool) (found : Option Row) (name : Option ConstraintName) → option_map (λ r. r.name) found ≡ name
    → option_map (λ r. r.name) (cond b (Some row) found) ≡ cond b (Some row.name) name
one_more row true found name h = refl
one_more row false found name h = h

-- among rows that are spelled as their names, a word's row is that of its name
row_found : (rows : List Row) → list_all is_spelled rows ≡ true → (word : List ℕ)
    → option_map (λ r. r.name) (find (λ r. bytes_eq r.spelling.now word) rows) ≡ find (λ name. bytes_eq (spelled name) word) (map (λ r. r.name) rows)
row_found [] h word = refl
row_found (r ∷ rs) h word =
    let parts = and_parts (is_spelled r) (list_all is_spelled rs) h in
    let same = (bytes_eq-Decides r.spelling.now (spelled r.name)).0 parts.0 in
    subst
    (λ letters. option_map (λ r. r.name) (find (λ r. bytes_eq r.spelling.now word) (r ∷ rs)) ≡ cond (bytes_eq letters word) (Some r.name) (find (λ name. bytes_eq (spelled name) word) (map (λ r. r.name) rs)))
    same
    (one_more r (bytes_eq r.spelling.now word) _ _ (row_found rs parts.1 word))

abbrev first_row : List ℕ → List Row → Option Row
first_row word rows = find (λ r. bytes_eq r.spelling.now word) rows

abbrev first_name : List ℕ → List Row → Option ConstraintName
first_name word rows = find (λ name. bytes_eq (spelled name) word) (map (λ r. r.name) rows)

pub found_here : (rows : List Row) (word : List ℕ) (i : ℕ) (d : Row) → list_all is_spelled rows ≡ true → first_row word (drop i rows) ≡ first_row word rows → i < length rows
    → bytes_eq (get_or rows i d).spelling.now word ≡ true → Some (get_or rows i d).name ≡ first_name word rows
found_here rows word i d h stands inside same = ap (option_map (λ r. r.name)) (sym (find_here (λ r. bytes_eq r.spelling.now word) rows i d inside same) ∙ stands) ∙ row_found rows h word

pub found_nowhere : (rows : List Row) (word : List ℕ) (i : ℕ) → list_all is_spelled rows ≡ true → first_row word (drop i rows) ≡ first_row word rows → length rows ≤ i → None ≡ first_name word rows
found_nowhere rows word i h stands past = ap (option_map (λ r. r.name)) (sym (find_end (λ r. bytes_eq r.spelling.now word) rows i past) ∙ stands) ∙ row_found rows h word
