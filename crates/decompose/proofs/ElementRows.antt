-- The rows of elements at a place.
use Rattle.std.proofs.Common.{◌≡◌, ◌↔◌, ℕ, ℤ, pos, ◌+◌, ◌<◌, ◌≤◌, Bool, true, false, List, [], ◌∷◌, length, map, get_or, refl, sym, ap, subst, ◌∙◌, arith}
use Rattle.std.specs.List.{All, Any}
use Rattle.std.proofs.lemmas.List.{length-map, get_or-map, get_or_default}
use Rattle.std.proofs.lemmas.List.FromFn.{length-enumerate_from, get_or-enumerate_from}
use Rattle.guarded_tell.specs.declared.kernel.Kernel.{Kernel}
use Rattle.extreme_tells.specs.Extremes.{member_limit}
use Rattle.element_tells.specs.Element.{places_of, IsElement}
use Rattle.guarded_tell.specs.Words.{value_of}
use Rattle.guarded_tell.specs.Kernels.{vars_of, HasNumbers, Holds as KernelHolds}
use Rattle.constraint_model.specs.declared.model.Term.{Term}
use Rattle.constraint_model.specs.declared.model.VarDecl.{VarDecl}
use Rattle.constraint_model.specs.declared.meanings.Array.{Array}
use Rattle.constraint_model.specs.declared.meanings.Scalar.{Scalar}
use Rattle.constraint_model.specs.declared.meanings.Meaning.{Meaning}
use Rattle.constraint_model.specs.declared.table.Letter.{Letter}
use Rattle.constraint_model.specs.declared.table.ConstraintName.{ConstraintName}
use Rattle.constraint_model.specs.Fits.{kernels_of}
use Rattle.constraint_model.specs.Relations.{value, HoldsOn, IsEntry}
use Rattle.decompose.specs.Program.{with_constants}
use Rattle.decompose.specs.Kernels.{variable_of, variables_of, row_of}
use Rattle.decompose.specs.Places.{numbering_of}
use Rattle.decompose.proofs.Means.{HasVariable, MeansOne, RowMeans, size_of}
use Rattle.decompose.proofs.Served.{Law, RowIs, IsRowLetter, terms_of, at_integer, at_row, at_three}
use Rattle.decompose.proofs.OneKernel.{alone, letter_of, at_scalar, are_variables, variables_inside, one_more, iff_through, value_is, values_are}
use Rattle.decompose.proofs.ExtremeRows.{entries_few}

-- the variable at place k of the list stands at the place that is counted k + 1
place_at : (entries : List ℕ) (k : ℕ) (p : ℕ × ℕ) → k < length entries → get_or (places_of entries) k p ≡ (k + 1, get_or entries k 0)
place_at entries k p inside =
    let here : get_or entries k p.1 ≡ get_or entries k 0 = get_or_default entries k p.1 0 inside in
    let counted : 1 + k ≡ k + 1 = omega arith in
    get_or-enumerate_from 1 entries k p inside ∙ ap (λ n. (n, get_or entries k p.1)) counted ∙ ap (λ v. (k + 1, v)) here

module _ (f : ℕ → ℤ) (x c : ℤ) (entries : List ℕ) where
  abbrev IsPlace : ℕ × ℕ → Type 0
  IsPlace p = (x ≡ pos p.0) × (f p.1 ≡ c)

  entry_from_place : Any IsPlace (places_of entries) → IsEntry x (map f entries) c
  entry_from_place h =
      let inside : h.0 < length entries = subst (λ n. h.0 < n) (length-enumerate_from 1 entries) h.2 in
      let e : h.1 ≡ (h.0 + 1, get_or entries h.0 0) = sym h.3 ∙ place_at entries h.0 h.1 inside in
      record {
        place = h.0;
        inside = subst (λ n. h.0 < n) (sym (length-map entries f)) inside;
        counted = h.4.0 ∙ ap (λ p. pos p.0) e;
        entry = get_or-map f entries h.0 0 (pos 0) inside ∙ sym (ap (λ p. f p.1) e) ∙ h.4.1;
      }

  place_from_entry : IsEntry x (map f entries) c → Any IsPlace (places_of entries)
  place_from_entry h =
      let inside : h.place < length entries = subst (λ n. h.place < n) (length-map entries f) h.inside in
      let v = get_or entries h.place 0 in (
        h.place,
        (h.place + 1, v),
        subst (λ n. h.place < n) (sym (length-enumerate_from 1 entries)) inside,
        place_at entries h.place (h.place + 1, v) inside,
        (h.counted, sym (get_or-map f entries h.place 0 (pos 0) inside) ∙ h.entry),
      )

element_by_values : (numbers : List ℤ) (x : ℕ) (entries : List ℕ) (c : ℕ) → IsElement x entries c numbers ↔ IsEntry (value_of numbers x) (map (value_of numbers) entries) (value_of numbers c)
element_by_values numbers x entries c =
    (entry_from_place (value_of numbers) (value_of numbers x) (value_of numbers c) entries, place_from_entry (value_of numbers) (value_of numbers x) (value_of numbers c) entries)

-- entries of equal values
entry_same : (x y : ℤ) (xs ys : List ℤ) (c d : ℤ) → x ≡ y → xs ≡ ys → c ≡ d → IsEntry x xs c ↔ IsEntry y ys d
entry_same x y xs ys c d e f g = (
  λ h. subst (λ u. IsEntry y ys u) g (subst (λ us. IsEntry y us c) f (subst (λ u. IsEntry u xs c) e h)),
  λ h. subst (λ u. IsEntry u xs c) (sym e) (subst (λ us. IsEntry y us c) (sym f) (subst (λ u. IsEntry y ys u) (sym g) h)),
)

module _ (vars : List VarDecl) (constants : List ℤ) where
  entry_is : (x : Term) (xs : List Term) (c : Term) → HasVariable vars constants x → All (HasVariable vars constants) xs → HasVariable vars constants c
      → length (variables_of (numbering_of vars constants) xs) ≤ member_limit
      → MeansOne vars constants (λ a. IsEntry (value a x) (map (value a) xs) (value a c))
      (Kernel.Element (variable_of (numbering_of vars constants) x) (variables_of (numbering_of vars constants) xs) (variable_of (numbering_of vars constants) c))
  unfolding vars_of HasNumbers KernelHolds
  entry_is x xs c hx hs hc few = record {
    can_run = record {
      variables =
          are_variables (size_of vars constants) (variables_of (numbering_of vars constants) (x ∷ c ∷ xs))
          (variables_inside vars constants (x ∷ c ∷ xs) (one_more vars constants x (c ∷ xs) hx (one_more vars constants c xs hc hs)));
      numbers = few;
    };
    meaning = λ a w.
        iff_through
        (element_by_values (with_constants constants a) (variable_of (numbering_of vars constants) x) (variables_of (numbering_of vars constants) xs) (variable_of (numbering_of vars constants) c))
        (entry_same _ (value a x) _ (map (value a) xs) _ (value a c) (value_is vars constants a w x hx) (values_are vars constants a w xs hs) (value_is vars constants a w c hc));
  }

  -- what a row of a place, an array and an entry owes
  abbrev EntryLaw : ConstraintName → Type 0
  EntryLaw name =
      (s : Scalar) (xs : Array) (t : Scalar) → HasVariable vars constants s.term → RowIs vars constants xs → HasVariable vars constants t.term
      → RowMeans vars constants name (Meaning.One s ∷ Meaning.Row xs ∷ Meaning.One t ∷ [])

  -- a place, an array of this letter and an entry of this type
  by_entry : (name : ConstraintName) (l : Letter) (b : Bool) → IsRowLetter vars constants l → EntryLaw name → Law vars constants name (Letter.Integer ∷ l ∷ letter_of b ∷ [])
  by_entry name l b is_row f ms served lengths =
      at_three vars constants Letter.Integer l (letter_of b) (RowMeans vars constants name)
      (λ m n o hm hn ho.
      at_integer vars constants (λ i. RowMeans vars constants name (i ∷ n ∷ o ∷ []))
      (λ s is.
      at_row vars constants (λ j. RowMeans vars constants name (Meaning.One s ∷ j ∷ o ∷ []))
      (λ xs row. at_scalar vars constants b (λ k. RowMeans vars constants name (Meaning.One s ∷ Meaning.Row xs ∷ k ∷ [])) (λ t it. f s xs t is.has row it.has) o ho)
      l is_row n hn)
      m hm)
      ms served

  pub array_int_element : Law vars constants ConstraintName.ArrayIntElement (Letter.Integer ∷ Letter.Numbers ∷ Letter.Integer ∷ [])
  unfolding row_of kernels_of HoldsOn
  array_int_element =
      by_entry ConstraintName.ArrayIntElement Letter.Numbers false tt
      (λ s xs t hs row ht. alone vars constants refl (entry_is s.term (terms_of xs.entries) t.term hs row.has ht (entries_few vars constants xs.entries row.short)))

  pub array_var_int_element : Law vars constants ConstraintName.ArrayVarIntElement (Letter.Integer ∷ Letter.Integers ∷ Letter.Integer ∷ [])
  unfolding row_of kernels_of HoldsOn
  array_var_int_element =
      by_entry ConstraintName.ArrayVarIntElement Letter.Integers false tt
      (λ s xs t hs row ht. alone vars constants refl (entry_is s.term (terms_of xs.entries) t.term hs row.has ht (entries_few vars constants xs.entries row.short)))

  pub array_bool_element : Law vars constants ConstraintName.ArrayBoolElement (Letter.Integer ∷ Letter.Truths ∷ Letter.Boolean ∷ [])
  unfolding row_of kernels_of HoldsOn
  array_bool_element =
      by_entry ConstraintName.ArrayBoolElement Letter.Truths true tt
      (λ s xs t hs row ht. alone vars constants refl (entry_is s.term (terms_of xs.entries) t.term hs row.has ht (entries_few vars constants xs.entries row.short)))

  pub array_var_bool_element : Law vars constants ConstraintName.ArrayVarBoolElement (Letter.Integer ∷ Letter.Booleans ∷ Letter.Boolean ∷ [])
  unfolding row_of kernels_of HoldsOn
  array_var_bool_element =
      by_entry ConstraintName.ArrayVarBoolElement Letter.Booleans true tt
      (λ s xs t hs row ht. alone vars constants refl (entry_is s.term (terms_of xs.entries) t.term hs row.has ht (entries_few vars constants xs.entries row.short)))
