-- The arguments of a constraint that fit its letters, one by one, and what is known of each.
use Rattle.std.proofs.Common.{◌≡◌, ◌≤◌, ℤ, pos, Bool, true, false, cond, not, List, [], ◌∷◌, length, map, flat_map, refl, ap, subst, ◌∙◌, Some, None, arith}
use Rattle.std.specs.Prelude.{IsSome, find, int_le, ◌≤ℤ◌}
use Rattle.std.proofs.lemmas.Int.{ints}
use Rattle.std.specs.List.{All, AllPass, list_all}
use Rattle.std.specs.Ordering.{int_eq}
use Rattle.std.proofs.lemmas.Bool.{and_parts}
use Rattle.std.proofs.lemmas.List.Sums.{AllPass-from_list_all}
use Rattle.std.proofs.lemmas.List.Elements.{All-nil, All-cons, All-head, All-tail}
use Rattle.constraint_model.specs.declared.model.Term.{Term}
use Rattle.constraint_model.specs.declared.model.VarDecl.{VarDecl}
use Rattle.constraint_model.specs.declared.meanings.Array.{Array}
use Rattle.constraint_model.specs.declared.meanings.Scalar.{Scalar}
use Rattle.constraint_model.specs.declared.meanings.Meaning.{Meaning}
use Rattle.constraint_model.specs.declared.table.Letter.{Letter}
use Rattle.constraint_model.specs.declared.table.ConstraintName.{ConstraintName}
use Rattle.constraint_model.specs.Numbers.{IsInProfile}
use Rattle.constraint_model.specs.Ranges.{Range}
use Rattle.constraint_model.specs.Table.{signatures}
use Rattle.constraint_model.specs.Fits.{fits, is_amount, is_constant, is_integer, all_fit, has_equal_lengths, fits_row, row_for, operand_of, constraint_on, constant_of, constants_of_operand, constants_at, constants_in, takes_variables, has_long_row, LettersAreThose}
use Rattle.constraint_model.specs.Limits.{most_entries}
use Rattle.constraint_model.specs.WellFormed.{IsTermOf, IsScalarOf, IsMeaningOf}
use Rattle.decompose.proofs.Means.{IsAmong, HasVariable, HasConstants, RowMeans}
use Rattle.decompose.proofs.ConstantLaws.{among_more, among_after, constant_here}

-- a coefficient or a limit: a number of the profile
abbrev pub IsConstant : Term → Type 0
IsConstant (Term.Number n) = IsInProfile n
IsConstant (Term.Var v) = ⊥

-- a number of the profile that isn't negative
abbrev pub IsWhole : Term → Type 0
IsWhole (Term.Number n) = IsInProfile n × (pos 0 ≤ℤ n)
IsWhole (Term.Var v) = ⊥

-- the terms of an array's entries
abbrev pub terms_of : List Scalar → List Term
terms_of es = map (λ s. s.term) es

pub untrue : {A : Type 0} → false ≡ true → A
untrue h = cc

-- an integer isn't a boolean
integer_bool : (s : Scalar) → is_integer s ≡ true → s.is_bool ≡ false
integer_bool s h = by s.is_bool h
  where
    by : (b : Bool) → not b ≡ true → b ≡ false
    by true e = untrue e
    by false e = refl

module _ (vars : List VarDecl) (constants : List ℤ) where
  -- the constants that are asked for are there
  abbrev pub AreThere : List ℤ → Type 0
  AreThere numbers = (n : ℤ) → IsAmong n numbers → IsAmong n constants

  term_has : (b : Bool) (t : Term) → IsTermOf vars b t → AreThere (constant_of t) → HasVariable vars constants t
  term_has b (Term.Var v) h g = h.inside
  term_has b (Term.Number n) h g = λ ne. g n (constant_here n (int_eq n (pos 1)) refl ne)

  terms_have : (es : List Scalar) → All (IsScalarOf vars) es → AreThere (flat_map constant_of (terms_of es)) → All (HasVariable vars constants) (terms_of es)
  terms_have [] h g = All-nil (HasVariable vars constants)
  terms_have (e ∷ es) h g =
      All-cons (HasVariable vars constants) e.term (terms_of es)
      (term_has e.is_bool e.term (All-head (IsScalarOf vars) e es h) (λ n k. g n (among_more n (constant_of e.term) (flat_map constant_of (terms_of es)) k)))
      (terms_have es (All-tail (IsScalarOf vars) e es h) (λ n k. g n (among_after n (constant_of e.term) (flat_map constant_of (terms_of es)) k)))

  constant_is : (b : Bool) (t : Term) → is_constant (record { is_bool = b; term = t }) ≡ true → IsTermOf vars b t → IsConstant t
  constant_is b (Term.Number n) e h = h.0
  constant_is b (Term.Var v) e h = untrue e

  constants_are : (es : List Scalar) → AllPass is_constant es → All (IsScalarOf vars) es → All IsConstant (terms_of es)
  constants_are [] p h = All-nil IsConstant
  constants_are (e ∷ es) p h =
      All-cons IsConstant e.term (terms_of es)
      (constant_is e.is_bool e.term (All-head (λ s. is_constant s ≡ true) e es p) (All-head (IsScalarOf vars) e es h))
      (constants_are es (All-tail (λ s. is_constant s ≡ true) e es p) (All-tail (IsScalarOf vars) e es h))

  amount_is : (b : Bool) (t : Term) → is_amount (record { is_bool = b; term = t }) ≡ true → IsTermOf vars b t → IsWhole t
  amount_is b (Term.Number n) e h = (h.0, (let k = (and_parts (not b) (int_le (pos 0) n) e).1 in grind (arith, ints)))
  amount_is b (Term.Var v) e h = untrue (and_parts (not b) false e).1

  amounts_are : (es : List Scalar) → AllPass is_amount es → All (IsScalarOf vars) es → All IsWhole (terms_of es)
  amounts_are [] p h = All-nil IsWhole
  amounts_are (e ∷ es) p h =
      All-cons IsWhole e.term (terms_of es)
      (amount_is e.is_bool e.term (All-head (λ s. is_amount s ≡ true) e es p) (All-head (IsScalarOf vars) e es h))
      (amounts_are es (All-tail (λ s. is_amount s ≡ true) e es p) (All-tail (IsScalarOf vars) e es h))

  -- an argument that fits its letter, and whose constants are there
  pub record IsServed (l : Letter) (m : Meaning) : Type 0 where
    pub meaning : IsMeaningOf vars m
    pub fit : fits l m ≡ true
    pub there : AreThere (cond (takes_variables l) (constants_of_operand (operand_of m)) [])

  abbrev pub AreServed : List Letter → List Meaning → Type 0
  AreServed [] [] = Unit {0}
  AreServed (l ∷ ls) (m ∷ ms) = IsServed l m × AreServed ls ms
  AreServed _ _ = ⊥

  pub are_served : (ls : List Letter) (ms : List Meaning) → all_fit ls ms ≡ true → All (IsMeaningOf vars) ms → AreThere (constants_at ls (map operand_of ms)) → AreServed ls ms
  are_served [] [] e h g = tt
  are_served [] (m ∷ ms) e h g = untrue e
  are_served (l ∷ ls) [] e h g = untrue e
  are_served (l ∷ ls) (m ∷ ms) e h g =
      let parts = and_parts (fits l m) (all_fit ls ms) e in
      let here : List ℤ = cond (takes_variables l) (constants_of_operand (operand_of m)) [] in
      let more : List ℤ = constants_at ls (map operand_of ms) in (
        record { meaning = All-head (IsMeaningOf vars) m ms h; fit = parts.0; there = λ n k. g n (among_more n here more k) },
        are_served ls ms parts.1 (All-tail (IsMeaningOf vars) m ms h) (λ n k. g n (among_after n here more k)),
      )

  -- ---- one argument: what is known of it

  -- a number or a variable
  pub record OneIs (is_bool : Bool) (s : Scalar) : Type 0 where
    pub has : HasVariable vars constants s.term
    pub typed : IsTermOf vars is_bool s.term

  -- an array of terms
  pub record RowIs (array : Array) : Type 0 where
    pub short : length array.entries ≤ most_entries
    pub has : All (HasVariable vars constants) (terms_of array.entries)
    pub typed : All (IsScalarOf vars) array.entries

  -- an array of coefficients
  pub record AreCoefficients (array : Array) : Type 0 where
    pub short : length array.entries ≤ most_entries
    pub are : All IsConstant (terms_of array.entries)

  pub at_integer : (P : Meaning → Type 0) → ((s : Scalar) → OneIs false s → P (Meaning.One s)) → (m : Meaning) → IsServed Letter.Integer m → P m
  at_integer P f (Meaning.One s) h = f s (record { has = term_has s.is_bool s.term h.meaning h.there; typed = subst (λ b. IsTermOf vars b s.term) (integer_bool s h.fit) h.meaning })
  at_integer P f (Meaning.Row array) h = untrue h.fit
  at_integer P f (Meaning.Set rs) h = untrue h.fit

  pub at_boolean : (P : Meaning → Type 0) → ((s : Scalar) → OneIs true s → P (Meaning.One s)) → (m : Meaning) → IsServed Letter.Boolean m → P m
  at_boolean P f (Meaning.One s) h = f s (record { has = term_has s.is_bool s.term h.meaning h.there; typed = subst (λ b. IsTermOf vars b s.term) h.fit h.meaning })
  at_boolean P f (Meaning.Row array) h = untrue h.fit
  at_boolean P f (Meaning.Set rs) h = untrue h.fit

  pub at_constant : (P : Meaning → Type 0) → ((s : Scalar) → IsConstant s.term → P (Meaning.One s)) → (m : Meaning) → IsServed Letter.Constant m → P m
  at_constant P f (Meaning.One s) h = f s (constant_is s.is_bool s.term (and_parts (is_integer s) (is_constant s) h.fit).1 h.meaning)
  at_constant P f (Meaning.Row array) h = untrue h.fit
  at_constant P f (Meaning.Set rs) h = untrue h.fit

  pub at_set : (P : Meaning → Type 0) → ((rs : List Range) → IsMeaningOf vars (Meaning.Set rs) → P (Meaning.Set rs)) → (m : Meaning) → IsServed Letter.Set m → P m
  at_set P f (Meaning.Set rs) h = f rs h.meaning
  at_set P f (Meaning.Row array) h = untrue h.fit
  at_set P f (Meaning.One s) h = untrue h.fit

  pub at_coefficients : (P : Meaning → Type 0) → ((array : Array) → AreCoefficients array → P (Meaning.Row array)) → (m : Meaning) → IsServed Letter.Coefficients m → P m
  at_coefficients P f (Meaning.Row array) h =
      f array (record { short = h.meaning.0; are = constants_are array.entries (AllPass-from_list_all is_constant array.entries (and_parts (list_all is_integer array.entries) (list_all is_constant array.entries) h.fit).1) h.meaning.1 })
  at_coefficients P f (Meaning.One s) h = untrue h.fit
  at_coefficients P f (Meaning.Set rs) h = untrue h.fit

  pub at_amount : (P : Meaning → Type 0) → ((s : Scalar) → IsWhole s.term → P (Meaning.One s)) → (m : Meaning) → IsServed Letter.Amount m → P m
  at_amount P f (Meaning.One s) h = f s (amount_is s.is_bool s.term h.fit h.meaning)
  at_amount P f (Meaning.Row array) h = untrue h.fit
  at_amount P f (Meaning.Set rs) h = untrue h.fit

  pub at_amounts : (P : Meaning → Type 0) → ((array : Array) → All IsWhole (terms_of array.entries) → P (Meaning.Row array)) → (m : Meaning) → IsServed Letter.Amounts m → P m
  at_amounts P f (Meaning.Row array) h = f array (amounts_are array.entries (AllPass-from_list_all is_amount array.entries h.fit) h.meaning.1)
  at_amounts P f (Meaning.One s) h = untrue h.fit
  at_amounts P f (Meaning.Set rs) h = untrue h.fit

  -- arrays of integers, of booleans, of numbers and of truth values
  abbrev pub IsRowLetter : Letter → Type 0
  IsRowLetter Letter.Integers = Unit {0}
  IsRowLetter Letter.Booleans = Unit {0}
  IsRowLetter Letter.Numbers = Unit {0}
  IsRowLetter Letter.Truths = Unit {0}
  IsRowLetter _ = ⊥

  array_is : (array : Array) → IsMeaningOf vars (Meaning.Row array) → AreThere (flat_map constant_of (terms_of array.entries)) → RowIs array
  array_is array h g = record { short = h.0; has = terms_have array.entries h.1 g; typed = h.1 }

  pub at_row : (P : Meaning → Type 0) → ((array : Array) → RowIs array → P (Meaning.Row array)) → (l : Letter) → IsRowLetter l → (m : Meaning) → IsServed l m → P m
  at_row P f Letter.Integers r (Meaning.Row array) h = f array (array_is array h.meaning h.there)
  at_row P f Letter.Booleans r (Meaning.Row array) h = f array (array_is array h.meaning h.there)
  at_row P f Letter.Numbers r (Meaning.Row array) h = f array (array_is array h.meaning h.there)
  at_row P f Letter.Truths r (Meaning.Row array) h = f array (array_is array h.meaning h.there)
  at_row P f Letter.Integers r (Meaning.One s) h = untrue h.fit
  at_row P f Letter.Booleans r (Meaning.One s) h = untrue h.fit
  at_row P f Letter.Numbers r (Meaning.One s) h = untrue h.fit
  at_row P f Letter.Truths r (Meaning.One s) h = untrue h.fit
  at_row P f Letter.Integers r (Meaning.Set rs) h = untrue h.fit
  at_row P f Letter.Booleans r (Meaning.Set rs) h = untrue h.fit
  at_row P f Letter.Numbers r (Meaning.Set rs) h = untrue h.fit
  at_row P f Letter.Truths r (Meaning.Set rs) h = untrue h.fit
  at_row P f _ r m h = absurd r

  -- ---- two, three or four arguments

  pub at_two : (k l : Letter) (P : List Meaning → Type 0) → ((m n : Meaning) → IsServed k m → IsServed l n → P (m ∷ n ∷ [])) → (ms : List Meaning) → AreServed (k ∷ l ∷ []) ms → P ms
  at_two k l P f [] h = absurd h
  at_two k l P f (m ∷ []) h = absurd h.1
  at_two k l P f (m ∷ n ∷ []) h = f m n h.0 h.1.0
  at_two k l P f (m ∷ n ∷ o ∷ ms) h = absurd h.1.1

  pub at_three : (k l j : Letter) (P : List Meaning → Type 0) → ((m n o : Meaning) → IsServed k m → IsServed l n → IsServed j o → P (m ∷ n ∷ o ∷ [])) → (ms : List Meaning) → AreServed (k ∷ l ∷ j ∷ []) ms → P ms
  at_three k l j P f [] h = absurd h
  at_three k l j P f (m ∷ []) h = absurd h.1
  at_three k l j P f (m ∷ n ∷ []) h = absurd h.1.1
  at_three k l j P f (m ∷ n ∷ o ∷ []) h = f m n o h.0 h.1.0 h.1.1.0
  at_three k l j P f (m ∷ n ∷ o ∷ p ∷ ms) h = absurd h.1.1.1

  pub at_four : (k l j i : Letter) (P : List Meaning → Type 0) → ((m n o p : Meaning) → IsServed k m → IsServed l n → IsServed j o → IsServed i p → P (m ∷ n ∷ o ∷ p ∷ [])) → (ms : List Meaning) → AreServed (k ∷ l ∷ j ∷ i ∷ []) ms → P ms
  at_four k l j i P f [] h = absurd h
  at_four k l j i P f (m ∷ []) h = absurd h.1
  at_four k l j i P f (m ∷ n ∷ []) h = absurd h.1.1
  at_four k l j i P f (m ∷ n ∷ o ∷ []) h = absurd h.1.1.1
  at_four k l j i P f (m ∷ n ∷ o ∷ p ∷ []) h = f m n o p h.0 h.1.0 h.1.1.0 h.1.1.1.0
  at_four k l j i P f (m ∷ n ∷ o ∷ p ∷ q ∷ ms) h = absurd h.1.1.1.1

  -- ---- the names

  pub some_found : (p : List Letter → Bool) (ls : List Letter) → IsSome (find p (ls ∷ [])) → p ls ≡ true
  some_found p ls h = by (p ls) refl h
    where
      by : (b : Bool) → p ls ≡ b → IsSome (cond b (Some ls) None) → p ls ≡ true
      by true e h = e
      by false e h = untrue h

  pub found_is : (p : List Letter → Bool) (ls : List Letter) → p ls ≡ true → find p (ls ∷ []) ≡ Some ls
  found_is p ls e = ap (λ b. cond b (Some ls) None) e

  module _ (letters_are : LettersAreThose) (name : ConstraintName) (ms : List Meaning) (ls : List Letter) (one : signatures name ≡ ls ∷ [])
      (fit : IsSome (row_for name ms)) (each : All (IsMeaningOf vars) ms) (there : HasConstants constants (constraint_on name ms)) where
    row_fits : fits_row ms ls ≡ true
    unfolding row_for
    row_fits = some_found (fits_row ms) ls (subst (λ rows. IsSome (find (fits_row ms) rows)) one fit)

    row_is : row_for name ms ≡ Some ls
    unfolding row_for
    row_is = ap (find (fits_row ms)) one ∙ found_is (fits_row ms) ls row_fits

    pub row_served : AreServed ls ms
    unfolding constants_in
    row_served =
        are_served ls ms (and_parts (all_fit ls ms) (has_equal_lengths ls ms) row_fits).0 each
        (subst (λ letters. AreThere (constants_at letters (map operand_of ms))) (letters_are name ms ls row_is) there)

    pub equal_lengths : has_equal_lengths ls ms ≡ true
    equal_lengths = (and_parts (all_fit ls ms) (has_equal_lengths ls ms) row_fits).1

-- the law of a row: on arguments that fit these letters, the constraint's kernels mean the constraint
abbrev pub Law : List VarDecl → List ℤ → ConstraintName → List Letter → Type 0
Law vars constants name letters =
    (ms : List Meaning) → AreServed vars constants letters ms → has_equal_lengths letters ms ≡ true → RowMeans vars constants name ms

-- the same, where its list isn't too long
abbrev pub ShortLaw : List VarDecl → List ℤ → ConstraintName → List Letter → Type 0
ShortLaw vars constants name letters =
    (ms : List Meaning) → AreServed vars constants letters ms → has_equal_lengths letters ms ≡ true → has_long_row (constraint_on name ms) ≡ false → RowMeans vars constants name ms
