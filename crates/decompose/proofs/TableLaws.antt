-- The kernels of every row of the table mean its constraint.
use Rattle.std.proofs.Common.{◌≡◌, ℤ, Bool, true, false, cond, List, [], ◌∷◌, map, Some, refl, sym, ap, subst, ◌∙◌}
use Rattle.std.specs.Prelude.{IsSome, find}
use Rattle.std.specs.List.{All}
use Rattle.std.proofs.lemmas.Bool.{and_parts}
use Rattle.constraint_model.specs.declared.model.VarDecl.{VarDecl}
use Rattle.constraint_model.specs.declared.model.Constraint.{Constraint}
use Rattle.constraint_model.specs.declared.meanings.Meaning.{Meaning}
use Rattle.constraint_model.specs.declared.table.ConstraintName.{ConstraintName}
use Rattle.constraint_model.specs.declared.table.Letter.{Letter}
use Rattle.constraint_model.specs.Table.{signatures}
use Rattle.constraint_model.specs.Fits.{all_fit, has_equal_lengths, fits_row, row_for, operand_of, constraint_on, constants_at, constants_in, has_long_row, LettersAreThose}
use Rattle.constraint_model.specs.WellFormed.{IsMeaningOf, IsConstraintOf}
use Rattle.decompose.specs.Kernels.{kernels_on}
use Rattle.decompose.specs.Places.{numbering_of}
use Rattle.decompose.proofs.Means.{HasConstants, IsGiven, Means, RowMeans}
use Rattle.decompose.proofs.Served.{AreThere, are_served, some_found, found_is, row_served, equal_lengths, Law, ShortLaw}
use Rattle.decompose.proofs.SumRows.{int_eq, int_ne, int_le, int_lt, int_lin_eq, int_lin_ne, int_lin_le, int_eq_reif, int_ne_reif, int_le_reif, int_lt_reif, int_lin_eq_reif, int_lin_ne_reif, int_lin_le_reif, int_plus, bool_to_int, bool_eq, bool_le, bool_lt, bool_eq_reif, bool_le_reif, bool_lt_reif, bool_not, bool_xor, bool_xor_reif, bool_lin_le, bool_lin_eq}
use Rattle.decompose.proofs.ArithmeticRows.{int_times, int_div, int_mod, int_abs}
use Rattle.decompose.proofs.ExtremeRows.{int_max, int_min, array_int_maximum, array_int_minimum}
use Rattle.decompose.proofs.ElementRows.{array_int_element, array_var_int_element, array_bool_element, array_var_bool_element}
use Rattle.decompose.proofs.GlobalRows.{pccp_all_different, pccp_cumulative}
use Rattle.decompose.proofs.SetRows.{set_in, set_in_reif}
use Rattle.decompose.proofs.ClauseRows.{bool_and, bool_or, array_bool_and, array_bool_or, bool_clause, bool_clause_reif}

module _ (letters_are : LettersAreThose) (vars : List VarDecl) (constants : List ℤ) (ms : List Meaning) where
  -- a name that may be called in one way
  by_law : (name : ConstraintName) (ls : List Letter) → signatures name ≡ ls ∷ [] → Law vars constants name ls → IsSome (row_for name ms) → All (IsMeaningOf vars) ms
      → HasConstants constants (constraint_on name ms) → has_long_row (constraint_on name ms) ≡ false → RowMeans vars constants name ms
  by_law name ls one law fit each there short =
      law ms (row_served vars constants letters_are name ms ls one fit each there) (equal_lengths vars constants letters_are name ms ls one fit each there)

  -- one whose list is short
  by_short_law : (name : ConstraintName) (ls : List Letter) → signatures name ≡ ls ∷ [] → ShortLaw vars constants name ls → IsSome (row_for name ms) → All (IsMeaningOf vars) ms
      → HasConstants constants (constraint_on name ms) → has_long_row (constraint_on name ms) ≡ false → RowMeans vars constants name ms
  by_short_law name ls one law fit each there short =
      law ms (row_served vars constants letters_are name ms ls one fit each there) (equal_lengths vars constants letters_are name ms ls one fit each there) short

  -- arguments that fit these letters, which are those that are taken
  by_letters : (name : ConstraintName) (ls : List Letter) → Law vars constants name ls → fits_row ms ls ≡ true → row_for name ms ≡ Some ls → All (IsMeaningOf vars) ms
      → HasConstants constants (constraint_on name ms) → RowMeans vars constants name ms
  unfolding constants_in
  by_letters name ls law fits is each there =
      let parts = and_parts (all_fit ls ms) (has_equal_lengths ls ms) fits in
      law ms
      (are_served vars constants ls ms parts.0 each (subst (λ letters. AreThere vars constants (constants_at letters (map operand_of ms))) (letters_are name ms ls is) there))
      parts.1

  -- a name that may be called in two ways
  by_either : (name : ConstraintName) (ls ks : List Letter) → signatures name ≡ ls ∷ ks ∷ [] → Law vars constants name ls → Law vars constants name ks → IsSome (row_for name ms)
      → All (IsMeaningOf vars) ms → HasConstants constants (constraint_on name ms) → has_long_row (constraint_on name ms) ≡ false → RowMeans vars constants name ms
  unfolding row_for
  by_either name ls ks two law other fit each there short = by (fits_row ms ls) refl
    where
      rows_are : row_for name ms ≡ find (fits_row ms) (ls ∷ ks ∷ [])
      rows_are = ap (find (fits_row ms)) two

      by : (b : Bool) → fits_row ms ls ≡ b → RowMeans vars constants name ms
      by true e = by_letters name ls law e (rows_are ∙ ap (λ b. cond b (Some ls) (find (fits_row ms) (ks ∷ []))) e) each there
      by false e =
          let rest : row_for name ms ≡ find (fits_row ms) (ks ∷ []) = rows_are ∙ ap (λ b. cond b (Some ls) (find (fits_row ms) (ks ∷ []))) e in
          let fits = some_found vars constants (fits_row ms) ks (subst IsSome rest fit) in
          by_letters name ks other fits (rest ∙ found_is vars constants (fits_row ms) ks fits) each there

pub row_law : LettersAreThose → (vars : List VarDecl) (constants : List ℤ) → IsGiven vars constants → (name : ConstraintName) (ms : List Meaning) → IsSome (row_for name ms)
    → All (IsMeaningOf vars) ms → HasConstants constants (constraint_on name ms) → has_long_row (constraint_on name ms) ≡ false → RowMeans vars constants name ms
row_law letters vars constants given ConstraintName.IntEq ms = by_law letters vars constants ms ConstraintName.IntEq _ refl (int_eq vars constants given)
row_law letters vars constants given ConstraintName.IntNe ms = by_law letters vars constants ms ConstraintName.IntNe _ refl (int_ne vars constants given)
row_law letters vars constants given ConstraintName.IntLe ms = by_law letters vars constants ms ConstraintName.IntLe _ refl (int_le vars constants given)
row_law letters vars constants given ConstraintName.IntLt ms = by_law letters vars constants ms ConstraintName.IntLt _ refl (int_lt vars constants given)
row_law letters vars constants given ConstraintName.IntLinEq ms = by_law letters vars constants ms ConstraintName.IntLinEq _ refl (int_lin_eq vars constants given)
row_law letters vars constants given ConstraintName.IntLinNe ms = by_law letters vars constants ms ConstraintName.IntLinNe _ refl (int_lin_ne vars constants given)
row_law letters vars constants given ConstraintName.IntLinLe ms = by_law letters vars constants ms ConstraintName.IntLinLe _ refl (int_lin_le vars constants given)
row_law letters vars constants given ConstraintName.IntEqReif ms = by_law letters vars constants ms ConstraintName.IntEqReif _ refl (int_eq_reif vars constants given)
row_law letters vars constants given ConstraintName.IntNeReif ms = by_law letters vars constants ms ConstraintName.IntNeReif _ refl (int_ne_reif vars constants given)
row_law letters vars constants given ConstraintName.IntLeReif ms = by_law letters vars constants ms ConstraintName.IntLeReif _ refl (int_le_reif vars constants given)
row_law letters vars constants given ConstraintName.IntLtReif ms = by_law letters vars constants ms ConstraintName.IntLtReif _ refl (int_lt_reif vars constants given)
row_law letters vars constants given ConstraintName.IntLinEqReif ms = by_law letters vars constants ms ConstraintName.IntLinEqReif _ refl (int_lin_eq_reif vars constants given)
row_law letters vars constants given ConstraintName.IntLinNeReif ms = by_law letters vars constants ms ConstraintName.IntLinNeReif _ refl (int_lin_ne_reif vars constants given)
row_law letters vars constants given ConstraintName.IntLinLeReif ms = by_law letters vars constants ms ConstraintName.IntLinLeReif _ refl (int_lin_le_reif vars constants given)
row_law letters vars constants given ConstraintName.IntPlus ms = by_law letters vars constants ms ConstraintName.IntPlus _ refl (int_plus vars constants given)
row_law letters vars constants given ConstraintName.IntTimes ms = by_law letters vars constants ms ConstraintName.IntTimes _ refl (int_times vars constants)
row_law letters vars constants given ConstraintName.IntDiv ms = by_law letters vars constants ms ConstraintName.IntDiv _ refl (int_div vars constants)
row_law letters vars constants given ConstraintName.IntMod ms = by_law letters vars constants ms ConstraintName.IntMod _ refl (int_mod vars constants)
row_law letters vars constants given ConstraintName.IntAbs ms = by_law letters vars constants ms ConstraintName.IntAbs _ refl (int_abs vars constants)
row_law letters vars constants given ConstraintName.IntMax ms = by_law letters vars constants ms ConstraintName.IntMax _ refl (int_max vars constants)
row_law letters vars constants given ConstraintName.IntMin ms = by_law letters vars constants ms ConstraintName.IntMin _ refl (int_min vars constants)
row_law letters vars constants given ConstraintName.ArrayIntMaximum ms = by_law letters vars constants ms ConstraintName.ArrayIntMaximum _ refl (array_int_maximum vars constants)
row_law letters vars constants given ConstraintName.ArrayIntMinimum ms = by_law letters vars constants ms ConstraintName.ArrayIntMinimum _ refl (array_int_minimum vars constants)
row_law letters vars constants given ConstraintName.ArrayIntElement ms = by_law letters vars constants ms ConstraintName.ArrayIntElement _ refl (array_int_element vars constants)
row_law letters vars constants given ConstraintName.ArrayVarIntElement ms = by_law letters vars constants ms ConstraintName.ArrayVarIntElement _ refl (array_var_int_element vars constants)
row_law letters vars constants given ConstraintName.ArrayBoolElement ms = by_law letters vars constants ms ConstraintName.ArrayBoolElement _ refl (array_bool_element vars constants)
row_law letters vars constants given ConstraintName.ArrayVarBoolElement ms = by_law letters vars constants ms ConstraintName.ArrayVarBoolElement _ refl (array_var_bool_element vars constants)
row_law letters vars constants given ConstraintName.SetIn ms = by_law letters vars constants ms ConstraintName.SetIn _ refl (set_in vars constants)
row_law letters vars constants given ConstraintName.SetInReif ms = by_law letters vars constants ms ConstraintName.SetInReif _ refl (set_in_reif vars constants)
row_law letters vars constants given ConstraintName.BoolToInt ms = by_law letters vars constants ms ConstraintName.BoolToInt _ refl (bool_to_int vars constants given)
row_law letters vars constants given ConstraintName.BoolEq ms = by_law letters vars constants ms ConstraintName.BoolEq _ refl (bool_eq vars constants given)
row_law letters vars constants given ConstraintName.BoolLe ms = by_law letters vars constants ms ConstraintName.BoolLe _ refl (bool_le vars constants given)
row_law letters vars constants given ConstraintName.BoolLt ms = by_law letters vars constants ms ConstraintName.BoolLt _ refl (bool_lt vars constants given)
row_law letters vars constants given ConstraintName.BoolEqReif ms = by_law letters vars constants ms ConstraintName.BoolEqReif _ refl (bool_eq_reif vars constants given)
row_law letters vars constants given ConstraintName.BoolLeReif ms = by_law letters vars constants ms ConstraintName.BoolLeReif _ refl (bool_le_reif vars constants given)
row_law letters vars constants given ConstraintName.BoolLtReif ms = by_law letters vars constants ms ConstraintName.BoolLtReif _ refl (bool_lt_reif vars constants given)
row_law letters vars constants given ConstraintName.BoolNot ms = by_law letters vars constants ms ConstraintName.BoolNot _ refl (bool_not vars constants given)
row_law letters vars constants given ConstraintName.BoolXor ms = by_either letters vars constants ms ConstraintName.BoolXor _ _ refl (bool_xor vars constants given) (bool_xor_reif vars constants given)
row_law letters vars constants given ConstraintName.BoolAnd ms = by_law letters vars constants ms ConstraintName.BoolAnd _ refl (bool_and vars constants)
row_law letters vars constants given ConstraintName.BoolOr ms = by_law letters vars constants ms ConstraintName.BoolOr _ refl (bool_or vars constants)
row_law letters vars constants given ConstraintName.ArrayBoolAnd ms = by_law letters vars constants ms ConstraintName.ArrayBoolAnd _ refl (array_bool_and vars constants)
row_law letters vars constants given ConstraintName.ArrayBoolOr ms = by_law letters vars constants ms ConstraintName.ArrayBoolOr _ refl (array_bool_or vars constants)
row_law letters vars constants given ConstraintName.BoolClause ms = by_law letters vars constants ms ConstraintName.BoolClause _ refl (bool_clause vars constants)
row_law letters vars constants given ConstraintName.BoolClauseReif ms = by_law letters vars constants ms ConstraintName.BoolClauseReif _ refl (bool_clause_reif vars constants)
row_law letters vars constants given ConstraintName.BoolLinLe ms = by_law letters vars constants ms ConstraintName.BoolLinLe _ refl (bool_lin_le vars constants given)
row_law letters vars constants given ConstraintName.BoolLinEq ms = by_law letters vars constants ms ConstraintName.BoolLinEq _ refl (bool_lin_eq vars constants given)
row_law letters vars constants given ConstraintName.PccpAllDifferent ms = by_short_law letters vars constants ms ConstraintName.PccpAllDifferent _ refl (pccp_all_different vars constants)
row_law letters vars constants given ConstraintName.PccpCumulative ms = by_short_law letters vars constants ms ConstraintName.PccpCumulative _ refl (pccp_cumulative vars constants)

-- and so do those of every constraint of a model
pub constraint_means : LettersAreThose → (vars : List VarDecl) (constants : List ℤ) → IsGiven vars constants → (c : Constraint) → IsConstraintOf vars c → HasConstants constants c
    → Means vars constants c (kernels_on (numbering_of vars constants) c)
constraint_means letters vars constants given c h there =
    subst (λ (d : Constraint). Means vars constants d (kernels_on (numbering_of vars constants) d)) (sym h.is_on)
    (row_law letters vars constants given c.name h.meanings h.fits h.each (subst (HasConstants constants) h.is_on there) (subst (λ (d : Constraint). has_long_row d ≡ false) h.is_on h.short))
