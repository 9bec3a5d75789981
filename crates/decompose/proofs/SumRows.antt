-- The laws of the rows that are sums.
use Rattle.std.proofs.Common.{◌≡◌, ℤ, ◌≤ℤ◌, ◌≤◌, arith, true, false, List, [], ◌∷◌, length, map, refl}
use Rattle.std.specs.Prelude.{nat_eq}
use Rattle.std.specs.List.{All}
use Rattle.std.proofs.lemmas.Bool.{eqb-true}
use Rattle.std.proofs.lemmas.List.{length-map}
use Rattle.constraint_model.specs.declared.model.Term.{Term}
use Rattle.constraint_model.specs.declared.model.VarDecl.{VarDecl}
use Rattle.constraint_model.specs.declared.meanings.Array.{Array}
use Rattle.constraint_model.specs.declared.meanings.Scalar.{Scalar}
use Rattle.constraint_model.specs.declared.meanings.Meaning.{Meaning}
use Rattle.constraint_model.specs.declared.table.ConstraintName.{ConstraintName}
use Rattle.constraint_model.specs.declared.table.Letter.{Letter}
use Rattle.constraint_model.specs.Fits.{kernels_of, has_equal_lengths}
use Rattle.constraint_model.specs.Relations.{HoldsOn, value, dot}
use Rattle.constraint_model.specs.Limits.{most_entries}
use Rattle.decompose.specs.Kernels.{row_of, number_of}
use Rattle.decompose.proofs.Means.{RowMeans, IsGiven, HasVariable}
use Rattle.decompose.proofs.Served.{OneIs, RowIs, AreCoefficients, IsConstant, IsRowLetter, terms_of, at_integer, at_boolean, at_constant, at_coefficients, at_row, at_three, at_four, Law}
use Rattle.decompose.proofs.OneKernel.{alone, by_two, by_three}
use Rattle.decompose.proofs.SumLaws.{IsSumOf, le_kernel, eq_kernel, always_means, never_means, literal_means, opposite_means, same_sum, most_sum, less_sum, differing_sum, third_sum, linear_sum, total_sum, decide_same}

module _ (vars : List VarDecl) (constants : List ℤ) where
  -- the coefficients and the terms of a sum
  record AreSummed (cs ts : Array) : Type 0 where
    short : length (terms_of cs.entries) ≤ most_entries
    same : length (terms_of cs.entries) ≡ length (terms_of ts.entries)
    are : All IsConstant (terms_of cs.entries)
    has : All (HasVariable vars constants) (terms_of ts.entries)

  summed : (cs ts : Array) → AreCoefficients vars constants cs → RowIs vars constants ts → nat_eq (length cs.entries) (length ts.entries) ≡ true → AreSummed cs ts
  summed cs ts hc ht e =
      let lc = length-map {B = Term} cs.entries (λ s. s.term) in
      let lt = length-map {B = Term} ts.entries (λ s. s.term) in
      let few = hc.short in
      let both : length cs.entries ≡ length ts.entries = eqb-true (length cs.entries) (length ts.entries) e in
      record { short = omega arith; same = omega arith; are = hc.are; has = ht.has }

  -- a row of coefficients, an array of terms of this letter, and a limit
  by_sum : (name : ConstraintName) (l : Letter) → IsRowLetter vars constants l
      → ((cs ts : Array) (c : Scalar) → AreSummed cs ts → IsConstant c.term → RowMeans vars constants name (Meaning.Row cs ∷ Meaning.Row ts ∷ Meaning.One c ∷ []))
      → Law vars constants name (Letter.Coefficients ∷ l ∷ Letter.Constant ∷ [])
  by_sum name l is f ms h e =
      let letters : List Letter = Letter.Coefficients ∷ l ∷ Letter.Constant ∷ [] in
      let P : List Meaning → Type 0 = λ os. has_equal_lengths letters os ≡ true → RowMeans vars constants name os in
      at_three vars constants Letter.Coefficients l Letter.Constant P
      (λ m n o hm hn ho.
      at_coefficients vars constants (λ p. P (p ∷ n ∷ o ∷ []))
      (λ cs hc.
      at_row vars constants (λ p. P (Meaning.Row cs ∷ p ∷ o ∷ []))
      (λ ts ht. at_constant vars constants (λ p. P (Meaning.Row cs ∷ Meaning.Row ts ∷ p ∷ [])) (λ c is_c g. f cs ts c (summed cs ts hc ht g) is_c) o ho)
      l is n hn)
      m hm)
      ms h e

  -- the same with a boolean behind them
  by_reified_sum : (name : ConstraintName)
      → ((cs ts : Array) (c r : Scalar) → AreSummed cs ts → IsConstant c.term → OneIs vars constants true r → RowMeans vars constants name (Meaning.Row cs ∷ Meaning.Row ts ∷ Meaning.One c ∷ Meaning.One r ∷ []))
      → Law vars constants name (Letter.Coefficients ∷ Letter.Integers ∷ Letter.Constant ∷ Letter.Boolean ∷ [])
  by_reified_sum name f ms h e =
      let letters : List Letter = Letter.Coefficients ∷ Letter.Integers ∷ Letter.Constant ∷ Letter.Boolean ∷ [] in
      let P : List Meaning → Type 0 = λ os. has_equal_lengths letters os ≡ true → RowMeans vars constants name os in
      at_four vars constants Letter.Coefficients Letter.Integers Letter.Constant Letter.Boolean P
      (λ m n o b hm hn ho hb.
      at_coefficients vars constants (λ p. P (p ∷ n ∷ o ∷ b ∷ []))
      (λ cs hc.
      at_row vars constants (λ p. P (Meaning.Row cs ∷ p ∷ o ∷ b ∷ []))
      (λ ts ht.
      at_constant vars constants (λ p. P (Meaning.Row cs ∷ Meaning.Row ts ∷ p ∷ b ∷ []))
      (λ c is_c. at_boolean vars constants (λ p. P (Meaning.Row cs ∷ Meaning.Row ts ∷ Meaning.One c ∷ p ∷ [])) (λ r hr g. f cs ts c r (summed cs ts hc ht g) is_c hr) b hb)
      o ho)
      Letter.Integers tt n hn)
      m hm)
      ms h e

  -- a row of coefficients, an array of booleans, and their total
  by_total : (name : ConstraintName)
      → ((cs ts : Array) (c : Scalar) → AreSummed cs ts → OneIs vars constants false c → RowMeans vars constants name (Meaning.Row cs ∷ Meaning.Row ts ∷ Meaning.One c ∷ []))
      → Law vars constants name (Letter.Coefficients ∷ Letter.Booleans ∷ Letter.Integer ∷ [])
  by_total name f ms h e =
      let letters : List Letter = Letter.Coefficients ∷ Letter.Booleans ∷ Letter.Integer ∷ [] in
      let P : List Meaning → Type 0 = λ os. has_equal_lengths letters os ≡ true → RowMeans vars constants name os in
      at_three vars constants Letter.Coefficients Letter.Booleans Letter.Integer P
      (λ m n o hm hn ho.
      at_coefficients vars constants (λ p. P (p ∷ n ∷ o ∷ []))
      (λ cs hc.
      at_row vars constants (λ p. P (Meaning.Row cs ∷ p ∷ o ∷ []))
      (λ ts ht. at_integer vars constants (λ p. P (Meaning.Row cs ∷ Meaning.Row ts ∷ p ∷ [])) (λ total h_total g. f cs ts total (summed cs ts hc ht g) h_total) o ho)
      Letter.Booleans tt n hn)
      m hm)
      ms h e

  -- the sum of an array and a limit
  array_sum : (R : ℤ → ℤ → Type 0) (cs ts : Array) (c : Scalar) → AreSummed cs ts → IsConstant c.term
      → IsSumOf vars constants R (λ a. R (dot (map (value a) (terms_of cs.entries)) (map (value a) (terms_of ts.entries))) (value a c.term)) (map number_of (terms_of cs.entries)) (terms_of ts.entries) (number_of c.term)
  array_sum R cs ts c h is = linear_sum vars constants (terms_of cs.entries) (terms_of ts.entries) h.short h.same h.are h.has R c.term is

module _ (vars : List VarDecl) (constants : List ℤ) (given : IsGiven vars constants) where
  -- ---- the rows

  pub int_eq : Law vars constants ConstraintName.IntEq (Letter.Integer ∷ Letter.Integer ∷ [])
  unfolding row_of HoldsOn kernels_of
  int_eq =
      by_two vars constants ConstraintName.IntEq false false
      (λ x y hx hy. alone vars constants refl (always_means vars constants eq_kernel (same_sum vars constants x.term y.term hx.has hy.has)))

  pub int_ne : Law vars constants ConstraintName.IntNe (Letter.Integer ∷ Letter.Integer ∷ [])
  unfolding row_of HoldsOn kernels_of
  int_ne =
      by_two vars constants ConstraintName.IntNe false false
      (λ x y hx hy. alone vars constants refl (never_means vars constants eq_kernel (same_sum vars constants x.term y.term hx.has hy.has)))

  pub int_le : Law vars constants ConstraintName.IntLe (Letter.Integer ∷ Letter.Integer ∷ [])
  unfolding row_of HoldsOn kernels_of
  int_le =
      by_two vars constants ConstraintName.IntLe false false
      (λ x y hx hy. alone vars constants refl (always_means vars constants le_kernel (most_sum vars constants x.term y.term hx.has hy.has)))

  pub int_lt : Law vars constants ConstraintName.IntLt (Letter.Integer ∷ Letter.Integer ∷ [])
  unfolding row_of HoldsOn kernels_of
  int_lt =
      by_two vars constants ConstraintName.IntLt false false
      (λ x y hx hy. alone vars constants refl (always_means vars constants le_kernel (less_sum vars constants x.term y.term hx.has hy.has)))

  pub int_lin_eq : Law vars constants ConstraintName.IntLinEq (Letter.Coefficients ∷ Letter.Integers ∷ Letter.Constant ∷ [])
  unfolding row_of HoldsOn kernels_of
  int_lin_eq =
      by_sum vars constants ConstraintName.IntLinEq Letter.Integers tt
      (λ cs ts c h is. alone vars constants refl (always_means vars constants eq_kernel (array_sum vars constants (λ s c. s ≡ c) cs ts c h is)))

  pub int_lin_ne : Law vars constants ConstraintName.IntLinNe (Letter.Coefficients ∷ Letter.Integers ∷ Letter.Constant ∷ [])
  unfolding row_of HoldsOn kernels_of
  int_lin_ne =
      by_sum vars constants ConstraintName.IntLinNe Letter.Integers tt
      (λ cs ts c h is. alone vars constants refl (never_means vars constants eq_kernel (array_sum vars constants (λ s c. s ≡ c) cs ts c h is)))

  pub int_lin_le : Law vars constants ConstraintName.IntLinLe (Letter.Coefficients ∷ Letter.Integers ∷ Letter.Constant ∷ [])
  unfolding row_of HoldsOn kernels_of
  int_lin_le =
      by_sum vars constants ConstraintName.IntLinLe Letter.Integers tt
      (λ cs ts c h is. alone vars constants refl (always_means vars constants le_kernel (array_sum vars constants (λ s c. s ≤ℤ c) cs ts c h is)))

  pub int_eq_reif : Law vars constants ConstraintName.IntEqReif (Letter.Integer ∷ Letter.Integer ∷ Letter.Boolean ∷ [])
  unfolding row_of HoldsOn kernels_of
  int_eq_reif =
      by_three vars constants ConstraintName.IntEqReif false false true
      (λ x y r hx hy hr. alone vars constants refl (literal_means vars constants eq_kernel (same_sum vars constants x.term y.term hx.has hy.has) r.term hr.has))

  pub int_ne_reif : Law vars constants ConstraintName.IntNeReif (Letter.Integer ∷ Letter.Integer ∷ Letter.Boolean ∷ [])
  unfolding row_of HoldsOn kernels_of
  int_ne_reif =
      by_three vars constants ConstraintName.IntNeReif false false true
      (λ x y r hx hy hr. alone vars constants refl (opposite_means vars constants eq_kernel (same_sum vars constants x.term y.term hx.has hy.has) decide_same r.term hr.has))

  pub int_le_reif : Law vars constants ConstraintName.IntLeReif (Letter.Integer ∷ Letter.Integer ∷ Letter.Boolean ∷ [])
  unfolding row_of HoldsOn kernels_of
  int_le_reif =
      by_three vars constants ConstraintName.IntLeReif false false true
      (λ x y r hx hy hr. alone vars constants refl (literal_means vars constants le_kernel (most_sum vars constants x.term y.term hx.has hy.has) r.term hr.has))

  pub int_lt_reif : Law vars constants ConstraintName.IntLtReif (Letter.Integer ∷ Letter.Integer ∷ Letter.Boolean ∷ [])
  unfolding row_of HoldsOn kernels_of
  int_lt_reif =
      by_three vars constants ConstraintName.IntLtReif false false true
      (λ x y r hx hy hr. alone vars constants refl (literal_means vars constants le_kernel (less_sum vars constants x.term y.term hx.has hy.has) r.term hr.has))

  pub int_lin_eq_reif : Law vars constants ConstraintName.IntLinEqReif (Letter.Coefficients ∷ Letter.Integers ∷ Letter.Constant ∷ Letter.Boolean ∷ [])
  unfolding row_of HoldsOn kernels_of
  int_lin_eq_reif =
      by_reified_sum vars constants ConstraintName.IntLinEqReif
      (λ cs ts c r h is hr. alone vars constants refl (literal_means vars constants eq_kernel (array_sum vars constants (λ s c. s ≡ c) cs ts c h is) r.term hr.has))

  pub int_lin_ne_reif : Law vars constants ConstraintName.IntLinNeReif (Letter.Coefficients ∷ Letter.Integers ∷ Letter.Constant ∷ Letter.Boolean ∷ [])
  unfolding row_of HoldsOn kernels_of
  int_lin_ne_reif =
      by_reified_sum vars constants ConstraintName.IntLinNeReif
      (λ cs ts c r h is hr. alone vars constants refl (opposite_means vars constants eq_kernel (array_sum vars constants (λ s c. s ≡ c) cs ts c h is) decide_same r.term hr.has))

  pub int_lin_le_reif : Law vars constants ConstraintName.IntLinLeReif (Letter.Coefficients ∷ Letter.Integers ∷ Letter.Constant ∷ Letter.Boolean ∷ [])
  unfolding row_of HoldsOn kernels_of
  int_lin_le_reif =
      by_reified_sum vars constants ConstraintName.IntLinLeReif
      (λ cs ts c r h is hr. alone vars constants refl (literal_means vars constants le_kernel (array_sum vars constants (λ s c. s ≤ℤ c) cs ts c h is) r.term hr.has))

  pub int_plus : Law vars constants ConstraintName.IntPlus (Letter.Integer ∷ Letter.Integer ∷ Letter.Integer ∷ [])
  unfolding row_of HoldsOn kernels_of
  int_plus =
      by_three vars constants ConstraintName.IntPlus false false false
      (λ x y z hx hy hz. alone vars constants refl (always_means vars constants eq_kernel (third_sum vars constants x.term y.term hx.has hy.has z.term hz.has)))

  pub bool_to_int : Law vars constants ConstraintName.BoolToInt (Letter.Boolean ∷ Letter.Integer ∷ [])
  unfolding row_of HoldsOn kernels_of
  bool_to_int =
      by_two vars constants ConstraintName.BoolToInt true false
      (λ x y hx hy. alone vars constants refl (always_means vars constants eq_kernel (same_sum vars constants x.term y.term hx.has hy.has)))

  pub bool_eq : Law vars constants ConstraintName.BoolEq (Letter.Boolean ∷ Letter.Boolean ∷ [])
  unfolding row_of HoldsOn kernels_of
  bool_eq =
      by_two vars constants ConstraintName.BoolEq true true
      (λ x y hx hy. alone vars constants refl (always_means vars constants eq_kernel (same_sum vars constants x.term y.term hx.has hy.has)))

  pub bool_le : Law vars constants ConstraintName.BoolLe (Letter.Boolean ∷ Letter.Boolean ∷ [])
  unfolding row_of HoldsOn kernels_of
  bool_le =
      by_two vars constants ConstraintName.BoolLe true true
      (λ x y hx hy. alone vars constants refl (always_means vars constants le_kernel (most_sum vars constants x.term y.term hx.has hy.has)))

  pub bool_lt : Law vars constants ConstraintName.BoolLt (Letter.Boolean ∷ Letter.Boolean ∷ [])
  unfolding row_of HoldsOn kernels_of
  bool_lt =
      by_two vars constants ConstraintName.BoolLt true true
      (λ x y hx hy. alone vars constants refl (always_means vars constants le_kernel (less_sum vars constants x.term y.term hx.has hy.has)))

  pub bool_eq_reif : Law vars constants ConstraintName.BoolEqReif (Letter.Boolean ∷ Letter.Boolean ∷ Letter.Boolean ∷ [])
  unfolding row_of HoldsOn kernels_of
  bool_eq_reif =
      by_three vars constants ConstraintName.BoolEqReif true true true
      (λ x y r hx hy hr. alone vars constants refl (literal_means vars constants eq_kernel (same_sum vars constants x.term y.term hx.has hy.has) r.term hr.has))

  pub bool_le_reif : Law vars constants ConstraintName.BoolLeReif (Letter.Boolean ∷ Letter.Boolean ∷ Letter.Boolean ∷ [])
  unfolding row_of HoldsOn kernels_of
  bool_le_reif =
      by_three vars constants ConstraintName.BoolLeReif true true true
      (λ x y r hx hy hr. alone vars constants refl (literal_means vars constants le_kernel (most_sum vars constants x.term y.term hx.has hy.has) r.term hr.has))

  pub bool_lt_reif : Law vars constants ConstraintName.BoolLtReif (Letter.Boolean ∷ Letter.Boolean ∷ Letter.Boolean ∷ [])
  unfolding row_of HoldsOn kernels_of
  bool_lt_reif =
      by_three vars constants ConstraintName.BoolLtReif true true true
      (λ x y r hx hy hr. alone vars constants refl (literal_means vars constants le_kernel (less_sum vars constants x.term y.term hx.has hy.has) r.term hr.has))

  pub bool_not : Law vars constants ConstraintName.BoolNot (Letter.Boolean ∷ Letter.Boolean ∷ [])
  unfolding row_of HoldsOn kernels_of
  bool_not =
      by_two vars constants ConstraintName.BoolNot true true
      (λ x y hx hy. alone vars constants refl (always_means vars constants eq_kernel (differing_sum vars constants x.term y.term hx.has hy.has given.declared hx.typed hy.typed)))

  pub bool_xor : Law vars constants ConstraintName.BoolXor (Letter.Boolean ∷ Letter.Boolean ∷ [])
  unfolding row_of HoldsOn kernels_of
  bool_xor =
      by_two vars constants ConstraintName.BoolXor true true
      (λ x y hx hy. alone vars constants refl (always_means vars constants eq_kernel (differing_sum vars constants x.term y.term hx.has hy.has given.declared hx.typed hy.typed)))

  pub bool_xor_reif : Law vars constants ConstraintName.BoolXor (Letter.Boolean ∷ Letter.Boolean ∷ Letter.Boolean ∷ [])
  unfolding row_of HoldsOn kernels_of
  bool_xor_reif =
      by_three vars constants ConstraintName.BoolXor true true true
      (λ x y r hx hy hr. alone vars constants refl (opposite_means vars constants eq_kernel (same_sum vars constants x.term y.term hx.has hy.has) decide_same r.term hr.has))

  pub bool_lin_le : Law vars constants ConstraintName.BoolLinLe (Letter.Coefficients ∷ Letter.Booleans ∷ Letter.Constant ∷ [])
  unfolding row_of HoldsOn kernels_of
  bool_lin_le =
      by_sum vars constants ConstraintName.BoolLinLe Letter.Booleans tt
      (λ cs ts c h is. alone vars constants refl (always_means vars constants le_kernel (array_sum vars constants (λ s c. s ≤ℤ c) cs ts c h is)))

  pub bool_lin_eq : Law vars constants ConstraintName.BoolLinEq (Letter.Coefficients ∷ Letter.Booleans ∷ Letter.Integer ∷ [])
  unfolding row_of HoldsOn kernels_of
  bool_lin_eq =
      by_total vars constants ConstraintName.BoolLinEq
      (λ cs ts c h hc. alone vars constants refl (always_means vars constants eq_kernel (total_sum vars constants (terms_of cs.entries) (terms_of ts.entries) h.short h.same h.are h.has c.term hc.has)))
