-- The rows of products, quotients, remainders and absolute values.
use Rattle.std.proofs.Common.{◌≡◌, ◌≢◌, ◌↔◌, ℤ, pos, ◌*ℤ◌, unsigned_abs, false, List, [], ◌∷◌, refl, sym, ap, ◌∙◌}
use Rattle.guarded_tell.specs.declared.kernel.Kernel.{Kernel}
use Rattle.guarded_tell.specs.Kernels.{vars_of, HasNumbers, Holds as KernelHolds}
use Rattle.arithmetic_tells.specs.Division.{quotient_of}
use Rattle.arithmetic_tells.specs.Remainder.{remainder_of}
use Rattle.constraint_model.specs.declared.model.Term.{Term}
use Rattle.constraint_model.specs.declared.model.VarDecl.{VarDecl}
use Rattle.constraint_model.specs.declared.table.Letter.{Letter}
use Rattle.constraint_model.specs.declared.table.ConstraintName.{ConstraintName}
use Rattle.constraint_model.specs.Fits.{kernels_of}
use Rattle.constraint_model.specs.Relations.{value, quotient, IsQuotient, IsRemainder, HoldsOn}
use Rattle.decompose.specs.Kernels.{variable_of, variables_of, row_of}
use Rattle.decompose.specs.Places.{numbering_of}
use Rattle.decompose.proofs.Means.{HasVariable, MeansOne, size_of}
use Rattle.decompose.proofs.Served.{Law}
use Rattle.decompose.proofs.OneKernel.{alone, are_variables, variables_inside, two_have, three_have, value_is, by_two, by_three, ends_same}

products_same : (x y u v : ℤ) → x ≡ u → y ≡ v → x *ℤ y ≡ u *ℤ v
products_same x y u v e f = cc

-- a quotient and a remainder are of the numbers alone
quotients_same : (x y z u v w : ℤ) → x ≡ u → y ≡ v → z ≡ w → ((y ≢ pos 0) × (quotient_of x y ≡ z)) ↔ IsQuotient u v w
unfolding quotient_of quotient
quotients_same x y z u v w e f g = (
  λ h. (λ n. h.0 (f ∙ n), (λ i. quotient (sym e i) (sym f i)) ∙ h.1 ∙ g),
  λ h. (λ n. h.0 (sym f ∙ n), (λ i. quotient_of (e i) (f i)) ∙ h.1 ∙ sym g),
)

remainders_same : (x y z u v w : ℤ) → x ≡ u → y ≡ v → z ≡ w → ((y ≢ pos 0) × (remainder_of x y ≡ z)) ↔ IsRemainder u v w
unfolding remainder_of quotient_of quotient
remainders_same x y z u v w e f g = (
  λ h. (λ n. h.0 (f ∙ n), (λ i. remainder_of (sym e i) (sym f i)) ∙ h.1 ∙ g),
  λ h. (λ n. h.0 (sym f ∙ n), (λ i. remainder_of (e i) (f i)) ∙ h.1 ∙ sym g),
)

module _ (vars : List VarDecl) (constants : List ℤ) where
  product_is : (x y z : Term) → HasVariable vars constants x → HasVariable vars constants y → HasVariable vars constants z
      → MeansOne vars constants (λ a. value a x *ℤ value a y ≡ value a z) (Kernel.Times (variable_of (numbering_of vars constants) x) (variable_of (numbering_of vars constants) y) (variable_of (numbering_of vars constants) z))
  unfolding vars_of HasNumbers KernelHolds
  product_is x y z hx hy hz = record {
    can_run = record {
      variables = are_variables (size_of vars constants) (variables_of (numbering_of vars constants) (x ∷ y ∷ z ∷ [])) (variables_inside vars constants (x ∷ y ∷ z ∷ []) (three_have vars constants x y z hx hy hz));
      numbers = tt;
    };
    meaning = λ a w.
        ends_same _ _ (value a x *ℤ value a y) (value a z)
        (products_same _ _ (value a x) (value a y) (value_is vars constants a w x hx) (value_is vars constants a w y hy)) (value_is vars constants a w z hz);
  }

  quotient_is : (x y z : Term) → HasVariable vars constants x → HasVariable vars constants y → HasVariable vars constants z
      → MeansOne vars constants (λ a. IsQuotient (value a x) (value a y) (value a z)) (Kernel.Div (variable_of (numbering_of vars constants) x) (variable_of (numbering_of vars constants) y) (variable_of (numbering_of vars constants) z))
  unfolding vars_of HasNumbers KernelHolds
  quotient_is x y z hx hy hz = record {
    can_run = record {
      variables = are_variables (size_of vars constants) (variables_of (numbering_of vars constants) (x ∷ y ∷ z ∷ [])) (variables_inside vars constants (x ∷ y ∷ z ∷ []) (three_have vars constants x y z hx hy hz));
      numbers = tt;
    };
    meaning = λ a w.
        quotients_same _ _ _ (value a x) (value a y) (value a z) (value_is vars constants a w x hx) (value_is vars constants a w y hy) (value_is vars constants a w z hz);
  }

  remainder_is : (x y z : Term) → HasVariable vars constants x → HasVariable vars constants y → HasVariable vars constants z
      → MeansOne vars constants (λ a. IsRemainder (value a x) (value a y) (value a z)) (Kernel.Mod (variable_of (numbering_of vars constants) x) (variable_of (numbering_of vars constants) y) (variable_of (numbering_of vars constants) z))
  unfolding vars_of HasNumbers KernelHolds
  remainder_is x y z hx hy hz = record {
    can_run = record {
      variables = are_variables (size_of vars constants) (variables_of (numbering_of vars constants) (x ∷ y ∷ z ∷ [])) (variables_inside vars constants (x ∷ y ∷ z ∷ []) (three_have vars constants x y z hx hy hz));
      numbers = tt;
    };
    meaning = λ a w.
        remainders_same _ _ _ (value a x) (value a y) (value a z) (value_is vars constants a w x hx) (value_is vars constants a w y hy) (value_is vars constants a w z hz);
  }

  absolute_is : (x y : Term) → HasVariable vars constants x → HasVariable vars constants y
      → MeansOne vars constants (λ a. pos (unsigned_abs (value a x)) ≡ value a y) (Kernel.Abs (variable_of (numbering_of vars constants) x) (variable_of (numbering_of vars constants) y))
  unfolding vars_of HasNumbers KernelHolds
  absolute_is x y hx hy = record {
    can_run = record {
      variables = are_variables (size_of vars constants) (variables_of (numbering_of vars constants) (x ∷ y ∷ [])) (variables_inside vars constants (x ∷ y ∷ []) (two_have vars constants x y hx hy));
      numbers = tt;
    };
    meaning = λ a w. ends_same _ _ (pos (unsigned_abs (value a x))) (value a y) (ap (λ v. pos (unsigned_abs v)) (value_is vars constants a w x hx)) (value_is vars constants a w y hy);
  }

  pub int_times : Law vars constants ConstraintName.IntTimes (Letter.Integer ∷ Letter.Integer ∷ Letter.Integer ∷ [])
  unfolding row_of kernels_of HoldsOn
  int_times =
      by_three vars constants ConstraintName.IntTimes false false false
      (λ s t u hs ht hu. alone vars constants refl (product_is s.term t.term u.term hs.has ht.has hu.has))

  pub int_div : Law vars constants ConstraintName.IntDiv (Letter.Integer ∷ Letter.Integer ∷ Letter.Integer ∷ [])
  unfolding row_of kernels_of HoldsOn
  int_div =
      by_three vars constants ConstraintName.IntDiv false false false
      (λ s t u hs ht hu. alone vars constants refl (quotient_is s.term t.term u.term hs.has ht.has hu.has))

  pub int_mod : Law vars constants ConstraintName.IntMod (Letter.Integer ∷ Letter.Integer ∷ Letter.Integer ∷ [])
  unfolding row_of kernels_of HoldsOn
  int_mod =
      by_three vars constants ConstraintName.IntMod false false false
      (λ s t u hs ht hu. alone vars constants refl (remainder_is s.term t.term u.term hs.has ht.has hu.has))

  pub int_abs : Law vars constants ConstraintName.IntAbs (Letter.Integer ∷ Letter.Integer ∷ [])
  unfolding row_of kernels_of HoldsOn
  int_abs =
      by_two vars constants ConstraintName.IntAbs false false
      (λ s t hs ht. alone vars constants refl (absolute_is s.term t.term hs.has ht.has))
