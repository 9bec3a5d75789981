-- The constraints that are known: how each is spelled, what its arguments have to be, and what it holds.
-- (MiniZinc Handbook: FlatZinc builtins.) One line for each constraint.
use Rattle.std.specs.Prelude.{◌≡◌, ◌≢◌, ℕ, ℤ, pos, unsigned_abs, ◌+ℤ◌, ◌*ℤ◌, ◌≤ℤ◌, ◌<ℤ◌, List, [], ◌∷◌, codes}
use Rattle.std.specs.Int.{int_min, int_max}
use Rattle.constraint_model.specs.declared.model.Operand.{Operand}
use Rattle.constraint_model.specs.declared.table.ConstraintName.{ConstraintName}
use Rattle.constraint_model.specs.declared.table.Letter.{Letter}
use Rattle.constraint_model.specs.declared.table.Letter.TheVariants.{Integer, Boolean, Constant, Set, Integers, Booleans, Coefficients, Numbers, Truths, Amount, Amounts}
use Rattle.constraint_model.specs.Ranges.{IsIn}
use Rattle.constraint_model.specs.Shapes.{One2, One3, OneRow, RowOne, Row2, OneRowOne, OneSet, OneRowAlone, Row3One, Reified, Linear, IsQuotient, IsRemainder, IsEntry, IsMaximum, IsMinimum, IsConjunction, IsDisjunction, IsClause, Differs, AreAllDifferent, IsCumulative}

-- how a constraint is spelled; what its arguments have to be, in two lists where it may be called in two ways; and what it holds of
-- them under an assignment
pub record Row : Type 1 where
  pub spelling : List ℕ
  pub signatures : List (List Letter)
  pub holds : List ℤ → List Operand → Type 0

abbrev pub row : ConstraintName → Row
row ConstraintName.IntEq = record { spelling = codes "int_eq"; signatures = (Integer ∷ Integer ∷ []) ∷ []; holds = One2 (λ x y. x ≡ y) }
row ConstraintName.IntNe = record { spelling = codes "int_ne"; signatures = (Integer ∷ Integer ∷ []) ∷ []; holds = One2 (λ x y. x ≢ y) }
row ConstraintName.IntLe = record { spelling = codes "int_le"; signatures = (Integer ∷ Integer ∷ []) ∷ []; holds = One2 (λ x y. x ≤ℤ y) }
row ConstraintName.IntLt = record { spelling = codes "int_lt"; signatures = (Integer ∷ Integer ∷ []) ∷ []; holds = One2 (λ x y. x <ℤ y) }
row ConstraintName.IntLinEq = record { spelling = codes "int_lin_eq"; signatures = (Coefficients ∷ Integers ∷ Constant ∷ []) ∷ []; holds = Linear (λ s c. s ≡ c) }
row ConstraintName.IntLinNe = record { spelling = codes "int_lin_ne"; signatures = (Coefficients ∷ Integers ∷ Constant ∷ []) ∷ []; holds = Linear (λ s c. s ≢ c) }
row ConstraintName.IntLinLe = record { spelling = codes "int_lin_le"; signatures = (Coefficients ∷ Integers ∷ Constant ∷ []) ∷ []; holds = Linear (λ s c. s ≤ℤ c) }
row ConstraintName.IntEqReif = record { spelling = codes "int_eq_reif"; signatures = (Integer ∷ Integer ∷ Boolean ∷ []) ∷ []; holds = λ a. Reified (One2 (λ x y. x ≡ y) a) a }
row ConstraintName.IntNeReif = record { spelling = codes "int_ne_reif"; signatures = (Integer ∷ Integer ∷ Boolean ∷ []) ∷ []; holds = λ a. Reified (One2 (λ x y. x ≢ y) a) a }
row ConstraintName.IntLeReif = record { spelling = codes "int_le_reif"; signatures = (Integer ∷ Integer ∷ Boolean ∷ []) ∷ []; holds = λ a. Reified (One2 (λ x y. x ≤ℤ y) a) a }
row ConstraintName.IntLtReif = record { spelling = codes "int_lt_reif"; signatures = (Integer ∷ Integer ∷ Boolean ∷ []) ∷ []; holds = λ a. Reified (One2 (λ x y. x <ℤ y) a) a }
row ConstraintName.IntLinEqReif = record { spelling = codes "int_lin_eq_reif"; signatures = (Coefficients ∷ Integers ∷ Constant ∷ Boolean ∷ []) ∷ []; holds = λ a. Reified (Linear (λ s c. s ≡ c) a) a }
row ConstraintName.IntLinNeReif = record { spelling = codes "int_lin_ne_reif"; signatures = (Coefficients ∷ Integers ∷ Constant ∷ Boolean ∷ []) ∷ []; holds = λ a. Reified (Linear (λ s c. s ≢ c) a) a }
row ConstraintName.IntLinLeReif = record { spelling = codes "int_lin_le_reif"; signatures = (Coefficients ∷ Integers ∷ Constant ∷ Boolean ∷ []) ∷ []; holds = λ a. Reified (Linear (λ s c. s ≤ℤ c) a) a }
row ConstraintName.IntPlus = record { spelling = codes "int_plus"; signatures = (Integer ∷ Integer ∷ Integer ∷ []) ∷ []; holds = One3 (λ x y z. x +ℤ y ≡ z) }
row ConstraintName.IntTimes = record { spelling = codes "int_times"; signatures = (Integer ∷ Integer ∷ Integer ∷ []) ∷ []; holds = One3 (λ x y z. x *ℤ y ≡ z) }
row ConstraintName.IntDiv = record { spelling = codes "int_div"; signatures = (Integer ∷ Integer ∷ Integer ∷ []) ∷ []; holds = One3 IsQuotient }
row ConstraintName.IntMod = record { spelling = codes "int_mod"; signatures = (Integer ∷ Integer ∷ Integer ∷ []) ∷ []; holds = One3 IsRemainder }
row ConstraintName.IntAbs = record { spelling = codes "int_abs"; signatures = (Integer ∷ Integer ∷ []) ∷ []; holds = One2 (λ x y. pos (unsigned_abs x) ≡ y) }
row ConstraintName.IntMax = record { spelling = codes "int_max"; signatures = (Integer ∷ Integer ∷ Integer ∷ []) ∷ []; holds = One3 (λ x y z. int_max x y ≡ z) }
row ConstraintName.IntMin = record { spelling = codes "int_min"; signatures = (Integer ∷ Integer ∷ Integer ∷ []) ∷ []; holds = One3 (λ x y z. int_min x y ≡ z) }
row ConstraintName.ArrayIntMaximum = record { spelling = codes "array_int_maximum"; signatures = (Integer ∷ Integers ∷ []) ∷ []; holds = OneRow IsMaximum }
row ConstraintName.ArrayIntMinimum = record { spelling = codes "array_int_minimum"; signatures = (Integer ∷ Integers ∷ []) ∷ []; holds = OneRow IsMinimum }
row ConstraintName.ArrayIntElement = record { spelling = codes "array_int_element"; signatures = (Integer ∷ Numbers ∷ Integer ∷ []) ∷ []; holds = OneRowOne IsEntry }
row ConstraintName.ArrayVarIntElement = record { spelling = codes "array_var_int_element"; signatures = (Integer ∷ Integers ∷ Integer ∷ []) ∷ []; holds = OneRowOne IsEntry }
row ConstraintName.ArrayBoolElement = record { spelling = codes "array_bool_element"; signatures = (Integer ∷ Truths ∷ Boolean ∷ []) ∷ []; holds = OneRowOne IsEntry }
row ConstraintName.ArrayVarBoolElement = record { spelling = codes "array_var_bool_element"; signatures = (Integer ∷ Booleans ∷ Boolean ∷ []) ∷ []; holds = OneRowOne IsEntry }
row ConstraintName.SetIn = record { spelling = codes "set_in"; signatures = (Integer ∷ Set ∷ []) ∷ []; holds = OneSet (λ x s. IsIn s x) }
row ConstraintName.SetInReif = record { spelling = codes "set_in_reif"; signatures = (Integer ∷ Set ∷ Boolean ∷ []) ∷ []; holds = λ a. Reified (OneSet (λ x s. IsIn s x) a) a }
row ConstraintName.BoolToInt = record { spelling = codes "bool2int"; signatures = (Boolean ∷ Integer ∷ []) ∷ []; holds = One2 (λ x y. x ≡ y) }
row ConstraintName.BoolEq = record { spelling = codes "bool_eq"; signatures = (Boolean ∷ Boolean ∷ []) ∷ []; holds = One2 (λ x y. x ≡ y) }
row ConstraintName.BoolLe = record { spelling = codes "bool_le"; signatures = (Boolean ∷ Boolean ∷ []) ∷ []; holds = One2 (λ x y. x ≤ℤ y) }
row ConstraintName.BoolLt = record { spelling = codes "bool_lt"; signatures = (Boolean ∷ Boolean ∷ []) ∷ []; holds = One2 (λ x y. x <ℤ y) }
row ConstraintName.BoolEqReif = record { spelling = codes "bool_eq_reif"; signatures = (Boolean ∷ Boolean ∷ Boolean ∷ []) ∷ []; holds = λ a. Reified (One2 (λ x y. x ≡ y) a) a }
row ConstraintName.BoolLeReif = record { spelling = codes "bool_le_reif"; signatures = (Boolean ∷ Boolean ∷ Boolean ∷ []) ∷ []; holds = λ a. Reified (One2 (λ x y. x ≤ℤ y) a) a }
row ConstraintName.BoolLtReif = record { spelling = codes "bool_lt_reif"; signatures = (Boolean ∷ Boolean ∷ Boolean ∷ []) ∷ []; holds = λ a. Reified (One2 (λ x y. x <ℤ y) a) a }
row ConstraintName.BoolNot = record { spelling = codes "bool_not"; signatures = (Boolean ∷ Boolean ∷ []) ∷ []; holds = One2 (λ x y. x ≢ y) }
row ConstraintName.BoolXor = record { spelling = codes "bool_xor"; signatures = (Boolean ∷ Boolean ∷ []) ∷ (Boolean ∷ Boolean ∷ Boolean ∷ []) ∷ []; holds = Differs }
row ConstraintName.BoolAnd = record { spelling = codes "bool_and"; signatures = (Boolean ∷ Boolean ∷ Boolean ∷ []) ∷ []; holds = One3 (λ x y r. IsConjunction (x ∷ y ∷ []) r) }
row ConstraintName.BoolOr = record { spelling = codes "bool_or"; signatures = (Boolean ∷ Boolean ∷ Boolean ∷ []) ∷ []; holds = One3 (λ x y r. IsDisjunction (x ∷ y ∷ []) r) }
row ConstraintName.ArrayBoolAnd = record { spelling = codes "array_bool_and"; signatures = (Booleans ∷ Boolean ∷ []) ∷ []; holds = RowOne IsConjunction }
row ConstraintName.ArrayBoolOr = record { spelling = codes "array_bool_or"; signatures = (Booleans ∷ Boolean ∷ []) ∷ []; holds = RowOne IsDisjunction }
row ConstraintName.BoolClause = record { spelling = codes "bool_clause"; signatures = (Booleans ∷ Booleans ∷ []) ∷ []; holds = Row2 IsClause }
row ConstraintName.BoolClauseReif = record { spelling = codes "bool_clause_reif"; signatures = (Booleans ∷ Booleans ∷ Boolean ∷ []) ∷ []; holds = λ a. Reified (Row2 IsClause a) a }
row ConstraintName.BoolLinLe = record { spelling = codes "bool_lin_le"; signatures = (Coefficients ∷ Booleans ∷ Constant ∷ []) ∷ []; holds = Linear (λ s c. s ≤ℤ c) }
row ConstraintName.BoolLinEq = record { spelling = codes "bool_lin_eq"; signatures = (Coefficients ∷ Booleans ∷ Integer ∷ []) ∷ []; holds = Linear (λ s c. s ≡ c) }
row ConstraintName.PccpAllDifferent = record { spelling = codes "pccp_all_different"; signatures = (Integers ∷ []) ∷ []; holds = OneRowAlone AreAllDifferent }
row ConstraintName.PccpCumulative = record { spelling = codes "pccp_cumulative"; signatures = (Integers ∷ Amounts ∷ Amounts ∷ Amount ∷ []) ∷ []; holds = Row3One IsCumulative }

-- every name, in the order of the table
abbrev pub names : List ConstraintName
names =
    ConstraintName.IntEq ∷ ConstraintName.IntNe ∷ ConstraintName.IntLe ∷ ConstraintName.IntLt
    ∷ ConstraintName.IntLinEq ∷ ConstraintName.IntLinNe ∷ ConstraintName.IntLinLe ∷ ConstraintName.IntEqReif
    ∷ ConstraintName.IntNeReif ∷ ConstraintName.IntLeReif ∷ ConstraintName.IntLtReif ∷ ConstraintName.IntLinEqReif
    ∷ ConstraintName.IntLinNeReif ∷ ConstraintName.IntLinLeReif ∷ ConstraintName.IntPlus ∷ ConstraintName.IntTimes
    ∷ ConstraintName.IntDiv ∷ ConstraintName.IntMod
    ∷ ConstraintName.IntAbs ∷ ConstraintName.IntMax ∷ ConstraintName.IntMin ∷ ConstraintName.ArrayIntMaximum
    ∷ ConstraintName.ArrayIntMinimum ∷ ConstraintName.ArrayIntElement ∷ ConstraintName.ArrayVarIntElement ∷ ConstraintName.ArrayBoolElement
    ∷ ConstraintName.ArrayVarBoolElement ∷ ConstraintName.SetIn ∷ ConstraintName.SetInReif ∷ ConstraintName.BoolToInt
    ∷ ConstraintName.BoolEq ∷ ConstraintName.BoolLe ∷ ConstraintName.BoolLt ∷ ConstraintName.BoolEqReif
    ∷ ConstraintName.BoolLeReif ∷ ConstraintName.BoolLtReif ∷ ConstraintName.BoolNot ∷ ConstraintName.BoolXor
    ∷ ConstraintName.BoolAnd ∷ ConstraintName.BoolOr ∷ ConstraintName.ArrayBoolAnd ∷ ConstraintName.ArrayBoolOr
    ∷ ConstraintName.BoolClause ∷ ConstraintName.BoolClauseReif ∷ ConstraintName.BoolLinLe ∷ ConstraintName.BoolLinEq ∷ ConstraintName.PccpAllDifferent ∷ ConstraintName.PccpCumulative ∷ []

-- how the constraint of this name is spelled
abbrev pub spelled : ConstraintName → List ℕ
spelled name = (row name).spelling

-- what its arguments have to be, in each way in which it may be called
abbrev pub signatures : ConstraintName → List (List Letter)
signatures name = (row name).signatures

-- it holds of these arguments under an assignment
unfoldable pub HoldsOn : ConstraintName → List ℤ → List Operand → Type 0
HoldsOn name = (row name).holds
