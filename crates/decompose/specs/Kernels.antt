-- Which kernels a program has: for each constraint those of its row of the table, in the model's order.
-- (MiniZinc Handbook: FlatZinc builtins.)
use Rattle.std.specs.Prelude.{ℕ, suc, ℤ, pos, negsuc, ◌+◌, List, [], ◌∷◌, ◌++◌, map, flat_map, true, false, not, if◌then◌else◌}
use Rattle.std.specs.List.{position_or_len}
use Rattle.std.specs.Ordering.{int_eq}
use Rattle.guarded_tell.specs.Words.{Lit}
use Rattle.guarded_tell.specs.declared.kernel.Kernel.{Kernel}
use Rattle.constraint_model.specs.declared.model.Term.{Term}
use Rattle.constraint_model.specs.declared.model.Operand.{Operand}
use Rattle.constraint_model.specs.declared.model.Operand.TheVariants.{One, Row, Set}
use Rattle.constraint_model.specs.declared.model.Constraint.{Constraint}
use Rattle.constraint_model.specs.declared.model.FznModel.{FznModel}
use Rattle.constraint_model.specs.declared.table.ConstraintName.{ConstraintName}
use Rattle.constraint_model.specs.Ranges.{Range}
use Rattle.constraint_model.specs.Relations.{value}
use Rattle.constraint_model.specs.WellFormed.{constants_of}
use Rattle.decompose.specs.Places.{Numbering, numbering_of}

-- ---- variables and literals, in a program whose variables are numbered so

-- the variable of a term
abbrev pub variable_of : Numbering → Term → ℕ
variable_of numbering (Term.Number n) = if int_eq n (pos 1) then 0 else suc (numbering.count + position_or_len (int_eq n) numbering.constants)
variable_of numbering (Term.Var v) = suc v

abbrev pub variables_of : Numbering → List Term → List ℕ
variables_of numbering terms = map (variable_of numbering) terms

-- the number of a coefficient or a limit
abbrev pub number_of : Term → ℤ
number_of t = value [] t

-- the literal that is always true, since the constant 1 is at least 1, and the one that is always false
abbrev pub always : Lit
always = record { var = 0; positive = true }

abbrev pub never : Lit
never = record { var = 0; positive = false }

-- the literal that is true where the boolean is, and the one that is true where it isn't
abbrev pub literal_of : Numbering → Term → Lit
literal_of numbering r = record { var = variable_of numbering r; positive = true }

abbrev pub opposite_of : Numbering → Term → Lit
opposite_of numbering r = record { var = variable_of numbering r; positive = false }

abbrev pub negated : Lit → Lit
negated l = record { var = l.var; positive = not l.positive }

-- ---- kernels of terms

-- the literal is true exactly where the sum of these terms is at most the limit, or is the limit
abbrev pub inequality : Numbering → Lit → List ℤ → List Term → ℤ → List Kernel
inequality numbering l coefficients terms limit = Kernel.Le l coefficients (variables_of numbering terms) limit ∷ []

abbrev pub equation : Numbering → Lit → List ℤ → List Term → ℤ → List Kernel
equation numbering l coefficients terms limit = Kernel.Eq l coefficients (variables_of numbering terms) limit ∷ []

-- the coefficients of x - y, of x + y and of x + y - z
abbrev pub difference : List ℤ
difference = pos 1 ∷ negsuc 0 ∷ []

abbrev pub plain_sum : List ℤ
plain_sum = pos 1 ∷ pos 1 ∷ []

abbrev pub sum_less_third : List ℤ
sum_less_third = pos 1 ∷ pos 1 ∷ negsuc 0 ∷ []

-- the literal is true exactly where one of the others is: each of them implies it, and it implies that one of them is true
abbrev pub some_of : Lit → List Lit → List Kernel
some_of l others = map (λ k. Kernel.Clause (l ∷ negated k ∷ [])) others ++ Kernel.Clause (negated l ∷ others) ∷ []

-- r is true exactly where some of these is; or exactly where all are, so that it isn't exactly where some isn't
abbrev pub disjunction : Numbering → List Term → Term → List Kernel
disjunction numbering terms r = some_of (literal_of numbering r) (map (literal_of numbering) terms)

abbrev pub conjunction : Numbering → List Term → Term → List Kernel
conjunction numbering terms r = some_of (opposite_of numbering r) (map (opposite_of numbering) terms)

-- one of the first is true or one of the second isn't
abbrev pub clause_literals : Numbering → List Term → List Term → List Lit
clause_literals numbering positives negatives = map (literal_of numbering) positives ++ map (opposite_of numbering) negatives

-- ---- the arguments that a row takes; other arguments have no kernels

abbrev pub on_two : (Term → Term → List Kernel) → List Operand → List Kernel
on_two row (One x ∷ One y ∷ []) = row x y
on_two row _ = []

abbrev pub on_three : (Term → Term → Term → List Kernel) → List Operand → List Kernel
on_three row (One x ∷ One y ∷ One z ∷ []) = row x y z
on_three row _ = []

abbrev pub on_sum : (List ℤ → List Term → ℤ → List Kernel) → List Operand → List Kernel
on_sum row (Row coefficients ∷ Row variables ∷ One limit ∷ []) = row (map number_of coefficients.terms) variables.terms (number_of limit)
on_sum row _ = []

abbrev pub on_reified_sum : (List ℤ → List Term → ℤ → Term → List Kernel) → List Operand → List Kernel
on_reified_sum row (Row coefficients ∷ Row variables ∷ One limit ∷ One r ∷ []) = row (map number_of coefficients.terms) variables.terms (number_of limit) r
on_reified_sum row _ = []

-- a sum and the term that it equals
abbrev pub on_equal_sum : (List ℤ → List Term → Term → List Kernel) → List Operand → List Kernel
on_equal_sum row (Row coefficients ∷ Row variables ∷ One total ∷ []) = row (map number_of coefficients.terms) variables.terms total
on_equal_sum row _ = []

abbrev pub on_one_of_row : (Term → List Term → List Kernel) → List Operand → List Kernel
on_one_of_row row (One m ∷ Row array ∷ []) = row m array.terms
on_one_of_row row _ = []

abbrev pub on_entry : (Term → List Term → Term → List Kernel) → List Operand → List Kernel
on_entry row (One place ∷ Row array ∷ One entry ∷ []) = row place array.terms entry
on_entry row _ = []

abbrev pub on_set : (Term → List Range → List Kernel) → List Operand → List Kernel
on_set row (One x ∷ Set ranges ∷ []) = row x ranges
on_set row _ = []

abbrev pub on_reified_set : (Term → List Range → Term → List Kernel) → List Operand → List Kernel
on_reified_set row (One x ∷ Set ranges ∷ One r ∷ []) = row x ranges r
on_reified_set row _ = []

abbrev pub on_row : (List Term → Term → List Kernel) → List Operand → List Kernel
on_row row (Row array ∷ One r ∷ []) = row array.terms r
on_row row _ = []

abbrev pub on_rows : (List Term → List Term → List Kernel) → List Operand → List Kernel
on_rows row (Row first ∷ Row second ∷ []) = row first.terms second.terms
on_rows row _ = []

abbrev pub on_reified_rows : (List Term → List Term → Term → List Kernel) → List Operand → List Kernel
on_reified_rows row (Row first ∷ Row second ∷ One r ∷ []) = row first.terms second.terms r
on_reified_rows row _ = []

abbrev pub on_row_alone : (List Term → List Kernel) → List Operand → List Kernel
on_row_alone row (Row array ∷ []) = row array.terms
on_row_alone row _ = []

-- the starts, the durations and the usages of tasks, and a limit
abbrev pub on_tasks : (List Term → List ℤ → List ℤ → ℤ → List Kernel) → List Operand → List Kernel
on_tasks row (Row starts ∷ Row durations ∷ Row usages ∷ One limit ∷ []) = row starts.terms (map number_of durations.terms) (map number_of usages.terms) (number_of limit)
on_tasks row _ = []

-- two terms, or two and a boolean
abbrev pub on_two_or_three : (Term → Term → List Kernel) → (Term → Term → Term → List Kernel) → List Operand → List Kernel
on_two_or_three two three (One x ∷ One y ∷ []) = two x y
on_two_or_three two three (One x ∷ One y ∷ One r ∷ []) = three x y r
on_two_or_three two three _ = []

-- ---- the table

-- x = y is x - y = 0, x <= y is x - y <= 0, and x < y is x - y <= -1; a relation that must not hold has the literal that is
-- always false, or the opposite of the boolean
unfoldable pub row_of : Numbering → ConstraintName → List Operand → List Kernel
row_of n ConstraintName.IntEq = on_two (λ x y. equation n always difference (x ∷ y ∷ []) (pos 0))
row_of n ConstraintName.IntNe = on_two (λ x y. equation n never difference (x ∷ y ∷ []) (pos 0))
row_of n ConstraintName.IntLe = on_two (λ x y. inequality n always difference (x ∷ y ∷ []) (pos 0))
row_of n ConstraintName.IntLt = on_two (λ x y. inequality n always difference (x ∷ y ∷ []) (negsuc 0))
row_of n ConstraintName.IntLinEq = on_sum (λ cs xs c. equation n always cs xs c)
row_of n ConstraintName.IntLinNe = on_sum (λ cs xs c. equation n never cs xs c)
row_of n ConstraintName.IntLinLe = on_sum (λ cs xs c. inequality n always cs xs c)
row_of n ConstraintName.IntEqReif = on_three (λ x y r. equation n (literal_of n r) difference (x ∷ y ∷ []) (pos 0))
row_of n ConstraintName.IntNeReif = on_three (λ x y r. equation n (opposite_of n r) difference (x ∷ y ∷ []) (pos 0))
row_of n ConstraintName.IntLeReif = on_three (λ x y r. inequality n (literal_of n r) difference (x ∷ y ∷ []) (pos 0))
row_of n ConstraintName.IntLtReif = on_three (λ x y r. inequality n (literal_of n r) difference (x ∷ y ∷ []) (negsuc 0))
row_of n ConstraintName.IntLinEqReif = on_reified_sum (λ cs xs c r. equation n (literal_of n r) cs xs c)
row_of n ConstraintName.IntLinNeReif = on_reified_sum (λ cs xs c r. equation n (opposite_of n r) cs xs c)
row_of n ConstraintName.IntLinLeReif = on_reified_sum (λ cs xs c r. inequality n (literal_of n r) cs xs c)
row_of n ConstraintName.IntPlus = on_three (λ x y z. equation n always sum_less_third (x ∷ y ∷ z ∷ []) (pos 0))
row_of n ConstraintName.IntTimes = on_three (λ x y z. Kernel.Times (variable_of n x) (variable_of n y) (variable_of n z) ∷ [])
row_of n ConstraintName.IntDiv = on_three (λ x y z. Kernel.Div (variable_of n x) (variable_of n y) (variable_of n z) ∷ [])
row_of n ConstraintName.IntMod = on_three (λ x y z. Kernel.Mod (variable_of n x) (variable_of n y) (variable_of n z) ∷ [])
row_of n ConstraintName.IntAbs = on_two (λ x y. Kernel.Abs (variable_of n x) (variable_of n y) ∷ [])
row_of n ConstraintName.IntMax = on_three (λ x y m. Kernel.Max (variable_of n m) (variables_of n (x ∷ y ∷ [])) ∷ [])
row_of n ConstraintName.IntMin = on_three (λ x y m. Kernel.Min (variable_of n m) (variables_of n (x ∷ y ∷ [])) ∷ [])
row_of n ConstraintName.ArrayIntMaximum = on_one_of_row (λ m xs. Kernel.Max (variable_of n m) (variables_of n xs) ∷ [])
row_of n ConstraintName.ArrayIntMinimum = on_one_of_row (λ m xs. Kernel.Min (variable_of n m) (variables_of n xs) ∷ [])
row_of n ConstraintName.ArrayIntElement = on_entry (λ x xs c. Kernel.Element (variable_of n x) (variables_of n xs) (variable_of n c) ∷ [])
row_of n ConstraintName.ArrayVarIntElement = on_entry (λ x xs c. Kernel.Element (variable_of n x) (variables_of n xs) (variable_of n c) ∷ [])
row_of n ConstraintName.ArrayBoolElement = on_entry (λ x xs c. Kernel.Element (variable_of n x) (variables_of n xs) (variable_of n c) ∷ [])
row_of n ConstraintName.ArrayVarBoolElement = on_entry (λ x xs c. Kernel.Element (variable_of n x) (variables_of n xs) (variable_of n c) ∷ [])
row_of n ConstraintName.SetIn = on_set (λ x s. Kernel.InSet always (variable_of n x) s ∷ [])
row_of n ConstraintName.SetInReif = on_reified_set (λ x s r. Kernel.InSet (literal_of n r) (variable_of n x) s ∷ [])
row_of n ConstraintName.BoolToInt = on_two (λ x y. equation n always difference (x ∷ y ∷ []) (pos 0))
row_of n ConstraintName.BoolEq = on_two (λ x y. equation n always difference (x ∷ y ∷ []) (pos 0))
row_of n ConstraintName.BoolLe = on_two (λ x y. inequality n always difference (x ∷ y ∷ []) (pos 0))
row_of n ConstraintName.BoolLt = on_two (λ x y. inequality n always difference (x ∷ y ∷ []) (negsuc 0))
row_of n ConstraintName.BoolEqReif = on_three (λ x y r. equation n (literal_of n r) difference (x ∷ y ∷ []) (pos 0))
row_of n ConstraintName.BoolLeReif = on_three (λ x y r. inequality n (literal_of n r) difference (x ∷ y ∷ []) (pos 0))
row_of n ConstraintName.BoolLtReif = on_three (λ x y r. inequality n (literal_of n r) difference (x ∷ y ∷ []) (negsuc 0))
row_of n ConstraintName.BoolNot = on_two (λ x y. equation n always plain_sum (x ∷ y ∷ []) (pos 1))
row_of n ConstraintName.BoolXor = on_two_or_three (λ x y. equation n always plain_sum (x ∷ y ∷ []) (pos 1)) (λ x y r. equation n (opposite_of n r) difference (x ∷ y ∷ []) (pos 0))
row_of n ConstraintName.BoolAnd = on_three (λ x y r. conjunction n (x ∷ y ∷ []) r)
row_of n ConstraintName.BoolOr = on_three (λ x y r. disjunction n (x ∷ y ∷ []) r)
row_of n ConstraintName.ArrayBoolAnd = on_row (λ xs r. conjunction n xs r)
row_of n ConstraintName.ArrayBoolOr = on_row (λ xs r. disjunction n xs r)
row_of n ConstraintName.BoolClause = on_rows (λ xs ys. Kernel.Clause (clause_literals n xs ys) ∷ [])
row_of n ConstraintName.BoolClauseReif = on_reified_rows (λ xs ys r. some_of (literal_of n r) (clause_literals n xs ys))
row_of n ConstraintName.BoolLinLe = on_sum (λ cs xs c. inequality n always cs xs c)
row_of n ConstraintName.BoolLinEq = on_equal_sum (λ cs xs c. equation n always (cs ++ negsuc 0 ∷ []) (xs ++ c ∷ []) (pos 0))
row_of n ConstraintName.PccpAllDifferent = on_row_alone (λ xs. Kernel.AllDiff (variables_of n xs) ∷ [])
row_of n ConstraintName.PccpCumulative = on_tasks (λ xs ds us limit. Kernel.Cumulative (variables_of n xs) ds us limit ∷ [])

-- the kernels of a constraint
abbrev pub kernels_on : Numbering → Constraint → List Kernel
kernels_on numbering constraint = row_of numbering constraint.name constraint.operands

-- the kernels of the constraints, in the model's order
abbrev pub kernels_of : FznModel → List Kernel
kernels_of model = flat_map (kernels_on (numbering_of model.vars (constants_of model))) model.constraints
