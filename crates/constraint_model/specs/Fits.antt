-- Which arguments a constraint takes, and what is kept of them.
use Rattle.std.specs.Prelude.{◌≡◌, ℕ, ◌+◌, ℤ, pos, List, [], ◌∷◌, ◌++◌, length, take, map, Bool, true, false, ◌&&◌, cond, nat_eq, nat_lt, flat_map, find, Option, Some, unwrap_or, if◌then◌else◌, bytes_eq}
use Rattle.std.specs.List.{list_all, list_any}
use Rattle.std.specs.Ordering.{int_eq}
use Rattle.constraint_model.specs.declared.model.Term.{Term}
use Rattle.constraint_model.specs.declared.model.Operand.{Operand}
use Rattle.constraint_model.specs.declared.model.Constraint.{Constraint}
use Rattle.constraint_model.specs.declared.model.Goal.{Goal}
use Rattle.constraint_model.specs.declared.meanings.Meaning.{Meaning}
use Rattle.constraint_model.specs.declared.table.ConstraintName.{ConstraintName}
use Rattle.constraint_model.specs.declared.table.Letter.{Letter}
use Rattle.constraint_model.specs.Limits.{most_places}
use Rattle.constraint_model.specs.Table.{names, spelled, signatures}
pub use Rattle.constraint_model.specs.Kinds.{is_constant, is_integer, is_boolean, is_amount}

-- the constraint of this name, where it is known
unfoldable pub named : List ℕ → Option ConstraintName
named word = find (λ name. bytes_eq (spelled name) word) names

-- an array fits by its entries, not by its declared type; an empty one fits every array type
abbrev pub fits : Letter → Meaning → Bool
fits Letter.Integer (Meaning.One s) = is_integer s
fits Letter.Boolean (Meaning.One s) = is_boolean s
fits Letter.Constant (Meaning.One s) = is_integer s && is_constant s
fits Letter.Set (Meaning.Set ranges) = true
fits Letter.Integers (Meaning.Row array) = list_all is_integer array.entries
fits Letter.Booleans (Meaning.Row array) = list_all is_boolean array.entries
fits Letter.Coefficients (Meaning.Row array) = list_all is_integer array.entries && list_all is_constant array.entries
fits Letter.Numbers (Meaning.Row array) = list_all is_integer array.entries && list_all is_constant array.entries
fits Letter.Truths (Meaning.Row array) = list_all is_boolean array.entries && list_all is_constant array.entries
fits Letter.Amount (Meaning.One s) = is_amount s
fits Letter.Amounts (Meaning.Row array) = list_all is_amount array.entries
fits _ _ = false

-- each argument fits its letter, and there is one for each
abbrev pub all_fit : List Letter → List Meaning → Bool
all_fit [] [] = true
all_fit (l ∷ ls) (m ∷ ms) = fits l m && all_fit ls ms
all_fit _ _ = false

-- a linear constraint has as many coefficients as variables, and tasks have a duration and a usage for each start
abbrev pub has_equal_lengths : List Letter → List Meaning → Bool
has_equal_lengths (Letter.Coefficients ∷ ls) (Meaning.Row coefficients ∷ Meaning.Row variables ∷ ms) = nat_eq (length coefficients.entries) (length variables.entries)
has_equal_lengths (Letter.Integers ∷ Letter.Amounts ∷ Letter.Amounts ∷ ls) (Meaning.Row starts ∷ Meaning.Row durations ∷ Meaning.Row usages ∷ ms) =
    nat_eq (length starts.entries) (length durations.entries) && nat_eq (length starts.entries) (length usages.entries)
has_equal_lengths _ _ = true

abbrev pub fits_row : List Meaning → List Letter → Bool
fits_row meanings letters = all_fit letters meanings && has_equal_lengths letters meanings

-- what the arguments of this constraint have to be, of the ways in which it may be called the first that fits
unfoldable pub row_for : ConstraintName → List Meaning → Option (List Letter)
row_for name meanings = find (fits_row meanings) (signatures name)

-- what a constraint keeps of an argument with this meaning
abbrev pub operand_of : Meaning → Operand
operand_of (Meaning.One s) = Operand.One s.term
operand_of (Meaning.Row array) = Operand.Row (record { terms = map (λ s. s.term) array.entries; number = array.number })
operand_of (Meaning.Set ranges) = Operand.Set ranges

abbrev pub constraint_on : ConstraintName → List Meaning → Constraint
constraint_on name meanings = record { name = name; operands = map operand_of meanings }

-- such an argument, or each entry of it, may be a variable
abbrev pub takes_variables : Letter → Bool
takes_variables Letter.Constant = false
takes_variables Letter.Set = false
takes_variables Letter.Coefficients = false
takes_variables Letter.Amount = false
takes_variables Letter.Amounts = false
takes_variables _ = true

-- the number of a term, where it is one other than 1; the constant 1 needs no place of its own
abbrev pub constant_of : Term → List ℤ
constant_of (Term.Number n) = if int_eq n (pos 1) then [] else n ∷ []
constant_of (Term.Var v) = []

abbrev pub constants_of_operand : Operand → List ℤ
constants_of_operand (Operand.One t) = constant_of t
constants_of_operand (Operand.Row row) = flat_map constant_of row.terms
constants_of_operand (Operand.Set ranges) = []

-- the constants that occur where a variable may be, in order
abbrev pub constants_at : List Letter → List Operand → List ℤ
constants_at (l ∷ ls) (o ∷ os) = cond (takes_variables l) (constants_of_operand o) [] ++ constants_at ls os
constants_at _ _ = []

-- the letters of a constraint, by the number of its arguments
abbrev pub letters_of : Constraint → List Letter
letters_of c = unwrap_or (find (λ letters. nat_eq (length letters) (length c.operands)) (signatures c.name)) []

unfoldable pub constants_in : Constraint → List ℤ
constants_in c = constants_at (letters_of c) c.operands

-- the constant of the objective, where it has one
abbrev pub goal_constants : Goal → List ℤ
goal_constants Goal.Satisfy = []
goal_constants (Goal.Minimize t) = constant_of t
goal_constants (Goal.Maximize t) = constant_of t

-- a number goes to the end of a list that lacks it
abbrev pub add_once : List ℤ → ℤ → List ℤ
add_once numbers n = if list_any (int_eq n) numbers then numbers else numbers ++ n ∷ []

-- the second list begins with the first
abbrev pub IsFront : List ℤ → List ℤ → Type 0
IsFront front numbers = take (length front) numbers ≡ front

-- how many propagators a constraint is run as
unfoldable pub kernels_of : Constraint → ℕ
kernels_of c = count c.name c.operands
  where
    count : ConstraintName → List Operand → ℕ
    count ConstraintName.BoolAnd _ = 3
    count ConstraintName.BoolOr _ = 3
    count ConstraintName.ArrayBoolAnd (Operand.Row row ∷ _) = length row.terms + 1
    count ConstraintName.ArrayBoolOr (Operand.Row row ∷ _) = length row.terms + 1
    count ConstraintName.BoolClauseReif (Operand.Row positive ∷ Operand.Row negative ∷ _) = length positive.terms + length negative.terms + 1
    count _ _ = 1

-- a list that may have only few places has too many: that of the variables that have to differ, or of the starts of tasks
abbrev pub has_long_row : Constraint → Bool
has_long_row c = is_long c.name c.operands
  where
    is_long : ConstraintName → List Operand → Bool
    is_long ConstraintName.PccpAllDifferent (Operand.Row row ∷ _) = nat_lt most_places (length row.terms)
    is_long ConstraintName.PccpCumulative (Operand.Row row ∷ _) = nat_lt most_places (length row.terms)
    is_long _ _ = false

-- each name is found by its spelling
abbrev pub NamesAreFound : Type 0
NamesAreFound = (name : ConstraintName) → named (spelled name) ≡ Some name

-- the constants of a constraint are counted by the letters that its arguments fit
abbrev pub LettersAreThose : Type 0
LettersAreThose = (name : ConstraintName) (meanings : List Meaning) (letters : List Letter) → row_for name meanings ≡ Some letters → letters_of (constraint_on name meanings) ≡ letters
