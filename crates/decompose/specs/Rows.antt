-- What rows of the table share, so that one function adds the kernels of several names.
use Rattle.std.specs.Prelude.{ℕ, ℤ, pos, List, [], ◌∷◌, map, Bool}
use Rattle.guarded_tell.specs.Words.{Lit}
use Rattle.guarded_tell.specs.declared.kernel.Kernel.{Kernel}
use Rattle.constraint_model.specs.declared.model.Term.{Term}
use Rattle.decompose.specs.Kernels.{variable_of, variables_of, inequality, equation, some_of}
use Rattle.decompose.specs.Places.{Numbering}
use Rattle.decompose.specs.declared.sums.Relation.{Relation}
use Rattle.decompose.specs.declared.comparisons.Comparison.{Comparison}
use Rattle.decompose.specs.declared.terms.Operation.{Operation}
use Rattle.decompose.specs.declared.terms.Extreme.{Extreme}

-- the literal that is true where the boolean is, or where it isn't
abbrev pub literal_at : Numbering → Bool → Term → Lit
literal_at numbering positive r = record { var = variable_of numbering r; positive = positive }

-- the literal is true exactly where the sum is at most the limit, or is the limit
abbrev pub sum_kernel : Relation → Numbering → Lit → List ℤ → List Term → ℤ → List Kernel
sum_kernel Relation.AtMost numbering l coefficients terms limit = inequality numbering l coefficients terms limit
sum_kernel Relation.Equal numbering l coefficients terms limit = equation numbering l coefficients terms limit

-- the same of variables, as one kernel
abbrev pub linear_kernel : Relation → Lit → List ℤ → List ℕ → ℤ → Kernel
linear_kernel Relation.AtMost l coefficients vars limit = Kernel.Le l coefficients vars limit
linear_kernel Relation.Equal l coefficients vars limit = Kernel.Eq l coefficients vars limit

-- the literal is true exactly where two terms compare so
abbrev pub compared : Comparison → Numbering → Lit → Term → Term → List Kernel
compared c numbering l x y = sum_kernel c.relation numbering l (pos 1 ∷ c.sign ∷ []) (x ∷ y ∷ []) c.limit

-- the literal of r is true exactly where one of those of the terms is
abbrev pub joined : Numbering → Bool → List Term → Term → List Kernel
joined numbering positive terms r = some_of (literal_at numbering positive r) (map (literal_at numbering positive) terms)

-- a variable, or a term, is the product, the quotient or the remainder of two others
abbrev pub operation_on : Operation → ℕ → ℕ → ℕ → Kernel
operation_on Operation.Product x y z = Kernel.Times x y z
operation_on Operation.Quotient x y z = Kernel.Div x y z
operation_on Operation.Remainder x y z = Kernel.Mod x y z

abbrev pub operation_kernel : Operation → Numbering → Term → Term → Term → List Kernel
operation_kernel operation numbering x y z = operation_on operation (variable_of numbering x) (variable_of numbering y) (variable_of numbering z) ∷ []

-- a variable, or a term, is the greatest or the least of some
abbrev pub extreme_on : Extreme → ℕ → List ℕ → Kernel
extreme_on Extreme.Greatest m vars = Kernel.Max m vars
extreme_on Extreme.Least m vars = Kernel.Min m vars

abbrev pub extreme_kernel : Extreme → Numbering → Term → List Term → List Kernel
extreme_kernel Extreme.Greatest numbering m terms = Kernel.Max (variable_of numbering m) (variables_of numbering terms) ∷ []
extreme_kernel Extreme.Least numbering m terms = Kernel.Min (variable_of numbering m) (variables_of numbering terms) ∷ []
