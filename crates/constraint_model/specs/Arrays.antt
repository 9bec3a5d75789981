-- Which of the declared arrays an argument is.
use Rattle.std.specs.Prelude.{◌≡◌, List, Some, IfSome, All, slice_get}
use Rattle.constraint_model.specs.declared.model.Term.{Term}
use Rattle.constraint_model.specs.declared.model.ArrayTerms.{ArrayTerms}
use Rattle.constraint_model.specs.declared.model.Operand.{Operand}
use Rattle.constraint_model.specs.declared.model.Constraint.{Constraint}

-- an array with a number has the terms of the declared array at that place; one without may have any
abbrev pub IsNumbered : List (List Term) → ArrayTerms → Type 0
IsNumbered arrays row = IfSome row.number (λ n. slice_get arrays n ≡ Some row.terms)

-- an argument that is an array is numbered so
abbrev pub HasNumber : List (List Term) → Operand → Type 0
HasNumber arrays (Operand.One t) = Unit {0}
HasNumber arrays (Operand.Row row) = IsNumbered arrays row
HasNumber arrays (Operand.Set ranges) = Unit {0}

-- each argument of the constraints that is an array is numbered so
abbrev pub HaveNumbers : List (List Term) → List Constraint → Type 0
HaveNumbers arrays constraints = All (λ c. All (HasNumber arrays) c.operands) constraints
