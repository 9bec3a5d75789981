-- The variables among the entries of an array.
use Rattle.std.specs.Prelude.{ℕ, List, filter_map, Option, None, Some}
use Rattle.constraint_model.specs.declared.model.Term.{Term}
use Rattle.constraint_model.specs.declared.meanings.Scalar.{Scalar}

-- the variable of a term, where it is one
abbrev pub variable_in : Term → Option ℕ
variable_in (Term.Number n) = None
variable_in (Term.Var v) = Some v

abbrev pub variables_in : List Scalar → List ℕ
variables_in entries = filter_map (λ s. variable_in s.term) entries
