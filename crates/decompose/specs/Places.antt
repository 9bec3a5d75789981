-- What the variables of a program are numbered by: its declared variables and constants, which are few, and terms that are
-- among them; beside them the declared arrays.
use Rattle.std.specs.Prelude.{ℕ, ℤ, ◌<◌, ◌≤◌, List, length}
use Rattle.std.specs.List.{All}
use Rattle.constraint_model.specs.declared.model.Term.{Term}
use Rattle.constraint_model.specs.declared.model.Operand.{Operand}
use Rattle.constraint_model.specs.declared.model.VarDecl.{VarDecl}
use Rattle.constraint_model.specs.Found.{KnownConstants}
use Rattle.constraint_model.specs.Limits.{most_vars, most_constants}

-- how many variables are declared, and the constants other than 1 in the order of their variables
pub record Numbering : Type 0 where
  pub count : ℕ
  pub constants : List ℤ

-- the numbering by these declared variables and constants
abbrev pub numbering_of : List VarDecl → List ℤ → Numbering
numbering_of vars constants = record { count = length vars; constants = constants }

-- a numbering, and the terms of the declared arrays, which are told by their numbers
pub record Placing : Type 0 where
  pub numbering : Numbering
  pub arrays : List (List Term)

-- the numbering by so many declared variables and these constants, and the declared arrays
abbrev pub placing_of : ℕ → KnownConstants → Placing
placing_of count known = record { numbering = record { count = count; constants = known.numbers }; arrays = known.arrays }

-- so few of both that each has a number
pub record AreFew (numbering : Numbering) : Type 0 where
  pub vars_fit : numbering.count ≤ most_vars
  pub constants_fit : length numbering.constants ≤ most_constants

-- a variable is a declared one
abbrev pub IsDeclared : ℕ → Term → Type 0
IsDeclared count (Term.Number n) = Unit {0}
IsDeclared count (Term.Var v) = v < count

-- each variable in an argument is a declared one
abbrev pub HasDeclared : ℕ → Operand → Type 0
HasDeclared count (Operand.One t) = IsDeclared count t
HasDeclared count (Operand.Row array) = All (IsDeclared count) array.terms
HasDeclared count (Operand.Set ranges) = Unit {0}
