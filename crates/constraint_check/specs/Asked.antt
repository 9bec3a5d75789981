-- What is asked: that a constraint of a model holds, and of numbers that are small enough to be summed.
use Rattle.std.specs.Prelude.{◌≤◌, ℕ, ◌-◌, ◌^◌, ℤ, List, length, All, MatchOption, slice_get, ⊤}
use Rattle.constraint_model.specs.declared.model.Term.{Term}
use Rattle.constraint_model.specs.declared.model.Operand.{Operand}
use Rattle.constraint_model.specs.declared.model.FznModel.{FznModel}
use Rattle.constraint_model.specs.Limits.{most_entries}
use Rattle.constraint_model.specs.Numbers.{IsInProfile}
use Rattle.constraint_model.specs.Relations.{Holds}

-- the constraint of this number, counted from 1, holds
abbrev pub HoldsNumbered : FznModel → List ℤ → ℕ → Type 0
HoldsNumbered model a number = MatchOption (slice_get model.constraints (number - 1)) ⊤ (λ c. Holds c a)

-- a number of the profile, or a variable
abbrev pub IsSmallTerm : Term → Type 0
IsSmallTerm (Term.Number n) = IsInProfile n
IsSmallTerm (Term.Var v) = ⊤

-- as many as an array may have
pub record IsSmallRow (terms : List Term) : Type 0 where
  pub few : length terms ≤ most_entries
  pub each : All IsSmallTerm terms

-- an argument without other numbers, and not too long
abbrev pub IsSmall : Operand → Type 0
IsSmall (Operand.One t) = IsSmallTerm t
IsSmall (Operand.Row row) = IsSmallRow row.terms
IsSmall (Operand.Set ranges) = ⊤

-- the product of two numbers of the profile is no greater, whatever its sign
unfoldable pub product_limit : ℕ
product_limit = 2 ^ 94
