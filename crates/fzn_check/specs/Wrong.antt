-- What is the first that is wrong with numbers for the variables of a model.
use Rattle.std.specs.Prelude.{◌<◌, ◌≤◌, ◌+◌, ◌^◌, ℕ, ℤ, pos, ◌≤ℤ◌, List, length, slice_index_or, All, Bool, Option, MatchOption}
use Rattle.std.specs.Bool.{MatchBool}
use Rattle.constraint_model.specs.declared.model.VarDecl.{VarDecl}
use Rattle.constraint_model.specs.declared.model.FznModel.{FznModel}
use Rattle.constraint_model.specs.Numbers.{IsInProfile}
use Rattle.constraint_model.specs.Relations.{IsSolution, IsWithin}
use Rattle.constraint_model.specs.WellFormed.{IsWellFormed}
use Rattle.constraint_check.specs.Asked.{HoldsNumbered}
use Rattle.fzn_check.specs.declared.wrong.Wrong.{Wrong}

-- a variable is within the bounds that it starts with
abbrev pub IsInBounds : List VarDecl → List ℤ → ℕ → Type 0
IsInBounds vars a v = (d : VarDecl) → ((slice_index_or vars v d).low ≤ℤ slice_index_or a v (pos 0)) × (slice_index_or a v (pos 0) ≤ℤ (slice_index_or vars v d).high)

-- the first that isn't
pub record IsFirstOutside (vars : List VarDecl) (a : List ℤ) (v : ℕ) : Type 0 where
  pub declared : v < length vars
  pub outside : ¬ IsInBounds vars a v
  pub before : (u : ℕ) → u < v → IsInBounds vars a u

-- the first constraint that doesn't hold, by its number, counted from 1, where all variables are within their bounds
pub record IsFirstViolated (model : FznModel) (a : List ℤ) (number : ℕ) : Type 0 where
  pub within : IsWithin a model.vars
  pub from_one : 1 ≤ number
  pub declared : number ≤ length model.constraints
  pub violated : ¬ HoldsNumbered model a number
  pub before : (m : ℕ) → 1 ≤ m → m < number → HoldsNumbered model a m

abbrev pub IsWrong : FznModel → List ℤ → Wrong → Type 0
IsWrong model a (Wrong.Outside v) = IsFirstOutside model.vars a v
IsWrong model a (Wrong.Violates number) = IsFirstViolated model a number

-- what is found is the first that is wrong with the numbers, or nothing, and then they are a solution
abbrev pub IsFirstWrong : FznModel → List ℤ → Option Wrong → Type 0
IsFirstWrong model a found = MatchOption found (IsSolution model a) (IsWrong model a)

-- ---- the places of constraints, counted from 0

-- the constraint at this place holds
abbrev pub HoldsAt : FznModel → List ℤ → ℕ → Type 0
HoldsAt model a place = HoldsNumbered model a (place + 1)

-- it can be tested
pub record CanTest (model : FznModel) (a : List ℤ) (place : ℕ) : Type 0 where
  pub formed : IsWellFormed model
  pub numbers : All IsInProfile a
  pub declared : place < length model.constraints
  pub has_number : place + 1 < 2 ^ 64

-- the answer to whether a fact fails at a place
abbrev pub IsAnswer : (ℕ → Type 0) → ℕ → Bool → Type 0
IsAnswer holds place answer = MatchBool answer (¬ holds place) (holds place)

-- the first of so many places at which a fact fails
pub record IsFirstOf (holds : ℕ → Type 0) (count place : ℕ) : Type 0 where
  pub inside : place < count
  pub fails : ¬ holds place
  pub before : (j : ℕ) → j < place → holds j

-- found, or that it fails at none
abbrev pub IsFirstFailing : (ℕ → Type 0) → ℕ → Option ℕ → Type 0
IsFirstFailing holds count found = MatchOption found ((j : ℕ) → j < count → holds j) (IsFirstOf holds count)
