-- What holds of the model of every text: declared bounds and numbers are in the profile, terms are declared variables of
-- the right type, each constraint has arguments that fit it, an array with a number has the terms of the declared array at
-- that place, the search has all declared variables and no others, and no limit is passed.
use Rattle.std.specs.Prelude.{◌≡◌, ◌⊎◌, ℕ, ◌≤◌, ◌<◌, ℤ, pos, List, [], ◌++◌, length, fold, flat_map, sum_by, slice_index_or, All, Bool, false, IsTrue, IsSome}
use Rattle.constraint_model.specs.declared.model.Term.{Term}
use Rattle.constraint_model.specs.declared.model.VarDecl.{VarDecl}
use Rattle.constraint_model.specs.declared.model.Constraint.{Constraint}
use Rattle.constraint_model.specs.declared.model.Goal.{Goal}
use Rattle.constraint_model.specs.declared.model.Output.{Output}
use Rattle.constraint_model.specs.declared.model.FznModel.{FznModel}
use Rattle.constraint_model.specs.declared.meanings.Scalar.{Scalar}
use Rattle.constraint_model.specs.declared.meanings.Meaning.{Meaning}
use Rattle.constraint_model.specs.Numbers.{IsInProfile}
use Rattle.constraint_model.specs.Arrays.{HaveNumbers}
use Rattle.constraint_model.specs.Ranges.{Range, AreApart}
use Rattle.constraint_model.specs.Fits.{row_for, constraint_on, constants_in, goal_constants, add_once, kernels_of, has_long_row}
use Rattle.constraint_model.specs.Searches.{IsSearchOf}
use Rattle.constraint_model.specs.Limits.{most_vars, most_entries, most_index_sets, most_kernels, most_constants}

-- the bounds of a variable are in the profile, those of a boolean are 0 and 1
pub record IsDeclaration (d : VarDecl) : Type 0 where
  pub low : IsInProfile d.low
  pub high : IsInProfile d.high
  pub boolean : IsTrue d.is_bool → (d.low ≡ pos 0) × (d.high ≡ pos 1)

-- the place of a variable of this type among the declared ones
pub record IsVariable (vars : List VarDecl) (is_bool : Bool) (place : ℕ) : Type 0 where
  pub inside : place < length vars
  pub same_type : (d : VarDecl) → (slice_index_or vars place d).is_bool ≡ is_bool

-- a number of the profile, 0 or 1 where the type is boolean, or a variable of the type
abbrev pub IsTermOf : List VarDecl → Bool → Term → Type 0
IsTermOf vars is_bool (Term.Number n) = IsInProfile n × (IsTrue is_bool → (n ≡ pos 0) ⊎ (n ≡ pos 1))
IsTermOf vars is_bool (Term.Var v) = IsVariable vars is_bool v

abbrev pub IsScalarOf : List VarDecl → Scalar → Type 0
IsScalarOf vars s = IsTermOf vars s.is_bool s.term

-- the meaning of an argument: each term is of its type; an array or a set isn't too long, and the ranges of a set lie apart and
-- have bounds of the profile
abbrev pub IsMeaningOf : List VarDecl → Meaning → Type 0
IsMeaningOf vars (Meaning.One s) = IsScalarOf vars s
IsMeaningOf vars (Meaning.Row array) = (length array.entries ≤ most_entries) × All (IsScalarOf vars) array.entries
IsMeaningOf vars (Meaning.Set ranges) =
    (length ranges ≤ most_entries) × AreApart ranges × All (λ (r : Range). IsInProfile r.0 × IsInProfile r.1) ranges

-- a constraint on arguments that fit a way in which it may be called; its lists aren't too long
pub record IsConstraintOf (vars : List VarDecl) (c : Constraint) : Type 0 where
  pub meanings : List Meaning
  pub is_on : c ≡ constraint_on c.name meanings
  pub fits : IsSome (row_for c.name meanings)
  pub each : All (IsMeaningOf vars) meanings
  pub short : has_long_row c ≡ false

-- an objective is an integer
abbrev pub IsGoalOf : List VarDecl → Goal → Type 0
IsGoalOf vars Goal.Satisfy = Unit {0}
IsGoalOf vars (Goal.Minimize t) = IsScalarOf vars (record { is_bool = false; term = t })
IsGoalOf vars (Goal.Maximize t) = IsScalarOf vars (record { is_bool = false; term = t })

-- what is written of a solution: terms of the declared type; an array isn't too long, and has one to six index sets, whose
-- ends are numbers of the profile
abbrev pub IsOutputOf : List VarDecl → Output → Type 0
IsOutputOf vars (Output.Scalar name is_bool value) = IsTermOf vars is_bool value
IsOutputOf vars (Output.Array name is_bool ranges entries) =
    (length entries ≤ most_entries) × All (IsTermOf vars is_bool) entries × (1 ≤ length ranges) × (length ranges ≤ most_index_sets) × All (λ (r : Range). IsInProfile r.0 × IsInProfile r.1) ranges

-- the numbers other than 1 that occur where a variable may be, each once, in the order of their first occurrences: in the
-- constraints, then in the objective
abbrev pub constants_of : FznModel → List ℤ
constants_of model = fold add_once [] (flat_map constants_in model.constraints ++ goal_constants model.goal)

pub record IsWellFormed (model : FznModel) : Type 0 where
  pub vars : All IsDeclaration model.vars
  pub constraints : All (IsConstraintOf model.vars) model.constraints
  pub numbered : HaveNumbers model.arrays model.constraints
  pub search : IsSearchOf model
  pub objective : IsGoalOf model.vars model.goal
  pub outputs : All (IsOutputOf model.vars) model.output
  pub vars_fit : length model.vars ≤ most_vars
  pub constants_fit : length (constants_of model) ≤ most_constants
  pub kernels_fit : sum_by kernels_of model.constraints ≤ most_kernels
