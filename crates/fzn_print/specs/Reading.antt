-- What a text of solutions says: the answer whose text it is.
use Rattle.std.specs.Prelude.{◌≡◌, ◌⊎◌, ◌<◌, ℕ, ℤ, pos, List, [], ◌∷◌, length, flat_map, slice_index_or, All, Contains, Bool, IsTrue}
use Rattle.constraint_model.specs.declared.model.Term.{Term}
use Rattle.constraint_model.specs.declared.model.VarDecl.{VarDecl}
use Rattle.constraint_model.specs.declared.model.Output.{Output}
use Rattle.constraint_model.specs.declared.model.FznModel.{FznModel}
use Rattle.constraint_model.specs.Numbers.{IsInProfile}
use Rattle.fzn_print.specs.AnswerText.{answer_text}
use Rattle.fzn_print.specs.declared.answers.Answer.{Answer}

-- a number of the profile, 0 or 1 for a boolean
abbrev pub IsValue : Bool → ℤ → Type 0
IsValue is_bool z = IsInProfile z × (IsTrue is_bool → (z ≡ pos 0) ⊎ (z ≡ pos 1))

-- such a number for each declared variable
pub record AreValues (vars : List VarDecl) (a : List ℤ) : Type 0 where
  pub same_length : length a ≡ length vars
  pub each : (k : ℕ) (d : VarDecl) → k < length vars → IsValue (slice_index_or vars k d).is_bool (slice_index_or a k (pos 0))

-- the bytes are the text of this answer
pub record IsReading (model : FznModel) (bytes : List ℕ) (answer : Answer) : Type 0 where
  pub text : answer_text model answer ≡ bytes
  pub values : All (AreValues model.vars) answer.solutions

-- what is written for a declaration
abbrev pub terms_in : Output → List Term
terms_in (Output.Scalar name is_bool t) = t ∷ []
terms_in (Output.Array name is_bool ranges entries) = entries

-- what is written of a solution
abbrev pub printed_terms : FznModel → List Term
printed_terms model = flat_map terms_in model.output

-- a variable is printed, by itself or as an entry of an array
abbrev pub IsPrinted : FznModel → ℕ → Type 0
IsPrinted model v = Contains (printed_terms model) (Term.Var v)

-- each declared variable is
abbrev pub AllPrinted : FznModel → Type 0
AllPrinted model = (v : ℕ) → v < length model.vars → IsPrinted model v

-- this is the first declared variable that isn't
pub record IsFirstHidden (model : FznModel) (v : ℕ) : Type 0 where
  pub declared : v < length model.vars
  pub hidden : IsPrinted model v → ⊥
  pub before : (u : ℕ) → u < v → IsPrinted model u
