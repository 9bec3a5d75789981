-- The answer of a model that is searched to the end.
--
-- Source: the FlatZinc chapter of the MiniZinc Handbook, its solve items and its section on output.
use Rattle.std.specs.Prelude.{◌≡◌, ◌⊎◌, ℤ, Bool, true, false, List, [], ◌∷◌}
use Rattle.constraint_model.specs.declared.model.Goal.{Goal}
use Rattle.constraint_model.specs.declared.model.FznModel.{FznModel}
use Rattle.constraint_model.specs.Relations.{IsSolution}
use Rattle.fzn_print.specs.declared.marks.Mark.{Mark}
use Rattle.fzn_print.specs.declared.answers.Answer.{Answer}
use Rattle.answer.specs.Least.{IsLeastCost}
use Rattle.answer.specs.Lists.{Assignment, ListsSolutions, ListsSolutionsAt}

-- no solution exists, and the answer says so
pub record IsUnsatisfiable (model : FznModel) (answer : Answer) : Type 0 where
  pub none : (a : Assignment) → IsSolution model a → ⊥
  pub solutions : answer.solutions ≡ []
  pub mark : answer.mark ≡ Mark.Unsatisfiable

-- the answer is the first of the solutions
pub record IsFirst (model : FznModel) (answer : Answer) : Type 0 where
  pub first : Assignment
  pub others : List Assignment
  pub listed : ListsSolutions model (first ∷ others)
  pub solutions : answer.solutions ≡ first ∷ []
  pub mark : answer.mark ≡ Mark.Plain

-- the answer is all solutions, one at least, and that they are all
pub record AreAll (model : FznModel) (answer : Answer) : Type 0 where
  pub first : Assignment
  pub others : List Assignment
  pub listed : ListsSolutions model (first ∷ others)
  pub solutions : answer.solutions ≡ first ∷ others
  pub mark : answer.mark ≡ Mark.Complete

-- the answer is the first of the solutions of least cost, and that none costs less
pub record IsOptimal (model : FznModel) (answer : Answer) : Type 0 where
  pub cost : ℤ
  pub least : IsLeastCost model cost
  pub first : Assignment
  pub others : List Assignment
  pub listed : ListsSolutionsAt model cost (first ∷ others)
  pub solutions : answer.solutions ≡ first ∷ []
  pub mark : answer.mark ≡ Mark.Complete

-- the answer gives what is asked for: a solution or all of them, or one of least cost, where all makes no difference
abbrev pub Gives : Goal → Bool → FznModel → Answer → Type 0
Gives Goal.Satisfy false model answer = IsFirst model answer
Gives Goal.Satisfy true model answer = AreAll model answer
Gives (Goal.Minimize t) all model answer = IsOptimal model answer
Gives (Goal.Maximize t) all model answer = IsOptimal model answer

abbrev pub IsFinished : FznModel → Bool → Answer → Type 0
IsFinished model all answer = IsUnsatisfiable model answer ⊎ Gives model.goal all model answer
