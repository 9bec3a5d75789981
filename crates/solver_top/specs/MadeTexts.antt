-- What is answered for the made texts: none is refused, and where no limit is set the line of each has a number.
use Rattle.std.specs.Prelude.{◌≡◌, ◌≤◌, ℕ, ℤ, List, Some}
use Rattle.constraint_model.specs.declared.model.FznModel.{FznModel}
use Rattle.command_line.specs.declared.words.Options.{Options}
use Rattle.answer.specs.Least.{IsLeastCost}
use Rattle.made_model.specs.Made.{made, summary}
use Rattle.model_text.specs.Texts.{HasFaultOn, IsTextOf}
use Rattle.solver_top.specs.Answers.{HasNoLimit, IsLineOf}

-- each made text has a model
abbrev pub MadeTextsHaveModels : Type 0
MadeTextsHaveModels = (n : ℕ) → 2 ≤ n → n ≤ 2000 → (model : FznModel) × IsTextOf (made n) model

-- and no fault
abbrev pub MadeTextsHaveNoFault : Type 0
MadeTextsHaveNoFault = (n kind line : ℕ) → 2 ≤ n → n ≤ 2000 → HasFaultOn (made n) kind line → ⊥

-- the line says the least cost of the made text's model
pub record SaysLeast (n : ℕ) (bytes : List ℕ) : Type 0 where
  pub model : FznModel
  pub is_model : IsTextOf (made n) model
  pub least : ℤ
  pub is_least : IsLeastCost model least
  pub printed : bytes ≡ summary n (Some least)

abbrev pub MadeLinesSayLeast : Type 0
MadeLinesSayLeast = (options : Options) (n : ℕ) (bytes : List ℕ) → 2 ≤ n → n ≤ 2000 → HasNoLimit options → IsLineOf options n (made n) bytes → SaysLeast n bytes
