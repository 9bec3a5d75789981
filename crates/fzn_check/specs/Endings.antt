-- How a check ends, by the texts alone: its status, and the line that it writes.
--
-- The statuses and their lines are this program's own.
use Rattle.std.specs.Prelude.{◌≡◌, ◌⊎◌, ◌<◌, ◌≤◌, ℕ, ℤ, List, [], length, slice_index_or, All, Option, Some, None}
use Rattle.constraint_model.specs.declared.model.FznModel.{FznModel}
use Rattle.constraint_model.specs.Relations.{IsSolution}
use Rattle.fzn_print.specs.declared.answers.Answer.{Answer}
use Rattle.fzn_print.specs.Reading.{AllPrinted, IsFirstHidden, IsReading}
use Rattle.model_text.specs.Texts.{HasFaultOn, IsTextOf, most_bytes}
use Rattle.model_text.specs.Files.{refusal_line}
use Rattle.fzn_check.specs.Wrong.{IsWrong}
use Rattle.fzn_check.specs.Lines.{bad_text_line, hidden_line, right_line, wrong_line}
use Rattle.fzn_check.specs.declared.wrong.Wrong.{Wrong}
use Rattle.fzn_check.specs.declared.status.Status.{Status}
use Rattle.fzn_check.specs.declared.status.Status.TheVariants.{Right, Refused, Wrong as WrongSolution, BadText, Hidden}

-- ---- by the text of the model alone

-- some variable isn't printed, and the first such is told
pub record EndsHidden (text line : List ℕ) : Type 0 where
  pub model : FznModel
  pub is_model : IsTextOf text model
  pub variable : ℕ
  pub first : IsFirstHidden model variable
  pub says : line ≡ hidden_line model variable

abbrev pub EndsEarly : List ℕ → Status → List ℕ → Type 0
EndsEarly text (Refused kind number) line = HasFaultOn text kind number × (line ≡ refusal_line kind number)
EndsEarly text Hidden line = EndsHidden text line
EndsEarly text _ line = ⊥

-- ---- by a model all of whose variables are printed, and the text of solutions

-- the text is too long, or the text of no answer
abbrev pub IsBadText : FznModel → List ℕ → Type 0
IsBadText model bytes = (most_bytes < length bytes) ⊎ ((answer : Answer) → ¬ IsReading model bytes answer)

-- this solution, its place counted from 0, is the first that is none, and this is the first that is wrong with it
pub record IsFirstBad (model : FznModel) (solutions : List (List ℤ)) (place : ℕ) (wrong : Wrong) : Type 0 where
  pub inside : place < length solutions
  pub is_wrong : IsWrong model (slice_index_or solutions place []) wrong
  pub before : (k : ℕ) → k < place → IsSolution model (slice_index_or solutions k [])

pub record SaysWrong (model : FznModel) (answer : Answer) (line : List ℕ) : Type 0 where
  pub place : ℕ
  pub wrong : Wrong
  pub first : IsFirstBad model answer.solutions place wrong
  pub says : line ≡ wrong_line model place wrong

-- the answer is right where each of its solutions is one; its mark isn't judged
abbrev pub EndsJudged : FznModel → Answer → Status → List ℕ → Type 0
EndsJudged model answer Right line = All (IsSolution model) answer.solutions × (line ≡ right_line (length answer.solutions))
EndsJudged model answer WrongSolution line = SaysWrong model answer line
EndsJudged model answer _ line = ⊥

-- the text is that of an answer
pub record EndsRead (model : FznModel) (bytes : List ℕ) (status : Status) (line : List ℕ) : Type 0 where
  pub short : length bytes ≤ most_bytes
  pub answer : Answer
  pub reading : IsReading model bytes answer
  pub judged : EndsJudged model answer status line

abbrev pub EndsLate : FznModel → List ℕ → Status → List ℕ → Type 0
EndsLate model bytes BadText line = IsBadText model bytes × (line ≡ bad_text_line)
EndsLate model bytes status line = EndsRead model bytes status line

-- ---- by the two files, of each of which it is said which bytes it holds

pub record EndsOfModel (of_model : List ℕ → Type 0) (status : Status) (line : List ℕ) : Type 0 where
  pub text : List ℕ
  pub held : of_model text
  pub ends : EndsEarly text status line

pub record EndsOfBoth (of_model of_solutions : List ℕ → Type 0) (status : Status) (line : List ℕ) : Type 0 where
  pub text : List ℕ
  pub held : of_model text
  pub model : FznModel
  pub is_model : IsTextOf text model
  pub shown : AllPrinted model
  pub bytes : List ℕ
  pub given : of_solutions bytes
  pub ends : EndsLate model bytes status line

abbrev pub Ends : (of_model of_solutions : List ℕ → Type 0) → Status → List ℕ → Type 0
Ends of_model of_solutions status line = EndsOfModel of_model status line ⊎ EndsOfBoth of_model of_solutions status line
