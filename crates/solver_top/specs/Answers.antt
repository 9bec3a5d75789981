-- What is written of an answer.
--
-- Source: the FlatZinc chapter of the MiniZinc Handbook, its section on output. The line of a made text is this program's own.
use Rattle.std.specs.Prelude.{◌≡◌, ◌⊎◌, ◌*◌, ◌^◌, ℕ, ℤ, List, [], ◌∷◌, Option, Some, None, All}
use Rattle.std.specs.Option.{option_map_or}
use Rattle.constraint_model.specs.declared.model.FznModel.{FznModel}
use Rattle.constraint_model.specs.declared.model.Goal.{Goal}
use Rattle.constraint_model.specs.Relations.{value, IsSolution}
use Rattle.fzn_print.specs.AnswerText.{answer_text}
use Rattle.fzn_print.specs.declared.marks.Mark.{Mark}
use Rattle.command_line.specs.declared.words.Options.{Options}
use Rattle.answer.specs.declared.options.Options.{Options as SearchOptions}
use Rattle.fzn_print.specs.declared.answers.Answer.{Answer}
use Rattle.answer.specs.Lists.{Assignment}
use Rattle.answer.specs.Finished.{IsFinished}
use Rattle.answer.specs.Unfinished.{IsUnfinished}
use Rattle.answer.specs.Answers.{IsWhole, IsAnswer}
use Rattle.answer.specs.Laws.{AskAlike, IsPinned}
use Rattle.domain_text.specs.Domains.{IsDomainText}
use Rattle.made_model.specs.Made.{summary}
use Rattle.model_text.specs.Texts.{IsTextOf}

-- the depth to which the tree is cut under a limit: 6 where none is given
abbrev pub depth_of : Options → ℕ
depth_of o = option_map_or (λ depth. depth) o.depth 6

-- the most parts into which it is cut where no limit is set: those of the depth that is given, or 32 for each worker where none is
abbrev pub most_parts : Options → ℕ
most_parts o = option_map_or (λ depth. 2 ^ depth) o.depth (32 * o.workers)

-- the options of the words as the search takes them
abbrev pub search_options : Options → SearchOptions
search_options o = record {
  all = o.all;
  workers = o.workers;
  lanes = o.lanes;
  depth = depth_of o;
  most_parts = most_parts o;
  node_limit = o.node_limit;
  round_limit = o.round_limit;
  steal = o.steal;
}

-- neither limit is set
abbrev pub HasNoLimit : Options → Type 0
HasNoLimit o = (o.node_limit ≡ 0) × (o.round_limit ≡ 0)

-- an answer of the model, that of the whole search where no limit is set; each solution that it gives solves the model
pub record IsAnswerWith (options : Options) (model : FznModel) (answer : Answer) : Type 0 where
  pub is_answer : IsAnswer model (search_options options) answer
  pub whole : options.node_limit ≡ 0 → options.round_limit ≡ 0 → IsFinished model options.all answer
  pub solve : All (IsSolution model) answer.solutions

-- these bytes are an answer of the text's model
pub record IsAnswerOf (options : Options) (text bytes : List ℕ) : Type 0 where
  pub model : FznModel
  pub is_model : IsTextOf text model
  pub answer : Answer
  pub is_answer : IsAnswerWith options model answer
  pub printed : bytes ≡ answer_text model answer

-- the two ask alike of the model, and the limits leave it one answer
pub record ArePinned (model : FznModel) (o p : Options) : Type 0 where
  pub alike : AskAlike (search_options o) (search_options p)
  pub first : IsPinned model (search_options o)
  pub second : IsPinned model (search_options p)

-- these bytes are the text of the domains that propagation leaves for the variables of the text's model
pub record AreDomainsOf (text bytes : List ℕ) : Type 0 where
  pub model : FznModel
  pub is_model : IsTextOf text model
  pub printed : IsDomainText model bytes

-- ---- the line of a made text

-- the number of the objective in a solution, where there is an objective
abbrev pub objective_in : Goal → Assignment → Option ℤ
objective_in Goal.Satisfy a = None
objective_in (Goal.Minimize t) a = Some (value a t)
objective_in (Goal.Maximize t) a = Some (value a t)

-- that in the first solution of a list
abbrev pub first_objective : Goal → List Assignment → Option ℤ
first_objective goal [] = None
first_objective goal (a ∷ others) = objective_in goal a

-- and that in an answer whose mark says that the search is complete
abbrev pub known_at : Mark → Option ℤ → Option ℤ
known_at Mark.Complete objective = objective
known_at _ objective = None

abbrev pub known_objective : Goal → Answer → Option ℤ
known_objective goal answer = known_at answer.mark (first_objective goal answer.solutions)

-- what is said of the objective: its number in the solution that is given, where no limit stopped a part of the search, and else
-- nothing
abbrev pub IsKnownObjective : FznModel → Options → Answer → Option ℤ → Type 0
IsKnownObjective model options answer objective =
    (IsWhole model (search_options options) answer × (objective ≡ first_objective model.goal answer.solutions))
    ⊎ (IsUnfinished model (search_options options) answer × (objective ≡ None))

-- these bytes are the line of the made text of `n` variables, and of an answer of its model
pub record IsLineOf (options : Options) (n : ℕ) (text bytes : List ℕ) : Type 0 where
  pub model : FznModel
  pub is_model : IsTextOf text model
  pub answer : Answer
  pub is_answer : IsAnswerWith options model answer
  pub objective : Option ℤ
  pub known : IsKnownObjective model options answer objective
  pub printed : bytes ≡ summary n objective

-- ---- limited answers

-- a text has one answer where the limits pin its model's
abbrev pub OneLimitedText : Type 0
OneLimitedText = (model : FznModel) (o p : Options) (text bytes others : List ℕ) → IsTextOf text model → ArePinned model o p →
    IsAnswerOf o text bytes → IsAnswerOf p text others → bytes ≡ others

-- and a made text has one line
abbrev pub OneLimitedLine : Type 0
OneLimitedLine = (model : FznModel) (o p : Options) (n : ℕ) (text bytes others : List ℕ) → IsTextOf text model → ArePinned model o p →
    IsLineOf o n text bytes → IsLineOf p n text others → bytes ≡ others
