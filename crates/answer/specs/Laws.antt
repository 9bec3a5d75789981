-- The laws of answers.
use Rattle.std.specs.Prelude.{◌≡◌, ◌≢◌, ◌⊎◌, ◌≤◌, ℤ, Bool, true, false, List, [], ◌∷◌, length, All}
use Rattle.constraint_model.specs.declared.model.Goal.{Goal}
use Rattle.constraint_model.specs.declared.model.FznModel.{FznModel}
use Rattle.constraint_model.specs.Relations.{IsSolution}
use Rattle.constraint_model.specs.Searches.{IsSearchOf}
use Rattle.constraint_model.specs.WellFormed.{IsWellFormed}
use Rattle.solution_lists.specs.Order.{IsLeastSolution, IsPlainSearch}
use Rattle.fzn_print.specs.declared.marks.Mark.{Mark}
use Rattle.answer.specs.declared.options.Options.{Options}
use Rattle.fzn_print.specs.declared.answers.Answer.{Answer}
use Rattle.answer.specs.Finished.{IsFinished}
use Rattle.answer.specs.Unfinished.{IsUnfinished}
use Rattle.answer.specs.Answers.{IsAnswer}
use Rattle.answer.specs.Fronts.{ComeInFronts}

-- a model has one finished answer
abbrev pub OneFinished : Type 0
OneFinished = (model : FznModel) (all : Bool) (answer other : Answer) → IsSearchOf model →
    IsFinished model all answer → IsFinished model all other → answer ≡ other

-- two options ask alike: they may differ in who searches, workers, lanes and how the workers get their parts, and in the most parts
-- that are made where no limit is set
pub record AskAlike (o p : Options) : Type 0 where
  pub all : o.all ≡ p.all
  pub depth : o.depth ≡ p.depth
  pub node_limit : o.node_limit ≡ p.node_limit
  pub round_limit : o.round_limit ≡ p.round_limit

-- the limits leave one answer: none is set on rounds, or one lane propagates; and the model has no objective, or one worker searches
abbrev pub IsPinned : FznModel → Options → Type 0
IsPinned model options = ((options.round_limit ≡ 0) ⊎ (options.lanes ≡ 1)) × ((model.goal ≡ Goal.Satisfy) ⊎ (options.workers ≡ 1))

-- there a model has one answer, whatever the limits are
abbrev pub OneLimited : Type 0
OneLimited = (model : FznModel) (o p : Options) (answer other : Answer) → IsWellFormed model → AskAlike o p → IsPinned model o → IsPinned model p →
    IsAnswer model o answer → IsAnswer model p other → answer ≡ other

-- one solution is given at most, but where all solutions are asked for
abbrev pub GivesOne : Type 0
GivesOne = (model : FznModel) (options : Options) (answer : Answer) → (model.goal ≢ Goal.Satisfy) ⊎ (options.all ≡ false) →
    IsAnswer model options answer → length answer.solutions ≤ 1

-- whatever an answer gives solves the model, also where a limit stopped a search
abbrev pub AnswersSolve : Type 0
AnswersSolve = (model : FznModel) (options : Options) (answer : Answer) → IsWellFormed model → IsAnswer model options answer →
    All (IsSolution model) answer.solutions

-- where all solutions are asked for and a limit stopped a search, what is given of each part is a front of its list
abbrev pub CollectsFronts : Type 0
CollectsFronts = (model : FznModel) (options : Options) (answer : Answer) → IsWellFormed model → model.goal ≡ Goal.Satisfy → options.all ≡ true →
    IsUnfinished model options answer → ComeInFronts model options answer.solutions

-- where no solution is given the mark says that nothing is known, and where one is there is no mark: neither the one that the
-- search is complete nor the one that no solution exists
pub record IsMarkedOpen (answer : Answer) : Type 0 where
  pub plain : answer.solutions ≢ [] → answer.mark ≡ Mark.Plain
  pub unknown : answer.solutions ≡ [] → answer.mark ≡ Mark.Unknown

-- so it is where a limit stopped a search
abbrev pub UnfinishedMarks : Type 0
UnfinishedMarks = (model : FznModel) (options : Options) (answer : Answer) → IsUnfinished model options answer → IsMarkedOpen answer

-- where no search annotation asks for another order, the one solution that is given to a model without an objective is the
-- lexicographically smallest in the order of the declarations
abbrev pub GivesSmallest : Type 0
GivesSmallest = (model : FznModel) (answer : Answer) (a : List ℤ) → IsPlainSearch model → model.goal ≡ Goal.Satisfy →
    IsFinished model false answer → answer.solutions ≡ a ∷ [] → IsLeastSolution model a
