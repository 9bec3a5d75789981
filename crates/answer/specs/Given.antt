-- What the parts of the answer promise.
use Rattle.std.specs.Prelude.{◌≡◌, ◌≤◌, ℤ, Bool, true, false, List, [], ◌∷◌, All, Some}
use Rattle.constraint_model.specs.declared.model.FznModel.{FznModel}
use Rattle.constraint_model.specs.Relations.{cost_of, IsSolution}
use Rattle.fzn_print.specs.declared.marks.Mark.{Mark}
use Rattle.search.specs.declared.run.Run.{Run}
use Rattle.search.specs.Premises.{IsRun}
use Rattle.tree_cover.specs.declared.part.Part.{Part}
use Rattle.answer.specs.declared.options.Options.{Options}
use Rattle.fzn_print.specs.declared.answers.Answer.{Answer}
use Rattle.answer.specs.Lists.{Assignment}
use Rattle.answer.specs.Finished.{IsFinished}
use Rattle.answer.specs.Unfinished.{mark_where, FindsBest}
use Rattle.answer.specs.Least.{IsLeastCost}
use Rattle.answer.specs.Answers.{IsAnswer}
use Rattle.answer.specs.Parts.{ArePartsFor}

-- the mark behind these solutions, where a limit stopped some search, and where none did and the whole search has this mark
abbrev pub mark_for : Bool → List Assignment → Mark → Mark
mark_for true given whole = mark_where given
mark_for false [] whole = Mark.Unsatisfiable
mark_for false (a ∷ others) whole = whole

-- the run is one, with the lanes and the limits of the options
pub record IsSetUp {L : Type 0} (run : Run L) (options : Options) : Type 0 where
  pub is_run : IsRun run
  pub lanes : run.lanes ≡ options.lanes
  pub node_limit : run.node_limit ≡ options.node_limit
  pub round_limit : run.round_limit ≡ options.round_limit
  pub depth : options.depth ≤ 16
  pub some_parts : 1 ≤ options.most_parts
  pub few_parts : options.most_parts ≤ 65536

-- the answer is one; without limits it is finished; and what it gives are solutions
pub record IsGiven (model : FznModel) (options : Options) (answer : Answer) : Type 0 where
  pub is_answer : IsAnswer model options answer
  pub whole : options.node_limit ≡ 0 → options.round_limit ≡ 0 → IsFinished model options.all answer
  pub solve : All (IsSolution model) answer.solutions

-- the best solution of a search of these parts for the least cost that no limit stopped, and that none costs less
pub record IsBestKnown (model : FznModel) (options : Options) (parts : List Part) (best : Assignment) : Type 0 where
  pub found : FindsBest model options parts best
  pub solves : IsSolution model best
  pub least : (cost : ℤ) → cost_of model.goal best ≡ Some cost → IsLeastCost model cost

-- so it is of some parts, as they are searched
pub record IsBestOfParts (model : FznModel) (options : Options) (best : Assignment) : Type 0 where
  pub parts : List Part
  pub are : ArePartsFor options parts
  pub known : IsBestKnown model options parts best
