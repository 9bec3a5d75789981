-- The answer that parts of the search tree give, where they cover it and each was searched to its end, wherever that was.
use Rattle.std.specs.Prelude.{◌≡◌, ◌≢◌, ℤ, Bool, true, false, List, [], take, All, Some}
use Rattle.constraint_model.specs.declared.model.Goal.{Goal}
use Rattle.constraint_model.specs.declared.model.FznModel.{FznModel}
use Rattle.constraint_model.specs.Relations.{cost_of, IsSolution}
use Rattle.constraint_model.specs.WellFormed.{IsWellFormed}
use Rattle.decompose.specs.Kernels.{kernels_of}
use Rattle.decompose.specs.Program.{start_of}
use Rattle.fzn_print.specs.declared.marks.Mark.{Mark}
use Rattle.fzn_print.specs.declared.answers.Answer.{Answer}
use Rattle.tree_cover.specs.declared.part.Part.{Part}
use Rattle.tree_parts.specs.Whole.{AreListed, joined, EachCostsAtLeast}
use Rattle.answer.specs.Parts.{AreParts}
use Rattle.answer.specs.Cuts.{cut_to}
use Rattle.answer.specs.Lists.{Assignment}
use Rattle.answer.specs.Least.{IsLeastCost}
use Rattle.answer.specs.Finished.{IsFinished}
use Rattle.answer.specs.Given.{mark_for}

pub record JoinLaws : Type 0 where
  -- all solutions are those of the parts, one behind the other
  pub all : (model : FznModel) (parts : List Part) (lists : List (List Assignment)) (answer : Answer) → IsWellFormed model → model.goal ≡ Goal.Satisfy → AreParts parts →
      AreListed model (kernels_of model) (start_of model) parts lists → answer.solutions ≡ joined lists → answer.mark ≡ mark_for false answer.solutions Mark.Complete →
      IsFinished model true answer
  -- the first is the first of them
  pub first : (model : FznModel) (parts : List Part) (lists : List (List Assignment)) (answer : Answer) → IsWellFormed model → model.goal ≡ Goal.Satisfy → AreParts parts →
      AreListed model (kernels_of model) (start_of model) parts lists → answer.solutions ≡ take 1 (joined lists) → answer.mark ≡ mark_for false answer.solutions Mark.Plain →
      IsFinished model false answer
  -- where each solution in the parts costs at least as much as one that is known, that is the least cost
  pub least : (model : FznModel) (parts : List Part) (cost : ℤ) (a : Assignment) → IsWellFormed model → AreParts parts →
      All (EachCostsAtLeast model (kernels_of model) (start_of model) cost) parts → IsSolution model a → cost_of model.goal a ≡ Some cost → IsLeastCost model cost
  -- the first that costs so much is that of the parts of the start that is cut to it
  pub optimal : (model : FznModel) (all : Bool) (parts : List Part) (lists : List (List Assignment)) (answer : Answer) (cost : ℤ) → IsWellFormed model → model.goal ≢ Goal.Satisfy →
      IsLeastCost model cost → AreParts parts → AreListed model (kernels_of model) (cut_to model.goal cost (start_of model)) parts lists →
      answer.solutions ≡ take 1 (joined lists) → answer.mark ≡ Mark.Complete → IsFinished model all answer
  -- where no part has a solution there is none
  pub none : (model : FznModel) (all : Bool) (parts : List Part) (lists : List (List Assignment)) (answer : Answer) → IsWellFormed model → AreParts parts →
      AreListed model (kernels_of model) (start_of model) parts lists → joined lists ≡ [] → answer.solutions ≡ [] → answer.mark ≡ Mark.Unsatisfiable → IsFinished model all answer
