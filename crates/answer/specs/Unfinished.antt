-- The answers of a model where some search was stopped by a limit: the parts that are searched are then all those of the depth
-- that is asked for.
--
-- Source: the FlatZinc chapter of the MiniZinc Handbook, its section on output: what is known is written, without the mark
-- of a complete search and without the one of an unsatisfiable model.
use Rattle.std.specs.Prelude.{◌≡◌, ◌⊎◌, ℤ, ◌<ℤ◌, ◌≤ℤ◌, Bool, true, false, List, [], ◌∷◌, ◌++◌, take, flat_map, Option, Some, None, All, Any}
use Rattle.constraint_model.specs.declared.model.Goal.{Goal}
use Rattle.constraint_model.specs.declared.model.FznModel.{FznModel}
use Rattle.constraint_model.specs.Relations.{cost_of}
use Rattle.decompose.specs.Program.{start_of}
use Rattle.search.specs.declared.ends.FirstEnd.{FirstEnd}
use Rattle.search.specs.declared.ends.AllEnd.{AllEnd}
use Rattle.fzn_print.specs.declared.marks.Mark.{Mark}
use Rattle.tree_cover.specs.declared.part.Part.{Part}
use Rattle.tree_cover.specs.Covers.{parts_to}
use Rattle.answer.specs.declared.options.Options.{Options}
use Rattle.fzn_print.specs.declared.answers.Answer.{Answer}
use Rattle.answer.specs.Least.{IsLeastCost}
use Rattle.answer.specs.Cuts.{cut_to}
use Rattle.answer.specs.Lists.{Assignment}
use Rattle.answer.specs.Results.{listed, AreFirstResults, first_collected, IsOpen, AreAllResults, all_collected, IsAllSpent, LeastResult, AreLeastResults, collected_in, IsLeastSpent}

-- where nothing was collected the mark says that nothing is known
abbrev pub mark_where : List Assignment → Mark
mark_where [] = Mark.Unknown
mark_where (a ∷ others) = Mark.Plain

-- each costs more than a, and at least as much
abbrev pub CostsMore : Goal → Assignment → Assignment → Type 0
CostsMore goal a b = (cost other : ℤ) → cost_of goal a ≡ Some cost → cost_of goal b ≡ Some other → cost <ℤ other

abbrev pub CostsAsMuch : Goal → Assignment → Assignment → Type 0
CostsAsMuch goal a b = (cost other : ℤ) → cost_of goal a ≡ Some cost → cost_of goal b ≡ Some other → cost ≤ℤ other

-- a is the first of those in the list that cost least
pub record IsFirstLeast (goal : Goal) (collected : List Assignment) (a : Assignment) : Type 0 where
  pub before : List Assignment
  pub after : List Assignment
  pub there : collected ≡ before ++ a ∷ after
  pub before_cost_more : All (CostsMore goal a) before
  pub after_cost_as_much : All (CostsAsMuch goal a) after

-- that one, or none where nothing was collected
abbrev pub IsBestOf : Goal → List Assignment → Option Assignment → Type 0
IsBestOf goal collected None = collected ≡ []
IsBestOf goal collected (Some a) = IsFirstLeast goal collected a

-- the first solution was asked for: that of the first part that gave one is given
pub record IsFirstCollected (model : FznModel) (options : Options) (answer : Answer) : Type 0 where
  pub results : List FirstEnd
  pub are : AreFirstResults model options (parts_to options.depth) (start_of model) results
  pub is_open : IsOpen results
  pub solutions : answer.solutions ≡ take 1 (flat_map first_collected results)
  pub mark : answer.mark ≡ mark_where answer.solutions

-- all were asked for: all that were collected are given, in the order of the parts
pub record AreAllCollected (model : FznModel) (options : Options) (answer : Answer) : Type 0 where
  pub results : List AllEnd
  pub are : AreAllResults model options (parts_to options.depth) results
  pub spent : Any IsAllSpent results
  pub solutions : answer.solutions ≡ flat_map all_collected results
  pub mark : answer.mark ≡ mark_where answer.solutions

-- a solution of least cost was asked for, and the least cost isn't known: the best one is given
pub record IsBestCollected (model : FznModel) (options : Options) (answer : Answer) : Type 0 where
  pub results : List LeastResult
  pub are : AreLeastResults model options (parts_to options.depth) results
  pub spent : Any (λ result. IsLeastSpent result.1) results
  pub best : Option Assignment
  pub is_best : IsBestOf model.goal (collected_in results) best
  pub solutions : answer.solutions ≡ listed best
  pub mark : answer.mark ≡ mark_where answer.solutions

-- a search of these parts for the least cost that no limit stopped, and the best that it collected
pub record FindsBest (model : FznModel) (options : Options) (parts : List Part) (best : Assignment) : Type 0 where
  pub results : List LeastResult
  pub are : AreLeastResults model options parts results
  pub unspent : All (λ result. IsLeastSpent result.1 → ⊥) results
  pub is_best : IsFirstLeast model.goal (collected_in results) best

-- the least cost is known, and the search for the first solution that costs so much was stopped: what that search collected
-- in the first part that gave one is given, else the best that was known before
pub record IsLeastCollected (model : FznModel) (options : Options) (answer : Answer) : Type 0 where
  pub cost : ℤ
  pub least : IsLeastCost model cost
  pub best : Assignment
  pub found : FindsBest model options (parts_to options.depth) best
  pub results : List FirstEnd
  pub are : AreFirstResults model options (parts_to options.depth) (cut_to model.goal cost (start_of model)) results
  pub is_open : IsOpen results
  pub solutions : answer.solutions ≡ take 1 (flat_map first_collected results ++ best ∷ [])
  pub mark : answer.mark ≡ Mark.Plain

-- what is given by what is asked for
abbrev pub GivesCollected : Goal → Bool → FznModel → Options → Answer → Type 0
GivesCollected Goal.Satisfy false model options answer = IsFirstCollected model options answer
GivesCollected Goal.Satisfy true model options answer = AreAllCollected model options answer
GivesCollected (Goal.Minimize t) all model options answer = IsBestCollected model options answer ⊎ IsLeastCollected model options answer
GivesCollected (Goal.Maximize t) all model options answer = IsBestCollected model options answer ⊎ IsLeastCollected model options answer

abbrev pub IsUnfinished : FznModel → Options → Answer → Type 0
IsUnfinished model options answer = GivesCollected model.goal options.all model options answer
