-- The whole search of a model, where no limit stopped a part of it: the parts are all those of the depth that is asked for.
use Rattle.std.specs.Prelude.{ℤ, Bool, true, false, List, All}
use Rattle.interval.specs.Boxes.{Bounds}
use Rattle.constraint_model.specs.declared.model.Goal.{Goal}
use Rattle.constraint_model.specs.declared.model.FznModel.{FznModel}
use Rattle.decompose.specs.Program.{start_of}
use Rattle.search.specs.declared.ends.FirstEnd.{FirstEnd}
use Rattle.search.specs.declared.ends.AllEnd.{AllEnd}
use Rattle.tree_cover.specs.Covers.{parts_to}
use Rattle.answer.specs.declared.options.Options.{Options}
use Rattle.answer.specs.Cuts.{cut_to}
use Rattle.answer.specs.Least.{IsLeastCost}
use Rattle.answer.specs.Results.{AreFirstResults, IsOpen, AreAllResults, IsAllSpent, LeastResult, AreLeastResults, IsLeastSpent}

-- the searches of a box for the first solution may end so that none is stopped before the first part that has a solution
pub record IsUnspentFirst (model : FznModel) (options : Options) (b : Bounds) : Type 0 where
  pub results : List FirstEnd
  pub are : AreFirstResults model options (parts_to options.depth) b results
  pub none_open : IsOpen results → ⊥

-- those for all solutions may
pub record IsUnspentAll (model : FznModel) (options : Options) : Type 0 where
  pub results : List AllEnd
  pub are : AreAllResults model options (parts_to options.depth) results
  pub unspent : All (λ result. IsAllSpent result → ⊥) results

-- those for the least cost may, and so may those for the first solution of that cost
pub record IsUnspentLeast (model : FznModel) (options : Options) : Type 0 where
  pub results : List LeastResult
  pub are : AreLeastResults model options (parts_to options.depth) results
  pub unspent : All (λ result. IsLeastSpent result.1 → ⊥) results
  pub second : (cost : ℤ) → IsLeastCost model cost → IsUnspentFirst model options (cut_to model.goal cost (start_of model))

abbrev pub IsUnspentFor : Goal → Bool → FznModel → Options → Type 0
IsUnspentFor Goal.Satisfy false model options = IsUnspentFirst model options (start_of model)
IsUnspentFor Goal.Satisfy true model options = IsUnspentAll model options
IsUnspentFor (Goal.Minimize t) all model options = IsUnspentLeast model options
IsUnspentFor (Goal.Maximize t) all model options = IsUnspentLeast model options

-- the searches for what is asked for may all end before their limits stop them
abbrev pub IsUnspentSearch : FznModel → Options → Type 0
IsUnspentSearch model options = IsUnspentFor model.goal options.all model options
