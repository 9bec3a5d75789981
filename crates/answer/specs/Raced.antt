-- When a race gives the answer.
use Rattle.std.specs.Prelude.{◌≡◌, ◌≢◌, ◌⊎◌, false}
use Rattle.constraint_model.specs.declared.model.Goal.{Goal}
use Rattle.constraint_model.specs.declared.model.FznModel.{FznModel}
use Rattle.answer.specs.declared.options.Options.{Options}

-- no limit is set
pub record IsUnlimited (options : Options) : Type 0 where
  pub node_limit : options.node_limit ≡ 0
  pub round_limit : options.round_limit ≡ 0
