-- The answer of a model.
use Rattle.std.specs.Prelude.{◌≢◌, ◌⊎◌}
use Rattle.constraint_model.specs.declared.model.FznModel.{FznModel}
use Rattle.answer.specs.declared.options.Options.{Options}
use Rattle.fzn_print.specs.declared.answers.Answer.{Answer}
use Rattle.answer.specs.Finished.{IsFinished}
use Rattle.answer.specs.Unfinished.{IsUnfinished}
use Rattle.answer.specs.Unspent.{IsUnspentSearch}

-- a limit is set
abbrev pub HasLimit : Options → Type 0
HasLimit options = (options.node_limit ≢ 0) ⊎ (options.round_limit ≢ 0)

-- The answer of the whole search, where no limit stopped a part of it. Without a limit there is nothing that could stop one, so
-- nothing is said of parts, and a search may be made without them.
pub record IsWhole (model : FznModel) (options : Options) (answer : Answer) : Type 0 where
  pub finished : IsFinished model options.all answer
  pub unspent : HasLimit options → IsUnspentSearch model options

-- the answer of the whole search, or what is known where a limit stopped a part of it
abbrev pub IsAnswer : FznModel → Options → Answer → Type 0
IsAnswer model options answer = IsWhole model options answer ⊎ IsUnfinished model options answer
