-- Items that are taken one by one.
use Rattle.std.specs.Prelude.{◌≡◌, ℕ, List, false}
use Rattle.fzn_parser.specs.Parsing.{ItemTree}
use Rattle.fzn_model.specs.Effects.{Reading, reading_of}
use Rattle.fzn_model.specs.Faults.{is_too_large}
use Rattle.fzn_model.specs.Resolving.{AreLawful}

-- these items have no fault and make this reading, which passes no limit
pub record AreTaken (text : List ℕ) (items : List ItemTree) (r : Reading) : Type 0 where
  pub lawful : AreLawful text items
  pub same : r ≡ reading_of text items
  pub fits : is_too_large r ≡ false

-- some items of the text were taken
pub record CanTake (text : List ℕ) (r : Reading) : Type 0 where
  pub items : List ItemTree
  pub taken : AreTaken text items r
