-- A text that is read item by item.
use Rattle.std.specs.Prelude.{◌≤◌, ◌<◌, ℕ, List, [], ◌++◌, length, Option, Some, None}
use Rattle.fzn_lexer.specs.declared.Token.{Token}
use Rattle.fzn_lexer.specs.Lexing.{LexesTo}
use Rattle.fzn_parser.specs.declared.stream.ItemError.{ItemError}
use Rattle.fzn_parser.specs.Parsing.{ItemTree, ReadsAs}
use Rattle.fzn_parser.specs.Stream.{IsItemTo, LacksItem, IsCause as IsItemCause}
use Rattle.fzn_model.specs.Effects.{Reading}
use Rattle.fzn_model.specs.Resolving.{HasFault}
use Rattle.fzn_model.specs.Taking.{AreTaken}
use Rattle.model_text.specs.Texts.{most_bytes}

-- the text, which isn't too long, reads as these items up to the byte `to`
pub record HasItemsTo (text : List ℕ) (to : ℕ) (items : List ItemTree) : Type 0 where
  pub short : length text ≤ most_bytes
  pub tokens : List Token
  pub lexed : LexesTo text 0 to tokens
  pub read : ReadsAs text tokens items

-- the tokens from the byte `at` to the byte `to` read as an item; or no token is left behind `at`
abbrev pub IsPassed : List ℕ → ℕ → Option ℕ → Type 0
IsPassed text at None = LexesTo text at (length text) []
IsPassed text at (Some to) = (item : ItemTree) × IsItemTo text at to item

-- the text reads as items up to the byte `at`, and this is what they make
pub record IsTakenTo (text : List ℕ) (at : ℕ) (r : Reading) : Type 0 where
  pub items : List ItemTree
  pub before : HasItemsTo text at items
  pub taken : AreTaken text items r

-- items were taken up to the byte `to`, which is behind `at`; or the whole text was taken
abbrev pub IsTakenOn : List ℕ → ℕ → Reading → Option ℕ → Type 0
IsTakenOn text at r None = IsTakenTo text (length text) r
IsTakenOn text at r (Some to) = (at < to) × IsTakenTo text to r

-- the text reads as items up to some byte, and behind it no item was read for this cause
pub record IsUnread (text : List ℕ) (error : ItemError) : Type 0 where
  pub at : ℕ
  pub items : List ItemTree
  pub before : HasItemsTo text at items
  pub cause : IsItemCause text at error

-- the text reads as items up to some byte, and `LacksItem` holds from there to the byte `to`, with its fault at the byte `at`
pub record LacksItemAt (text : List ℕ) (at to : ℕ) : Type 0 where
  pub place : ℕ
  pub items : List ItemTree
  pub before : HasItemsTo text place items
  pub lacks : LacksItem text place at to

-- the text reads as items up to the byte `to`, and these have this fault, whatever items follow
pub record HasFaultBefore (text : List ℕ) (to kind at : ℕ) : Type 0 where
  pub items : List ItemTree
  pub before : HasItemsTo text to items
  pub fault : (more : List ItemTree) → HasFault text (items ++ more) kind at
