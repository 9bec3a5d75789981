-- What a text means: its model, or its first fault. Reading takes the whole text's tokens first, then its items, then
-- what they mean: a fault of an earlier step comes before one of a later step, wherever the two are in the text.
use Rattle.std.specs.Prelude.{◌≡◌, ◌⊎◌, ◌≤◌, ◌<◌, ◌+◌, ◌==◌, ℕ, nat_eq, if◌then◌else◌, List, length, take, count_by}
use Rattle.fzn_lexer.specs.declared.Token.{Token}
use Rattle.fzn_lexer.specs.Lexing.{LexesAs, FaultsAt as IsNoToken}
use Rattle.fzn_parser.specs.Parsing.{ItemTree, ReadsAs, FaultsAt as IsNoItem}
use Rattle.constraint_model.specs.declared.model.FznModel.{FznModel}
use Rattle.fzn_model.specs.declared.fault_kinds.FaultKind.{FaultKind}
use Rattle.fzn_model.specs.FaultKinds.{kind_number}
use Rattle.fzn_model.specs.Resolving.{IsModelOf, HasFault}
use Rattle.model_text.specs.declared.reader.TextError.{TextError}

abbrev pub most_bytes : ℕ
most_bytes = 67108864

-- ---- the kinds of fault that the first steps find

abbrev pub no_token : ℕ
no_token = kind_number FaultKind.Lex

abbrev pub no_item : ℕ
no_item = kind_number FaultKind.Syntax

abbrev pub too_long : ℕ
too_long = kind_number FaultKind.TooLong

-- the text's tokens read as these items
pub record HasItems (text : List ℕ) (items : List ItemTree) : Type 0 where
  pub tokens : List Token
  pub lexed : LexesAs text tokens
  pub parsed : ReadsAs text tokens items

-- the text has this model
pub record IsTextOf (text : List ℕ) (model : FznModel) : Type 0 where
  pub short : length text ≤ most_bytes
  pub items : List ItemTree
  pub read : HasItems text items
  pub resolved : IsModelOf text items model

-- the text is too long; its place is the text's first byte
pub record IsTooLong (text : List ℕ) (kind at : ℕ) : Type 0 where
  pub long : most_bytes < length text
  pub is_kind : kind ≡ too_long
  pub first : at ≡ 0

-- the text isn't too long; up to this byte it is cut into tokens, blanks and comments, and none of these begins there
pub record LacksToken (text : List ℕ) (kind at : ℕ) : Type 0 where
  pub short : length text ≤ most_bytes
  pub fault : IsNoToken text at
  pub is_kind : kind ≡ no_token

-- the text isn't too long and is cut into tokens; after some items, maybe none, the stretch of these that begins at this byte
-- reads as no item
pub record LacksItem (text : List ℕ) (kind at : ℕ) : Type 0 where
  pub short : length text ≤ most_bytes
  pub tokens : List Token
  pub lexed : LexesAs text tokens
  pub fault : IsNoItem text tokens at
  pub is_kind : kind ≡ no_item

-- the text isn't too long and reads as items, and these have this fault
pub record LacksModel (text : List ℕ) (kind at : ℕ) : Type 0 where
  pub short : length text ≤ most_bytes
  pub items : List ItemTree
  pub read : HasItems text items
  pub fault : HasFault text items kind at

-- the text has this fault at this byte
abbrev pub IsFaultOf : List ℕ → ℕ → ℕ → Type 0
IsFaultOf text kind at = IsTooLong text kind at ⊎ (LacksToken text kind at ⊎ (LacksItem text kind at ⊎ LacksModel text kind at))

-- why `read_model` may answer this error; memory may be refused at any time
abbrev pub IsCause : List ℕ → TextError → Type 0
IsCause text (TextError.Refused kind at) = IsFaultOf text kind at
IsCause text TextError.NoMemory = Unit {0}

-- the line of a byte, counted from 1: each line ends with byte 10
unfoldable pub line_at : List ℕ → ℕ → ℕ
line_at text at = count_by (λ b. b == 10) (take at text) + 1

-- the line that is told of a fault: that of its byte, and 0 where the text is too long
abbrev pub fault_line : List ℕ → ℕ → ℕ → ℕ
fault_line text kind at = if nat_eq kind too_long then 0 else line_at text at

-- the text has a fault of this kind on this line
pub record HasFaultOn (text : List ℕ) (kind line : ℕ) : Type 0 where
  pub at : ℕ
  pub fault : IsFaultOf text kind at
  pub is_line : line ≡ fault_line text kind at
