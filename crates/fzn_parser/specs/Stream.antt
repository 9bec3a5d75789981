-- The items of a text one by one.
use Rattle.std.specs.Prelude.{◌≡◌, ◌<◌, ◌⊎◌, ℕ, List, [], ◌∷◌, ◌++◌, All, true, false, length, Option, Some, None}
use Rattle.fzn_lexer.specs.declared.Token.{Token}
use Rattle.fzn_lexer.specs.Lexing.{LexesTo, LacksPiece}
use Rattle.fzn_parser.specs.declared.tree.Item.{Item}
use Rattle.fzn_parser.specs.declared.stream.ItemError.{ItemError}
use Rattle.fzn_parser.specs.declared.cursor.Symbol.{Symbol}
use Rattle.fzn_parser.specs.Texts.{is_at}
use Rattle.fzn_parser.specs.Parsing.{ItemTree, item_tree, BeginsAt, ReadsAsItem, FaultsAt}

-- none of the tokens is a semicolon
abbrev pub GoesOn : List ℕ → List Token → Type 0
GoesOn text tokens = All (λ t. is_at Symbol.Semicolon text t ≡ false) tokens

-- the last of the tokens, and none before it, is a semicolon, and `to` is the first byte behind it
pub record ClosesAt (text : List ℕ) (to : ℕ) (tokens : List Token) : Type 0 where
  pub front : List Token
  pub last : Token
  pub cut : tokens ≡ front ++ last ∷ []
  pub goes : GoesOn text front
  pub semicolon : is_at Symbol.Semicolon text last ≡ true
  pub place : to ≡ last.to

-- none of the tokens is a semicolon, and the byte `to` is the text's end
abbrev pub RunsOut : List ℕ → ℕ → List Token → Type 0
RunsOut text to tokens = GoesOn text tokens × (to ≡ length text)

-- the tokens from the byte `from` to the byte `to` are the first stretch behind `from`: up to and with the first semicolon, or
-- to the text's end where none is left; nothing is said of the bytes behind `to`
pub record IsStretch (text : List ℕ) (from to : ℕ) (tokens : List Token) : Type 0 where
  pub lexed : LexesTo text from to tokens
  pub ends : ClosesAt text to tokens ⊎ RunsOut text to tokens
  pub onward : 0 < length tokens → from < to

-- the tokens from the byte `from` to the byte `to` read as this item
pub record IsItemTo (text : List ℕ) (from to : ℕ) (item : ItemTree) : Type 0 where
  pub onward : from < to
  pub tokens : List Token
  pub lexed : LexesTo text from to tokens
  pub read : ReadsAsItem text tokens item

-- the first item behind the byte `from`, and a place behind its tokens: between these and the place may be blanks and comments,
-- but no token; or no token is left
abbrev pub IsNextItem : List ℕ → ℕ → Option (Item × ℕ) → Type 0
IsNextItem text from None = LexesTo text from (length text) []
IsNextItem text from (Some p) = IsItemTo text from p.1 (item_tree p.0)

-- whatever tokens the text behind the byte `to` is cut into: those from the byte `from` to `to`, followed by these, have a fault
-- at the byte `at`: after some items, maybe none, the stretch that begins there reads as no item
pub record LacksItem (text : List ℕ) (from at to : ℕ) : Type 0 where
  pub tokens : List Token
  pub lexed : LexesTo text from to tokens
  pub fault : (more : List Token) → LexesTo text to (length text) more → FaultsAt text (tokens ++ more) at

-- from the byte `from` to the byte `at` the text is cut into pieces, and at `at`, before the text's end, no piece begins
pub record LacksToken (text : List ℕ) (from at : ℕ) : Type 0 where
  pub tokens : List Token
  pub lexed : LexesTo text from at tokens
  pub stuck : LacksPiece text at

-- why `next_item` may answer this error; memory may be refused at any time
abbrev pub IsCause : List ℕ → ℕ → ItemError → Type 0
IsCause text from (ItemError.NoToken at) = LacksToken text from at
IsCause text from (ItemError.NoItem at to) = LacksItem text from at to
IsCause text from ItemError.NoMemory = Unit {0}

-- from the byte `from` to the byte `at` are tokens, and none of them is a semicolon
pub record RunsOnTo (text : List ℕ) (from at : ℕ) : Type 0 where
  pub tokens : List Token
  pub lexed : LexesTo text from at tokens
  pub goes : GoesOn text tokens

-- from the byte `from` to the byte `to` is the first stretch of tokens; it begins at the byte `at` and reads as no item
pub record LacksNext (text : List ℕ) (from at to : ℕ) : Type 0 where
  pub tokens : List Token
  pub stretch : IsStretch text from to tokens
  pub first : BeginsAt at tokens
  pub refused : (item : ItemTree) → ReadsAsItem text tokens item → ⊥

-- an error tells of the first stretch behind the byte `from`: `NoToken` that no semicolon comes before its byte, `NoItem` that
-- the stretch from `at` to `to` is this one and reads as no item; memory may be refused at any time
abbrev pub TellsOfNext : List ℕ → ℕ → ItemError → Type 0
TellsOfNext text from (ItemError.NoToken at) = RunsOnTo text from at
TellsOfNext text from (ItemError.NoItem at to) = LacksNext text from at to
TellsOfNext text from ItemError.NoMemory = Unit {0}
