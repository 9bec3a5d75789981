-- The items of a text, and where a text has none.
use Rattle.std.specs.Prelude.{◌≡◌, ℕ, List, [], ◌∷◌, ◌++◌}
use Rattle.fzn_lexer.specs.declared.Token.{Token}
use Rattle.fzn_parser.specs.declared.tree.Item.{Item}
use Rattle.fzn_parser.specs.declared.ParseError.{ParseError}
use Rattle.fzn_parser.specs.Items.{WhatTree, what_tree}
use Rattle.fzn_parser.specs.Texts.{first_stretch}
use Rattle.fzn_parser.specs.Printer.{toks, MatchesAll, NestsWithin, IsOfGrammar}

-- an item with its place, its annotations as trees
pub record ItemTree : Type 0 where
  pub from : ℕ
  pub what : WhatTree

abbrev pub item_tree : Item → ItemTree
item_tree item = record { from = item.from; what = what_tree item.what }

abbrev pub placed : Token → WhatTree → ItemTree
placed first what = record { from = first.from; what = what }

abbrev pub placed_at : ℕ → WhatTree → ItemTree
placed_at from what = record { from = from; what = what }

-- so many `(` and `[` may be open at once in an item
abbrev pub max_depth : ℕ
max_depth = 64

-- the first of the tokens begins at the byte `at`
abbrev pub BeginsAt : ℕ → List Token → Type 0
BeginsAt at [] = ⊥
BeginsAt at (first ∷ more) = at ≡ first.from

-- the tokens read as the item: they are what the grammar writes for it, and the first of them begins where the item does
pub record ReadsAsItem (text : List ℕ) (tokens : List Token) (item : ItemTree) : Type 0 where
  pub of_grammar : IsOfGrammar item.what
  pub written : MatchesAll text (toks item.what) tokens
  pub nested : NestsWithin max_depth text tokens item.what
  pub place : BeginsAt item.from tokens

-- the tokens read as these items: they are the tokens of the first, then those of the second, and so on
abbrev pub ReadsAs : List ℕ → List Token → List ItemTree → Type 0
ReadsAs text tokens [] = tokens ≡ []
ReadsAs text tokens (item ∷ items) = (front : List Token) × (more : List Token) × (tokens ≡ front ++ more)
    × ReadsAsItem text front item × ReadsAs text more items

-- after some items the stretch of tokens that begins at the byte `at`, up to and with its semicolon or to the end,
-- reads as no item
pub record FaultsAt (text : List ℕ) (tokens : List Token) (at : ℕ) : Type 0 where
  pub front : List Token
  pub first : Token
  pub more : List Token
  pub cut : tokens ≡ front ++ first ∷ more
  pub items : List ItemTree
  pub before : ReadsAs text front items
  pub place : at ≡ first.from
  pub refused : (item : ItemTree) → ReadsAsItem text (first_stretch text (first ∷ more)) item → ⊥

-- why `parse` may answer this error; memory may be refused at any time
abbrev pub IsCause : List ℕ → List Token → ParseError → Type 0
IsCause text tokens (ParseError.Syntax at) = FaultsAt text tokens at
IsCause text tokens ParseError.NoMemory = Unit {0}
