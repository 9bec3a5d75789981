-- The tokens that the grammar of FlatZinc (the FlatZinc chapter of the MiniZinc Handbook) writes for an item.
use Rattle.std.specs.Prelude.{◌≡◌, ◌≤◌, ◌+◌, ◌-◌, ℕ, max, List, [], ◌∷◌, ◌++◌, map, false}
use Rattle.fzn_lexer.specs.declared.Token.{Token}
use Rattle.fzn_parser.specs.declared.cursor.Symbol.{Symbol}
use Rattle.fzn_parser.specs.declared.cursor.Lexeme.{Lexeme}
use Rattle.fzn_parser.specs.Items.{WhatTree, predicate_item, scalar_item}
use Rattle.fzn_parser.specs.Texts.{lexeme_of, is_at}
use Rattle.fzn_parser.specs.Grammar.{print_what, HasValue}

-- what the grammar writes for one token: a keyword or a mark by its spelling, or a name or a literal that the item
-- keeps; in a predicate item any token that the item keeps, but for a semicolon
pub data Written : Type 0 where
  seen_as : Lexeme → Written
  any_token : Token → Written

-- the tokens of an item before its semicolon
abbrev pub toks_before : WhatTree → List Written
toks_before (predicate_item kept) = seen_as (Lexeme.Fixed Symbol.Predicate) ∷ map any_token kept
toks_before what = map seen_as (print_what what)

-- the tokens of an item
abbrev pub toks : WhatTree → List Written
toks what = toks_before what ++ seen_as (Lexeme.Fixed Symbol.Semicolon) ∷ []

-- the token of the text is what is written
abbrev pub Matches : List ℕ → Written → Token → Type 0
Matches text (seen_as lexeme) token = lexeme_of text token ≡ lexeme
Matches text (any_token kept) token = (token ≡ kept) × (is_at Symbol.Semicolon text token ≡ false)

-- the tokens are what is written, one by one
abbrev pub MatchesAll : List ℕ → List Written → List Token → Type 0
MatchesAll text [] [] = Unit {0}
MatchesAll text [] (token ∷ tokens) = ⊥
MatchesAll text (written ∷ others) [] = ⊥
MatchesAll text (written ∷ others) (token ∷ tokens) = Matches text written token × MatchesAll text others tokens

-- how many brackets are open behind a symbol, where so many are open before it; braces don't count
abbrev pub open_behind_symbol : ℕ → Symbol → ℕ
open_behind_symbol open_before Symbol.ParenOpen = open_before + 1
open_behind_symbol open_before Symbol.BracketOpen = open_before + 1
open_behind_symbol open_before Symbol.ParenClose = open_before - 1
open_behind_symbol open_before Symbol.BracketClose = open_before - 1
open_behind_symbol open_before other = open_before

abbrev pub open_behind : ℕ → Lexeme → ℕ
open_behind open_before (Lexeme.Fixed symbol) = open_behind_symbol open_before symbol
open_behind open_before (Lexeme.Kept class token) = open_before

-- how many `(` and `[` are open at once in these tokens, at most, where so many are open before them
abbrev pub most_open : ℕ → List Lexeme → ℕ
most_open open_before [] = open_before
most_open open_before (lexeme ∷ lexemes) = max open_before (most_open (open_behind open_before lexeme) lexemes)

-- at most so many brackets are open at once in the item's tokens; in a predicate item they are free
abbrev pub NestsWithin : ℕ → List ℕ → List Token → WhatTree → Type 0
NestsWithin most text tokens (predicate_item kept) = Unit {0}
NestsWithin most text tokens what = most_open 0 (map (lexeme_of text) tokens) ≤ most

-- the grammar writes such an item: only a variable may go without a value
abbrev pub IsOfGrammar : WhatTree → Type 0
IsOfGrammar (scalar_item shape name notes value) = HasValue shape value
IsOfGrammar other = Unit {0}
