-- The parts of an item, found in the text token by token.
use Rattle.std.specs.Prelude.{◌≡◌, ℕ, List, [], ◌∷◌, map, Some}
use Rattle.fzn_lexer.specs.declared.Token.{Token}
use Rattle.fzn_lexer.specs.Lexing.{LexesTo}
use Rattle.fzn_parser.specs.declared.cursor.Symbol.{Symbol}
use Rattle.fzn_parser.specs.declared.cursor.Lexeme.{Lexeme}
use Rattle.fzn_parser.specs.Texts.{lexeme_of}
use Rattle.fzn_parser.specs.Notes.{AnnTree, notes_at}
use Rattle.fzn_parser.specs.Parsing.{max_depth}
use Rattle.fzn_parser.specs.Stream.{GoesOn, IsStretch}

-- from the byte `from` to the byte `to` are tokens that are these lexemes, and none of them is a semicolon
pub record AreLexemes (text : List ℕ) (from to : ℕ) (lexemes : List Lexeme) : Type 0 where
  pub tokens : List Token
  pub lexed : LexesTo text from to tokens
  pub goes : GoesOn text tokens
  pub same : map (lexeme_of text) tokens ≡ lexemes

-- the stretch of tokens from the byte `from` to the byte `to` is these annotations and a semicolon
pub record AreNotes (text : List ℕ) (from to : ℕ) (notes : List AnnTree) : Type 0 where
  pub tokens : List Token
  pub stretch : IsStretch text from to tokens
  pub read : notes_at max_depth (map (lexeme_of text) tokens) ≡ Some (notes, Lexeme.Fixed Symbol.Semicolon ∷ [])
