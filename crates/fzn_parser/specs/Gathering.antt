-- The lexemes of a stretch of tokens.
use Rattle.std.specs.Prelude.{◌≡◌, ℕ, List, [], ◌∷◌, map}
use Rattle.fzn_lexer.specs.declared.Token.{Token}
use Rattle.fzn_parser.specs.declared.cursor.Lexeme.{Lexeme}
use Rattle.fzn_parser.specs.declared.stream.Stretch.{Stretch}
use Rattle.fzn_parser.specs.Texts.{lexeme_of}
use Rattle.fzn_parser.specs.Stream.{IsStretch}

-- the first of the tokens, where there is one, begins here
abbrev pub LeadsIn : ℕ → List Token → Type 0
LeadsIn start [] = Unit {0}
LeadsIn start (t ∷ ts) = start ≡ t.from

-- these are the lexemes of the first stretch behind the byte `from`
pub record IsGathered (text : List ℕ) (from : ℕ) (lexemes : List Lexeme) (stretch : Stretch) : Type 0 where
  pub tokens : List Token
  pub is_stretch : IsStretch text from stretch.to tokens
  pub same : lexemes ≡ map (lexeme_of text) tokens
  pub leads : LeadsIn stretch.start tokens
