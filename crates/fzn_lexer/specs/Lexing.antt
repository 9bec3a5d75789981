-- The tokens of a text by longest match, and where a text has none.
use Rattle.std.specs.Prelude.{◌≡◌, ◌<◌, ◌≤◌, ◌+◌, ℕ, List, [], ◌∷◌, ◌++◌, length, drop, slice_range, Option, Some, None}
use Rattle.fzn_lexer.specs.Spelling.{Spells, SpellsToken}
use Rattle.fzn_lexer.specs.declared.PieceKind.{PieceKind}
use Rattle.fzn_lexer.specs.declared.PieceKind.TheVariants as piece_kind
use Rattle.fzn_lexer.specs.declared.Token.{Token}
use Rattle.fzn_lexer.specs.declared.LexError.{LexError}
use Rattle.fzn_lexer.specs.declared.LexError.TheVariants.{Lex, NoMemory}

-- a token, a blank or a comment, with its bytes
pub record Piece : Type 0 where
  pub kind : PieceKind
  pub bytes : List ℕ

-- the piece spells what its kind says, and no longer prefix of the text spells any piece
pub record IsLongest (p : Piece) (text : List ℕ) : Type 0 where
  pub spells : Spells p.kind p.bytes
  pub longest : (kind : PieceKind) (prefix after : List ℕ) → text ≡ prefix ++ after → Spells kind prefix
      → length prefix ≤ length p.bytes

-- the text is these pieces one behind the other and then `rest`, and each piece is the longest in what remains
abbrev pub CutsInto : List Piece → List ℕ → List ℕ → Type 0
CutsInto [] rest text = text ≡ rest
CutsInto (p ∷ ps) rest text = (after : List ℕ) × (text ≡ p.bytes ++ after) × IsLongest p text × CutsInto ps rest after

-- the piece as a token, where it is one, at these places
abbrev pub token_of : PieceKind → ℕ → ℕ → List Token
token_of (piece_kind.Token kind) from to = record { kind = kind; from = from; to = to } ∷ []
token_of piece_kind.Blank from to = []
token_of piece_kind.Comment from to = []

-- those pieces that are tokens, with their places, where the first piece begins at `at`
abbrev pub tokens_from : ℕ → List Piece → List Token
tokens_from at [] = []
tokens_from at (p ∷ ps) = token_of p.kind at (at + length p.bytes) ++ tokens_from (at + length p.bytes) ps

-- the text is cut whole, and the tokens are those pieces that are tokens, with their places
pub record LexesAs (text : List ℕ) (tokens : List Token) : Type 0 where
  pub pieces : List Piece
  pub cut : CutsInto pieces [] text
  pub placed : tokens ≡ tokens_from 0 pieces

-- the text is cut up to `at`, before its end, and from there no prefix spells a piece
pub record FaultsAt (text : List ℕ) (at : ℕ) : Type 0 where
  pub pieces : List Piece
  pub cut : CutsInto pieces (drop at text) text
  pub inside : at < length text
  pub no_piece : (kind : PieceKind) (prefix after : List ℕ) → drop at text ≡ prefix ++ after → Spells kind prefix → ⊥

-- why `lex` may answer this error: `at` is the text's fault; memory may be refused at any time
abbrev pub IsCause : List ℕ → LexError → Type 0
IsCause text (Lex at) = FaultsAt text at
IsCause text NoMemory = Unit {0}

-- the token has its place in the text, and the bytes there spell a token of its kind
pub record LiesIn (text : List ℕ) (token : Token) : Type 0 where
  pub some : token.from < token.to
  pub inside : token.to ≤ length text
  pub spells : SpellsToken token.kind (slice_range text token.from token.to)

-- each token begins at `at` or behind it, and where or behind where the one before it ends
abbrev pub RiseFrom : ℕ → List Token → Type 0
RiseFrom at [] = Unit {0}
RiseFrom at (t ∷ ts) = (at ≤ t.from) × RiseFrom t.to ts

-- from the byte `from` to the byte `to` the text is cut into pieces, each the longest in what remains, and the tokens are
-- those pieces that are tokens, with their places
pub record LexesTo (text : List ℕ) (from to : ℕ) (tokens : List Token) : Type 0 where
  pub rises : from ≤ to
  pub inside : to ≤ length text
  pub pieces : List Piece
  pub cut : CutsInto pieces (drop to text) (drop from text)
  pub placed : tokens ≡ tokens_from from pieces

-- at this byte, before the text's end, no prefix of what remains spells a piece
pub record LacksPiece (text : List ℕ) (at : ℕ) : Type 0 where
  pub inside : at < length text
  pub no_piece : (kind : PieceKind) (prefix after : List ℕ) → drop at text ≡ prefix ++ after → Spells kind prefix → ⊥

-- the first token behind `from`, where there is one
abbrev pub IsNext : List ℕ → ℕ → Option Token → Type 0
IsNext text from (Some token) = (from < token.to) × LexesTo text from token.to (token ∷ [])
IsNext text from None = LexesTo text from (length text) []

-- behind `from` are no tokens up to `at`, where no piece begins
abbrev pub LacksToken : List ℕ → ℕ → ℕ → Type 0
LacksToken text from at = LexesTo text from at [] × LacksPiece text at
