-- The tokens of a text as lexemes: keywords and marks by their spelling, names and literals by their class.
use Rattle.std.specs.Prelude.{ℕ, List, [], ◌∷◌, length, Bool, false, cond, ◌&&◌, nat_le, slice_range, codes, if◌then◌else◌, Option, Some, None, option_map}
use Rattle.std.specs.Str.{bytes_eq}
use Rattle.fzn_lexer.specs.declared.Token.{Token}
use Rattle.fzn_lexer.specs.declared.Kind.{Kind}
use Rattle.fzn_parser.specs.declared.cursor.Symbol.{Symbol}
use Rattle.fzn_parser.specs.declared.cursor.Class.{Class}
use Rattle.fzn_parser.specs.declared.cursor.Lexeme.{Lexeme}
use Rattle.fzn_parser.specs.Terminals.{same_symbol}

-- the first of the two that is there
abbrev pub first_some : Option Symbol → Option Symbol → Option Symbol
first_some (Some s) o = Some s
first_some None o = o

-- the keywords
abbrev pub type_word : List ℕ → Option Symbol
type_word s =
    if bytes_eq s (codes "predicate") then Some Symbol.Predicate
    else (if bytes_eq s (codes "var") then Some Symbol.Var
    else (if bytes_eq s (codes "array") then Some Symbol.Array
    else (if bytes_eq s (codes "of") then Some Symbol.Of
    else (if bytes_eq s (codes "set") then Some Symbol.Set
    else (if bytes_eq s (codes "bool") then Some Symbol.Bool
    else (if bytes_eq s (codes "int") then Some Symbol.Int
    else (if bytes_eq s (codes "float") then Some Symbol.Float
    else None)))))))

abbrev pub other_word : List ℕ → Option Symbol
other_word s =
    if bytes_eq s (codes "constraint") then Some Symbol.Constraint
    else (if bytes_eq s (codes "solve") then Some Symbol.Solve
    else (if bytes_eq s (codes "satisfy") then Some Symbol.Satisfy
    else (if bytes_eq s (codes "minimize") then Some Symbol.Minimize
    else (if bytes_eq s (codes "maximize") then Some Symbol.Maximize
    else (if bytes_eq s (codes "true") then Some Symbol.True
    else (if bytes_eq s (codes "false") then Some Symbol.False
    else None))))))

unfoldable pub keyword : List ℕ → Option Symbol
keyword s = first_some (type_word s) (other_word s)

-- the marks
abbrev pub bracket : List ℕ → Option Symbol
bracket s =
    if bytes_eq s (codes "(") then Some Symbol.ParenOpen
    else (if bytes_eq s (codes ")") then Some Symbol.ParenClose
    else (if bytes_eq s (codes "[") then Some Symbol.BracketOpen
    else (if bytes_eq s (codes "]") then Some Symbol.BracketClose
    else (if bytes_eq s (codes "{") then Some Symbol.BraceOpen
    else (if bytes_eq s (codes "}") then Some Symbol.BraceClose
    else None)))))

abbrev pub other_mark : List ℕ → Option Symbol
other_mark s =
    if bytes_eq s (codes ",") then Some Symbol.Comma
    else (if bytes_eq s (codes ";") then Some Symbol.Semicolon
    else (if bytes_eq s (codes ":") then Some Symbol.Colon
    else (if bytes_eq s (codes "::") then Some Symbol.DoubleColon
    else (if bytes_eq s (codes "=") then Some Symbol.Equals
    else (if bytes_eq s (codes "..") then Some Symbol.DotDot
    else None)))))

unfoldable pub mark : List ℕ → Option Symbol
mark s = first_some (bracket s) (other_mark s)

-- the bytes at a token's place; none where that is not in the text
unfoldable pub spelling : List ℕ → Token → List ℕ
spelling text t = cond (nat_le t.from t.to && nat_le t.to (length text)) (slice_range text t.from t.to) []

abbrev pub named : Token → Option Symbol → Lexeme
named t (Some s) = Lexeme.Fixed s
named t None = Lexeme.Kept Class.Name t

abbrev pub marked : Option Symbol → Lexeme
marked (Some s) = Lexeme.Fixed s
marked None = Lexeme.Fixed Symbol.Stray

abbrev pub lexeme_by : Kind → List ℕ → Token → Lexeme
lexeme_by Kind.Word s t = named t (keyword s)
lexeme_by Kind.Int s t = Lexeme.Kept Class.Int t
lexeme_by Kind.Float s t = Lexeme.Kept Class.Float t
lexeme_by Kind.Text s t = Lexeme.Kept Class.Text t
lexeme_by Kind.Mark s t = marked (mark s)

-- a token as the grammar sees it
unfoldable pub lexeme_of : List ℕ → Token → Lexeme
lexeme_of text t = lexeme_by t.kind (spelling text t) t

abbrev pub is_symbol : Symbol → Lexeme → Bool
is_symbol s (Lexeme.Fixed r) = same_symbol r s
is_symbol s (Lexeme.Kept c t) = false

-- the token is this keyword or mark
abbrev pub is_at : Symbol → List ℕ → Token → Bool
is_at s text t = is_symbol s (lexeme_of text t)

-- the tokens up to and with the first semicolon, or all
unfoldable pub first_stretch : List ℕ → List Token → List Token
first_stretch text [] = []
first_stretch text (t ∷ ts) = t ∷ cond (is_at Symbol.Semicolon text t) [] (first_stretch text ts)

abbrev pub no_more : List Token → Option (List Token)
no_more [] = Some []
no_more (t ∷ ts) = None

-- the tokens before the semicolon, where it is the last of them
unfoldable pub before_last : List ℕ → List Token → Option (List Token)
before_last text [] = None
before_last text (t ∷ ts) = cond (is_at Symbol.Semicolon text t) (no_more ts) (option_map (λ us. t ∷ us) (before_last text ts))
