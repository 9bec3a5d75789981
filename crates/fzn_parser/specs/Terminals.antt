-- The terminals of the grammar as lists of lexemes.
use Rattle.std.specs.Prelude.{ℕ, List, [], ◌∷◌, Bool, false, cond, nat_eq, Option, Some, None}
use Rattle.fzn_lexer.specs.declared.Token.{Token}
use Rattle.fzn_parser.specs.declared.cursor.Symbol.{Symbol}
use Rattle.fzn_parser.specs.declared.cursor.Class.{Class}
use Rattle.fzn_parser.specs.declared.cursor.Lexeme.{Lexeme}

-- each symbol has a number of its own
abbrev pub symbol_code : Symbol → ℕ
symbol_code Symbol.Predicate = 0
symbol_code Symbol.Var = 1
symbol_code Symbol.Array = 2
symbol_code Symbol.Of = 3
symbol_code Symbol.Set = 4
symbol_code Symbol.Bool = 5
symbol_code Symbol.Int = 6
symbol_code Symbol.Float = 7
symbol_code Symbol.Constraint = 8
symbol_code Symbol.Solve = 9
symbol_code Symbol.Satisfy = 10
symbol_code Symbol.Minimize = 11
symbol_code Symbol.Maximize = 12
symbol_code Symbol.True = 13
symbol_code Symbol.False = 14
symbol_code Symbol.ParenOpen = 15
symbol_code Symbol.ParenClose = 16
symbol_code Symbol.BracketOpen = 17
symbol_code Symbol.BracketClose = 18
symbol_code Symbol.BraceOpen = 19
symbol_code Symbol.BraceClose = 20
symbol_code Symbol.Comma = 21
symbol_code Symbol.Semicolon = 22
symbol_code Symbol.Colon = 23
symbol_code Symbol.DoubleColon = 24
symbol_code Symbol.Equals = 25
symbol_code Symbol.DotDot = 26
symbol_code Symbol.Stray = 27

abbrev pub class_code : Class → ℕ
class_code Class.Name = 0
class_code Class.Int = 1
class_code Class.Float = 2
class_code Class.Text = 3

abbrev pub same_symbol : Symbol → Symbol → Bool
same_symbol a b = nat_eq (symbol_code a) (symbol_code b)

abbrev pub same_class : Class → Class → Bool
same_class a b = nat_eq (class_code a) (class_code b)

-- what is read of a list of lexemes, with the rest of the list
abbrev pub Read : Type 0 → Type 0
Read A = List Lexeme → Option (A × List Lexeme)

-- the list begins with this symbol
unfoldable pub begins : Symbol → List Lexeme → Bool
begins s [] = false
begins s (Lexeme.Fixed t ∷ ls) = same_symbol t s
begins s (Lexeme.Kept c t ∷ ls) = false

-- all but the first
unfoldable pub rest : List Lexeme → List Lexeme
rest [] = []
rest (l ∷ ls) = ls

-- the token that the list begins with, where it is of this class
unfoldable pub kept_at : Class → Read Token
kept_at c [] = None
kept_at c (Lexeme.Fixed s ∷ ls) = None
kept_at c (Lexeme.Kept d t ∷ ls) = cond (same_class d c) (Some (t, ls)) None
