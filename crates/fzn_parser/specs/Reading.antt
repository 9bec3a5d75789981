-- What is read of a list of lexemes, part by part of the grammar, and what is left of the list.
use Rattle.std.specs.Prelude.{ℕ, zero, suc, List, [], ◌∷◌, length, Bool, true, false, cond, Option, Some, None, option_map, option_and_then}
use Rattle.fzn_lexer.specs.declared.Token.{Token}
use Rattle.fzn_parser.specs.declared.cursor.Symbol.{Symbol}
use Rattle.fzn_parser.specs.declared.cursor.Class.{Class}
use Rattle.fzn_parser.specs.declared.cursor.Lexeme.{Lexeme}
use Rattle.fzn_parser.specs.declared.tree.SetLit.{SetLit}
use Rattle.fzn_parser.specs.declared.tree.Elem.{Elem}
use Rattle.fzn_parser.specs.declared.tree.Expr.{Expr}
use Rattle.fzn_parser.specs.Terminals.{Read, begins, rest, kept_at}

abbrev pub mapped : {A B : Type 0} → (A → B) → Option (A × List Lexeme) → Option (B × List Lexeme)
mapped f o = option_map (λ p. (f p.0, p.1)) o

abbrev pub or_else : {X : Type 0} → Option X → Option X → Option X
or_else (Some x) o = Some x
or_else None o = o

abbrev pub and_then : {A B : Type 0} → Option (A × List Lexeme) → (A → List Lexeme → Option (B × List Lexeme)) → Option (B × List Lexeme)
and_then o f = option_and_then (λ p. f p.0 p.1) o

-- this symbol, and what `read` reads behind it
abbrev pub after : {A : Type 0} → Symbol → Read A → Read A
after s read ls = cond (begins s ls) (read (rest ls)) None

-- what follows an entry of a list: a comma (true), or the closing bracket
unfoldable pub separator_at : Symbol → Read Bool
separator_at close ls = cond (begins Symbol.Comma ls) (Some (true, rest ls)) (cond (begins close ls) (Some (false, rest ls)) None)

-- one entry or more, with commas between, and the closing bracket; the number bounds the entries
unfoldable pub more_until : {A : Type 0} → Symbol → Read A → ℕ → Read (List A)
more_until close read zero ls = None
more_until close read (suc n) ls =
    and_then (read ls) (λ x ms. and_then (separator_at close ms) (λ goes ns. cond goes (mapped (λ xs. x ∷ xs) (more_until close read n ns)) (Some (x ∷ [], ns))))

-- no entry or some, with commas between, and the closing bracket
unfoldable pub list_until : {A : Type 0} → Symbol → Read A → Read (List A)
list_until close read ls = cond (begins close ls) (Some ([], rest ls)) (more_until close read (length ls) ls)

abbrev pub int_at : Read Token
int_at ls = kept_at Class.Int ls

abbrev pub ints_at : Read (List Token)
ints_at ls = list_until Symbol.BraceClose int_at ls

unfoldable pub set_at : Read SetLit
set_at ls = cond (begins Symbol.BraceOpen ls)
    (mapped SetLit.Braces (ints_at (rest ls)))
    (and_then (int_at ls) (λ low ms. after Symbol.DotDot (λ ns. mapped (SetLit.Range low) (int_at ns)) ms))

-- an integer, or the set that begins with it
unfoldable pub from_int : Token → Read Elem
from_int low ls = cond (begins Symbol.DotDot ls)
    (mapped (λ high. Elem.Set (SetLit.Range low high)) (int_at (rest ls)))
    (Some (Elem.Int low, ls))

unfoldable pub number_at : Read Elem
number_at ls = or_else (mapped Elem.Float (kept_at Class.Float ls)) (and_then (int_at ls) from_int)

unfoldable pub elem_at : Read Elem
elem_at ls = cond (begins Symbol.True ls) (Some (Elem.True, rest ls))
    (cond (begins Symbol.False ls) (Some (Elem.False, rest ls))
    (cond (begins Symbol.BraceOpen ls) (mapped (λ vs. Elem.Set (SetLit.Braces vs)) (ints_at (rest ls)))
    (or_else (mapped Elem.Name (kept_at Class.Name ls)) (number_at ls))))

abbrev pub elems_at : Read (List Elem)
elems_at ls = list_until Symbol.BracketClose elem_at ls

unfoldable pub expr_at : Read Expr
expr_at ls = cond (begins Symbol.BracketOpen ls) (mapped Expr.Row (elems_at (rest ls))) (mapped Expr.One (elem_at ls))

abbrev pub exprs_at : Read (List Expr)
exprs_at ls = list_until Symbol.ParenClose expr_at ls
