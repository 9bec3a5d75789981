-- Annotations as trees, and how they are read.
use Rattle.std.specs.Prelude.{ℕ, zero, suc, List, [], ◌∷◌, length, cond, Option, Some, None}
use Rattle.fzn_lexer.specs.declared.Token.{Token}
use Rattle.fzn_parser.specs.declared.cursor.Symbol.{Symbol}
use Rattle.fzn_parser.specs.declared.cursor.Class.{Class}
use Rattle.fzn_parser.specs.declared.cursor.Lexeme.{Lexeme}
use Rattle.fzn_parser.specs.declared.tree.SetLit.{SetLit}
use Rattle.fzn_parser.specs.declared.tree.Elem.{Elem}
use Rattle.fzn_parser.specs.declared.tree.Ann.{Ann}
use Rattle.fzn_parser.specs.declared.tree.Arg.{Arg}
use Rattle.fzn_parser.specs.declared.tree.Arg.TheOpen.{Arg-F, Ann-F}
use Rattle.fzn_parser.specs.declared.tree.Arg.TheFolds.{fold-Arg, fold-Ann}
use Rattle.fzn_parser.specs.Terminals.{Read, begins, rest, kept_at}
use Rattle.fzn_parser.specs.Reading.{mapped, or_else, and_then, list_until, elem_at}

mutual
  -- an argument of an annotation
  pub data ArgTree : Type 0 where
    note_arg : AnnTree → ArgTree
    true_arg : ArgTree
    false_arg : ArgTree
    int_arg : Token → ArgTree
    float_arg : Token → ArgTree
    text_arg : Token → ArgTree
    set_arg : SetLit → ArgTree
    row_arg : ArgTrees → ArgTree

  -- an annotation: a name alone, or with arguments
  pub data AnnTree : Type 0 where
    bare : Token → AnnTree
    called : Token → ArgTrees → AnnTree

  -- arguments in order
  pub data ArgTrees : Type 0 where
    no_args : ArgTrees
    more_args : ArgTree → ArgTrees → ArgTrees

abbrev pub args_of : List ArgTree → ArgTrees
args_of [] = no_args
args_of (a ∷ rest) = more_args a (args_of rest)

abbrev pub note_of : Token → Option (List ArgTree) → AnnTree
note_of name None = bare name
note_of name (Some args) = called name (args_of args)

-- one level of the program's values, with the trees of what they hold
abbrev pub arg_step : Arg-F ArgTree AnnTree → ArgTree
arg_step (Arg-F.Ann a) = note_arg a
arg_step Arg-F.True = true_arg
arg_step Arg-F.False = false_arg
arg_step (Arg-F.Int t) = int_arg t
arg_step (Arg-F.Float t) = float_arg t
arg_step (Arg-F.Text t) = text_arg t
arg_step (Arg-F.Set s) = set_arg s
arg_step (Arg-F.Row v) = row_arg (args_of v.items)

abbrev pub note_step : Ann-F ArgTree AnnTree → AnnTree
note_step a = elim (a.args) [ None ↦ bare a.name | Some v ↦ called a.name (args_of v.items) ]

-- the tree of an argument and of an annotation
abbrev pub arg_tree : Arg → ArgTree
arg_tree = fold-Arg ArgTree AnnTree arg_step note_step

abbrev pub ann_tree : Ann → AnnTree
ann_tree = fold-Ann ArgTree AnnTree arg_step note_step

abbrev pub choose : {A B : Type 0} → Option (A × List Lexeme) → (A → List Lexeme → Option (B × List Lexeme)) → Option (B × List Lexeme) → Option (B × List Lexeme)
choose (Some p) f o = f p.0 p.1
choose None f o = o

-- an expression's element as an argument
abbrev pub arg_of_elem : Elem → ArgTree
arg_of_elem Elem.True = true_arg
arg_of_elem Elem.False = false_arg
arg_of_elem (Elem.Int t) = int_arg t
arg_of_elem (Elem.Float t) = float_arg t
arg_of_elem (Elem.Name t) = note_arg (bare t)
arg_of_elem (Elem.Set s) = set_arg s

-- an annotation by its name and what is read behind that: arguments in parentheses, or nothing
unfoldable pub called_with : Read (List ArgTree) → Token → Read AnnTree
called_with parens name ls = cond (begins Symbol.ParenOpen ls)
    (mapped (λ args. called name (args_of args)) (parens (rest ls)))
    (Some (bare name, ls))

unfoldable pub arg_with : Read (List ArgTree) → Read (List ArgTree) → Read ArgTree
arg_with parens brackets ls = cond (begins Symbol.BracketOpen ls)
    (mapped (λ args. row_arg (args_of args)) (brackets (rest ls)))
    (or_else (mapped text_arg (kept_at Class.Text ls))
    (choose (kept_at Class.Name ls) (λ name ms. mapped note_arg (called_with parens name ms))
    (mapped arg_of_elem (elem_at ls))))

-- arguments behind their opening bracket, up to the closing one; the number bounds the brackets that may be open here
unfoldable pub args_at : ℕ → Symbol → Read (List ArgTree)
args_at zero close ls = None
args_at (suc k) close ls = list_until close (arg_with (λ ms. args_at k Symbol.ParenClose ms) (λ ms. args_at k Symbol.BracketClose ms)) ls

abbrev pub arg_at : ℕ → Read ArgTree
arg_at k ls = arg_with (λ ms. args_at k Symbol.ParenClose ms) (λ ms. args_at k Symbol.BracketClose ms) ls

abbrev pub called_at : ℕ → Token → Read AnnTree
called_at k name ls = called_with (λ ms. args_at k Symbol.ParenClose ms) name ls

-- annotations; the first number bounds the brackets, the second the annotations
unfoldable pub notes_more : ℕ → ℕ → Read (List AnnTree)
notes_more k zero ls = Some ([], ls)
notes_more k (suc n) ls = cond (begins Symbol.DoubleColon ls)
    (and_then (kept_at Class.Name (rest ls)) (λ name ms. and_then (called_at k name ms) (λ note ns. mapped (λ notes. note ∷ notes) (notes_more k n ns))))
    (Some ([], ls))

abbrev pub notes_at : ℕ → Read (List AnnTree)
notes_at k ls = notes_more k (length ls) ls
