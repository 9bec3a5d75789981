-- The trees of annotations, level by level.
use Rattle.std.proofs.Common.{◌≡◌, false, ℕ, zero, suc, ◌-◌, ◌<◌, List, [], ◌∷◌, ◌++◌, map, Some, None, Vec, refl, sym, ap, ◌∙◌, arith}
use Rattle.fzn_parser.specs.declared.cursor.Symbol.{Symbol}
use Rattle.fzn_parser.specs.declared.cursor.Lexeme.{Lexeme}
use Rattle.fzn_parser.specs.declared.cursor.Class.{Class}
use Rattle.fzn_parser.specs.Terminals.{begins, kept_at}
use Rattle.fzn_parser.specs.Reading.{list_until}
use Rattle.fzn_lexer.specs.declared.Token.{Token}
use Rattle.fzn_parser.specs.declared.tree.Ann.{Ann}
use Rattle.fzn_parser.specs.declared.tree.Arg.{Arg}
use Rattle.fzn_parser.specs.declared.tree.Arg.TheViews as arg
use Rattle.fzn_parser.specs.declared.tree.Arg.TheOpen.{Arg-F}
use Rattle.fzn_parser.specs.declared.tree.Arg.TheFolds.{fold-roll-Arg}
use Rattle.fzn_parser.specs.declared.tree.Arg.TheViews.{the_lemmas}
use Rattle.std.specs.declared.alloc.Global.{Global}
use Rattle.fzn_parser.specs.Notes.{arg_with, called_at, ArgTree, AnnTree, arg_step, note_step, arg_tree, ann_tree, args_of, note_arg, row_arg, args_at, arg_at}

pub view-Row : (v : Vec Arg Global) → arg_tree (arg.Row v) ≡ row_arg (args_of (map arg_tree v.items))
view-Row v = ap arg_tree (sym (arg.rolls-Row v)) ∙ fold-roll-Arg ArgTree AnnTree arg_step note_step (Arg-F.Row v)

pub view-Ann : (a : Ann) → arg_tree (arg.Ann a) ≡ note_arg (ann_tree a)
view-Ann a = ap arg_tree (sym (arg.rolls-Ann a)) ∙ fold-roll-Arg ArgTree AnnTree arg_step note_step (Arg-F.Ann a)

pub ruleset tree_views = (view-Row, view-Ann)

at_some : (k : ℕ) (close : Symbol) (ls : List Lexeme) → args_at (suc k) close ls ≡ list_until close (arg_at k) ls
unfolding args_at
at_some k close ls = refl

pub args_is : (depth : ℕ) → 0 < depth → (close : Symbol) (ls : List Lexeme) → args_at depth close ls ≡ list_until close (arg_at (depth - 1)) ls
args_is zero h close ls = absurd (omega arith)
args_is (suc k) h close ls =
    let e : suc k - 1 ≡ k = omega arith in
    at_some k close ls ∙ ap (λ d. list_until close (arg_at d) ls) (sym e)

pub map_push : {A B : Type 0} (f : A → B) (xs : List A) (x : A) → map f (xs ++ x ∷ []) ≡ map f xs ++ f x ∷ []
map_push f [] x = refl
map_push f (y ∷ xs) x = ap (λ ys. f y ∷ ys) (map_push f xs x)

pub read_note : (k : ℕ) (ls ms ns : List Lexeme) (name : Token) (note : AnnTree) → begins Symbol.BracketOpen ls ≡ false → kept_at Class.Text ls ≡ None → kept_at Class.Name ls ≡ Some (name, ms) → called_at k name ms ≡ Some (note, ns) → arg_at k ls ≡ Some (note_arg note, ns)
unfolding arg_with
read_note k ls ms ns name note e f g h = rw (e, f, g, h)
