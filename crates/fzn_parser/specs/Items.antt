-- Items as trees, and how they are read.
use Rattle.std.specs.Prelude.{ℕ, List, [], ◌∷◌, map, Bool, true, false, cond, Option, Some, None, option_and_then}
use Rattle.fzn_lexer.specs.declared.Token.{Token}
use Rattle.fzn_parser.specs.declared.cursor.Symbol.{Symbol}
use Rattle.fzn_parser.specs.declared.cursor.Class.{Class}
use Rattle.fzn_parser.specs.declared.cursor.Lexeme.{Lexeme}
use Rattle.fzn_parser.specs.declared.tree.Expr.{Expr}
use Rattle.fzn_parser.specs.declared.tree.Shape.{Shape}
use Rattle.fzn_parser.specs.declared.tree.Aim.{Aim}
use Rattle.fzn_parser.specs.declared.tree.What.{What}
use Rattle.fzn_parser.specs.Terminals.{Read, begins, rest, kept_at}
use Rattle.fzn_parser.specs.Reading.{mapped, and_then, after, int_at, set_at, expr_at, exprs_at}
use Rattle.fzn_parser.specs.Notes.{AnnTree, ann_tree, choose, notes_at}

-- an item, with its annotations as trees
pub data WhatTree : Type 0 where
  predicate_item : List Token → WhatTree
  scalar_item : Shape → Token → List AnnTree → Option Expr → WhatTree
  array_item : Token → Token → Shape → Token → List AnnTree → Expr → WhatTree
  constraint_item : Token → List Expr → List AnnTree → WhatTree
  solve_item : List AnnTree → Aim → WhatTree

abbrev pub what_tree : What → WhatTree
what_tree (What.Predicate tokens) = predicate_item tokens
what_tree (What.Scalar shape name anns value) = scalar_item shape name (map ann_tree anns.items) value
what_tree (What.Array low high shape name anns value) = array_item low high shape name (map ann_tree anns.items) value
what_tree (What.Constraint name args anns) = constraint_item name args (map ann_tree anns.items)
what_tree (What.Solve anns aim) = solve_item (map ann_tree anns.items) aim

-- a variable's type, which may go without a value
abbrev pub is_var : Shape → Bool
is_var Shape.Bool = false
is_var Shape.Int = false
is_var Shape.Float = false
is_var Shape.SetOfInt = false
is_var Shape.VarBool = true
is_var Shape.VarInt = true
is_var Shape.VarFloat = true
is_var (Shape.VarIn s) = true
is_var (Shape.VarFloats a b) = true
is_var Shape.VarSet = true
is_var (Shape.VarSetIn s) = true

unfoldable pub var_set_at : Read Shape
var_set_at ls = after Symbol.Of (λ ms. cond (begins Symbol.Int ms) (Some (Shape.VarSet, rest ms)) (mapped Shape.VarSetIn (set_at ms))) ls

unfoldable pub var_range_at : Read Shape
var_range_at ls = choose (kept_at Class.Float ls) (λ low ms. after Symbol.DotDot (λ ns. mapped (Shape.VarFloats low) (kept_at Class.Float ns)) ms) (mapped Shape.VarIn (set_at ls))

unfoldable pub var_at : Read Shape
var_at ls = cond (begins Symbol.Bool ls) (Some (Shape.VarBool, rest ls))
    (cond (begins Symbol.Int ls) (Some (Shape.VarInt, rest ls))
    (cond (begins Symbol.Float ls) (Some (Shape.VarFloat, rest ls))
    (cond (begins Symbol.Set ls) (var_set_at (rest ls)) (var_range_at ls))))

unfoldable pub param_at : Read Shape
param_at ls = cond (begins Symbol.Bool ls) (Some (Shape.Bool, rest ls))
    (cond (begins Symbol.Int ls) (Some (Shape.Int, rest ls))
    (cond (begins Symbol.Float ls) (Some (Shape.Float, rest ls))
    (after Symbol.Set (λ ms. after Symbol.Of (λ ns. after Symbol.Int (λ os. Some (Shape.SetOfInt, os)) ns) ms) ls)))

unfoldable pub shape_at : Read Shape
shape_at ls = cond (begins Symbol.Var ls) (var_at (rest ls)) (param_at ls)

-- a value, which only a variable may lack
unfoldable pub value_at : Bool → Read (Option Expr)
value_at may_lack ls = cond (begins Symbol.Equals ls) (mapped (λ e. Some e) (expr_at (rest ls))) (cond may_lack (Some (None, ls)) None)

unfoldable pub name_at : Read Token
name_at ls = after Symbol.Colon (λ ms. kept_at Class.Name ms) ls

unfoldable pub scalar_at : ℕ → Read WhatTree
scalar_at k ls = and_then (shape_at ls) (λ shape ms. and_then (name_at ms) (λ name ns. and_then (notes_at k ns) (λ notes os.
    mapped (λ value. scalar_item shape name notes value) (value_at (is_var shape) os))))

-- an array's index set in brackets, and `of`
unfoldable pub bounds_at : Read (Token × Token)
bounds_at ls = after Symbol.BracketOpen (λ ms. and_then (int_at ms) (λ low ns. after Symbol.DotDot (λ os. and_then (int_at os) (λ high ps.
    after Symbol.BracketClose (λ qs. after Symbol.Of (λ rs. Some ((low, high), rs)) qs) ps)) ns)) ls

unfoldable pub array_rest : ℕ → Token → Token → Read WhatTree
array_rest k low high ls = and_then (shape_at ls) (λ shape ms. and_then (name_at ms) (λ name ns. and_then (notes_at k ns) (λ notes os.
    after Symbol.Equals (λ ps. mapped (λ value. array_item low high shape name notes value) (expr_at ps)) os)))

unfoldable pub array_at : ℕ → Read WhatTree
array_at k ls = and_then (bounds_at ls) (λ bounds ms. array_rest k bounds.0 bounds.1 ms)

unfoldable pub constraint_at : ℕ → Read WhatTree
constraint_at k ls = and_then (kept_at Class.Name ls) (λ name ms. after Symbol.ParenOpen (λ ns. and_then (exprs_at ns) (λ args os.
    mapped (λ notes. constraint_item name args notes) (notes_at k os))) ms)

unfoldable pub aim_at : Read Aim
aim_at ls = cond (begins Symbol.Satisfy ls) (Some (Aim.Satisfy, rest ls))
    (cond (begins Symbol.Minimize ls) (mapped Aim.Minimize (expr_at (rest ls)))
    (after Symbol.Maximize (λ ms. mapped Aim.Maximize (expr_at ms)) ls))

unfoldable pub solve_at : ℕ → Read WhatTree
solve_at k ls = and_then (notes_at k ls) (λ notes ms. mapped (λ aim. solve_item notes aim) (aim_at ms))

-- an item that is no predicate, up to its semicolon
unfoldable pub what_at : ℕ → Read WhatTree
what_at k ls = cond (begins Symbol.Constraint ls) (constraint_at k (rest ls))
    (cond (begins Symbol.Array ls) (array_at k (rest ls))
    (cond (begins Symbol.Solve ls) (solve_at k (rest ls)) (scalar_at k ls)))

abbrev pub is_end : List Lexeme → Bool
is_end [] = true
is_end (l ∷ ls) = false

abbrev pub if_end : WhatTree → List Lexeme → Option WhatTree
if_end what ls = cond (begins Symbol.Semicolon ls) (cond (is_end (rest ls)) (Some what) None) None

-- these lexemes, read whole as an item that is no predicate
unfoldable pub whole_at : ℕ → List Lexeme → Option WhatTree
whole_at k ls = option_and_then (λ p. if_end p.0 p.1) (what_at k ls)
