-- The leaves of an item, in reading order: the names, the integer literals and the lists that it has outside its annotations.
use Rattle.std.specs.Prelude.{List, [], ◌∷◌, ◌++◌, map, flat_map, length, option_to_list}
use Rattle.fzn_parser.specs.declared.tree.SetLit.{SetLit}
use Rattle.fzn_parser.specs.declared.tree.Elem.{Elem}
use Rattle.fzn_parser.specs.declared.tree.Expr.{Expr}
use Rattle.fzn_parser.specs.declared.tree.Shape.{Shape}
use Rattle.fzn_parser.specs.declared.tree.Aim.{Aim}
use Rattle.fzn_parser.specs.Items.{WhatTree, predicate_item, scalar_item, array_item, constraint_item, solve_item}
use Rattle.fzn_model.specs.declared.leaves.Leaf.{Leaf}

abbrev pub set_leaves : SetLit → List Leaf
set_leaves (SetLit.Range low high) = Leaf.Number low ∷ Leaf.Number high ∷ []
set_leaves (SetLit.Braces values) = Leaf.Entries (length values) ∷ map Leaf.Number values

abbrev pub elem_leaves : Elem → List Leaf
elem_leaves (Elem.Int t) = Leaf.Number t ∷ []
elem_leaves (Elem.Name t) = Leaf.Used t ∷ []
elem_leaves (Elem.Set s) = set_leaves s
elem_leaves _ = []

abbrev pub expr_leaves : Expr → List Leaf
expr_leaves (Expr.One e) = elem_leaves e
expr_leaves (Expr.Row es) = Leaf.Entries (length es) ∷ flat_map elem_leaves es

abbrev pub type_leaves : Shape → List Leaf
type_leaves (Shape.VarIn s) = set_leaves s
type_leaves (Shape.VarSetIn s) = set_leaves s
type_leaves _ = []

abbrev pub aim_leaves : Aim → List Leaf
aim_leaves Aim.Satisfy = []
aim_leaves (Aim.Minimize e) = expr_leaves e
aim_leaves (Aim.Maximize e) = expr_leaves e

-- the leaves of an item
abbrev pub leaves : WhatTree → List Leaf
leaves (predicate_item tokens) = []
leaves (scalar_item shape name notes value) = type_leaves shape ++ Leaf.Declared name ∷ flat_map expr_leaves (option_to_list value)
leaves (array_item low high shape name notes value) = Leaf.Number low ∷ Leaf.Number high ∷ (type_leaves shape ++ Leaf.Declared name ∷ expr_leaves value)
leaves (constraint_item name args notes) = Leaf.Constrained name ∷ flat_map expr_leaves args
leaves (solve_item notes aim) = aim_leaves aim
