-- What the grammar of FlatZinc (the FlatZinc chapter of the MiniZinc Handbook) writes for an item: a printer.
use Rattle.std.specs.Prelude.{◌≡◌, ◌≤◌, ◌+◌, ℕ, max, List, [], ◌∷◌, ◌++◌, true, Option, Some, None}
use Rattle.fzn_lexer.specs.declared.Token.{Token}
use Rattle.fzn_parser.specs.declared.cursor.Symbol.{Symbol}
use Rattle.fzn_parser.specs.declared.cursor.Class.{Class}
use Rattle.fzn_parser.specs.declared.cursor.Lexeme.{Lexeme}
use Rattle.fzn_parser.specs.declared.tree.SetLit.{SetLit}
use Rattle.fzn_parser.specs.declared.tree.Elem.{Elem}
use Rattle.fzn_parser.specs.declared.tree.Expr.{Expr}
use Rattle.fzn_parser.specs.declared.tree.Shape.{Shape}
use Rattle.fzn_parser.specs.declared.tree.Aim.{Aim}
use Rattle.fzn_parser.specs.Notes.{ArgTree, note_arg, true_arg, false_arg, int_arg, float_arg, text_arg, set_arg, row_arg, AnnTree, bare, called, ArgTrees, no_args, more_args}
use Rattle.fzn_parser.specs.Items.{WhatTree, predicate_item, scalar_item, array_item, constraint_item, solve_item, is_var}

-- each entry behind a comma
abbrev pub further : {A : Type 0} → (A → List Lexeme) → List A → List Lexeme
further print [] = []
further print (x ∷ xs) = Lexeme.Fixed Symbol.Comma ∷ (print x ++ further print xs)

-- the entries with commas between
abbrev pub separated : {A : Type 0} → (A → List Lexeme) → List A → List Lexeme
separated print [] = []
separated print (x ∷ xs) = print x ++ further print xs

abbrev pub print_int : Token → List Lexeme
print_int t = Lexeme.Kept Class.Int t ∷ []

-- `low..high`, or integers in braces
abbrev pub print_set : SetLit → List Lexeme
print_set (SetLit.Range low high) =
    Lexeme.Kept Class.Int low ∷ Lexeme.Fixed Symbol.DotDot ∷ Lexeme.Kept Class.Int high ∷ []
print_set (SetLit.Braces values) =
    Lexeme.Fixed Symbol.BraceOpen ∷ (separated print_int values ++ Lexeme.Fixed Symbol.BraceClose ∷ [])

-- `true`, `false`, a literal, a name or a set
abbrev pub print_elem : Elem → List Lexeme
print_elem Elem.True = Lexeme.Fixed Symbol.True ∷ []
print_elem Elem.False = Lexeme.Fixed Symbol.False ∷ []
print_elem (Elem.Int t) = Lexeme.Kept Class.Int t ∷ []
print_elem (Elem.Float t) = Lexeme.Kept Class.Float t ∷ []
print_elem (Elem.Name t) = Lexeme.Kept Class.Name t ∷ []
print_elem (Elem.Set s) = print_set s

-- an element, or elements in square brackets
abbrev pub print_expr : Expr → List Lexeme
print_expr (Expr.One e) = print_elem e
print_expr (Expr.Row es) =
    Lexeme.Fixed Symbol.BracketOpen ∷ (separated print_elem es ++ Lexeme.Fixed Symbol.BracketClose ∷ [])

-- an annotation is a name, or a name with arguments in parentheses; an argument is an annotation, `true`, `false`, a
-- literal, a set, or arguments in square brackets
abbrev mutual
  pub print_arg : ArgTree → List Lexeme
  print_arg (note_arg a) = print_ann a
  print_arg true_arg = Lexeme.Fixed Symbol.True ∷ []
  print_arg false_arg = Lexeme.Fixed Symbol.False ∷ []
  print_arg (int_arg t) = Lexeme.Kept Class.Int t ∷ []
  print_arg (float_arg t) = Lexeme.Kept Class.Float t ∷ []
  print_arg (text_arg t) = Lexeme.Kept Class.Text t ∷ []
  print_arg (set_arg s) = print_set s
  print_arg (row_arg args) = Lexeme.Fixed Symbol.BracketOpen ∷ (print_args args ++ Lexeme.Fixed Symbol.BracketClose ∷ [])

  pub print_ann : AnnTree → List Lexeme
  print_ann (bare name) = Lexeme.Kept Class.Name name ∷ []
  print_ann (called name args) =
      Lexeme.Kept Class.Name name ∷ Lexeme.Fixed Symbol.ParenOpen ∷ (print_args args ++ Lexeme.Fixed Symbol.ParenClose ∷ [])

  pub print_args : ArgTrees → List Lexeme
  print_args no_args = []
  print_args (more_args a rest) = print_arg a ++ print_further rest

  pub print_further : ArgTrees → List Lexeme
  print_further no_args = []
  print_further (more_args a rest) = Lexeme.Fixed Symbol.Comma ∷ (print_arg a ++ print_further rest)

-- each annotation behind `::`
abbrev pub print_notes : List AnnTree → List Lexeme
print_notes [] = []
print_notes (a ∷ rest) = Lexeme.Fixed Symbol.DoubleColon ∷ (print_ann a ++ print_notes rest)

-- how many brackets are open at once in an argument, an annotation and a list of arguments, at most
abbrev mutual
  pub depth_arg : ArgTree → ℕ
  depth_arg (note_arg a) = depth_ann a
  depth_arg true_arg = 0
  depth_arg false_arg = 0
  depth_arg (int_arg t) = 0
  depth_arg (float_arg t) = 0
  depth_arg (text_arg t) = 0
  depth_arg (set_arg s) = 0
  depth_arg (row_arg args) = 1 + depth_args args

  pub depth_ann : AnnTree → ℕ
  depth_ann (bare name) = 0
  depth_ann (called name args) = 1 + depth_args args

  pub depth_args : ArgTrees → ℕ
  depth_args no_args = 0
  depth_args (more_args a rest) = max (depth_arg a) (depth_args rest)

-- a declared type: of a parameter, or behind `var` of a variable
abbrev pub print_shape : Shape → List Lexeme
print_shape Shape.Bool = Lexeme.Fixed Symbol.Bool ∷ []
print_shape Shape.Int = Lexeme.Fixed Symbol.Int ∷ []
print_shape Shape.Float = Lexeme.Fixed Symbol.Float ∷ []
print_shape Shape.SetOfInt = Lexeme.Fixed Symbol.Set ∷ Lexeme.Fixed Symbol.Of ∷ Lexeme.Fixed Symbol.Int ∷ []
print_shape Shape.VarBool = Lexeme.Fixed Symbol.Var ∷ Lexeme.Fixed Symbol.Bool ∷ []
print_shape Shape.VarInt = Lexeme.Fixed Symbol.Var ∷ Lexeme.Fixed Symbol.Int ∷ []
print_shape Shape.VarFloat = Lexeme.Fixed Symbol.Var ∷ Lexeme.Fixed Symbol.Float ∷ []
print_shape (Shape.VarIn s) = Lexeme.Fixed Symbol.Var ∷ print_set s
print_shape (Shape.VarFloats low high) =
    Lexeme.Fixed Symbol.Var ∷ Lexeme.Kept Class.Float low ∷ Lexeme.Fixed Symbol.DotDot ∷ Lexeme.Kept Class.Float high ∷ []
print_shape Shape.VarSet =
    Lexeme.Fixed Symbol.Var ∷ Lexeme.Fixed Symbol.Set ∷ Lexeme.Fixed Symbol.Of ∷ Lexeme.Fixed Symbol.Int ∷ []
print_shape (Shape.VarSetIn s) = Lexeme.Fixed Symbol.Var ∷ Lexeme.Fixed Symbol.Set ∷ Lexeme.Fixed Symbol.Of ∷ print_set s

-- `=` and an expression, or nothing
abbrev pub print_value : Option Expr → List Lexeme
print_value None = []
print_value (Some e) = Lexeme.Fixed Symbol.Equals ∷ print_expr e

-- `satisfy`, or `minimize` or `maximize` and an expression
abbrev pub print_aim : Aim → List Lexeme
print_aim Aim.Satisfy = Lexeme.Fixed Symbol.Satisfy ∷ []
print_aim (Aim.Minimize e) = Lexeme.Fixed Symbol.Minimize ∷ print_expr e
print_aim (Aim.Maximize e) = Lexeme.Fixed Symbol.Maximize ∷ print_expr e

-- the name and the annotations of a declaration
abbrev pub print_named : Token → List AnnTree → List Lexeme
print_named name notes = Lexeme.Fixed Symbol.Colon ∷ Lexeme.Kept Class.Name name ∷ print_notes notes

-- an item but its semicolon; a predicate item keeps its tokens as they are, and `toks` writes it
abbrev pub print_what : WhatTree → List Lexeme
print_what (predicate_item tokens) = []
print_what (scalar_item shape name notes value) = print_shape shape ++ (print_named name notes ++ print_value value)
print_what (array_item low high shape name notes value) =
    Lexeme.Fixed Symbol.Array ∷ Lexeme.Fixed Symbol.BracketOpen
    ∷ Lexeme.Kept Class.Int low ∷ Lexeme.Fixed Symbol.DotDot ∷ Lexeme.Kept Class.Int high
    ∷ Lexeme.Fixed Symbol.BracketClose ∷ Lexeme.Fixed Symbol.Of
    ∷ (print_shape shape ++ (print_named name notes ++ (Lexeme.Fixed Symbol.Equals ∷ print_expr value)))
print_what (constraint_item name args notes) =
    Lexeme.Fixed Symbol.Constraint ∷ Lexeme.Kept Class.Name name
    ∷ Lexeme.Fixed Symbol.ParenOpen ∷ (separated print_expr args ++ (Lexeme.Fixed Symbol.ParenClose ∷ print_notes notes))
print_what (solve_item notes aim) = Lexeme.Fixed Symbol.Solve ∷ (print_notes notes ++ print_aim aim)

-- in none of these annotations are more than so many brackets open at once
abbrev pub AreShallow : ℕ → List AnnTree → Type 0
AreShallow depth [] = Unit {0}
AreShallow depth (a ∷ rest) = (depth_ann a ≤ depth) × AreShallow depth rest

-- only a variable may go without a value
abbrev pub HasValue : Shape → Option Expr → Type 0
HasValue shape None = is_var shape ≡ true
HasValue shape (Some e) = Unit {0}

-- the grammar writes such an item, no predicate, with so many brackets open at once at most
abbrev pub IsWritten : ℕ → WhatTree → Type 0
IsWritten depth (predicate_item tokens) = ⊥
IsWritten depth (scalar_item shape name notes value) = AreShallow depth notes × HasValue shape value
IsWritten depth (array_item low high shape name notes value) = AreShallow depth notes
IsWritten depth (constraint_item name args notes) = AreShallow depth notes
IsWritten depth (solve_item notes aim) = AreShallow depth notes
