-- What the printer writes closes each bracket that it opens, and has no semicolon before its end.
use Rattle.std.proofs.Common.{◌≡◌, ◌≤◌, ◌+◌, ◌-◌, ℕ, max, List, [], ◌∷◌, ◌++◌, false, Option, Some, None, refl, ap, ◌∙◌, append_assoc, arith, subst}
use Rattle.fzn_lexer.specs.declared.Token.{Token}
use Rattle.fzn_parser.specs.declared.cursor.Symbol.{Symbol}
use Rattle.fzn_parser.specs.declared.cursor.Class.{Class}
use Rattle.fzn_parser.specs.declared.cursor.Lexeme.{Lexeme}
use Rattle.fzn_parser.specs.declared.tree.SetLit.{SetLit}
use Rattle.fzn_parser.specs.declared.tree.Elem.{Elem}
use Rattle.fzn_parser.specs.declared.tree.Expr.{Expr}
use Rattle.fzn_parser.specs.declared.tree.Shape.{Shape}
use Rattle.fzn_parser.specs.declared.tree.Aim.{Aim}
use Rattle.fzn_parser.specs.Texts.{is_symbol}
use Rattle.fzn_parser.specs.Notes.{ArgTree, note_arg, true_arg, false_arg, int_arg, float_arg, text_arg, set_arg, row_arg, AnnTree, bare, called, ArgTrees, no_args, more_args}
use Rattle.fzn_parser.specs.Items.{WhatTree, predicate_item, scalar_item, array_item, constraint_item, solve_item}
use Rattle.fzn_parser.specs.Grammar.{further, separated, print_int, print_set, print_elem, print_expr, print_arg, print_ann, print_args, print_further, print_notes, print_shape, print_value, print_aim, print_named, print_what, depth_arg, depth_ann, depth_args, AreShallow, IsWritten}
use Rattle.fzn_parser.specs.Printer.{open_behind, most_open, IsOfGrammar}

-- no semicolon is among these
abbrev pub HasNoEnd : List Lexeme → Type 0
HasNoEnd [] = Unit {0}
HasNoEnd (l ∷ ls) = (is_symbol Symbol.Semicolon l ≡ false) × HasNoEnd ls

-- so many brackets are opened at once, all are closed, and no semicolon stands here
pub record Block (depth : ℕ) (ls : List Lexeme) : Type 0 where
  pub peak : (n : ℕ) (r : List Lexeme) → most_open n (ls ++ r) ≡ max (n + depth) (most_open n r)
  pub plain : HasNoEnd ls

open_below : (n : ℕ) (r : List Lexeme) → n ≤ most_open n r
open_below n [] = omega arith
open_below n (l ∷ r) = omega arith

no_end_both : (p q : List Lexeme) → HasNoEnd p → HasNoEnd q → HasNoEnd (p ++ q)
no_end_both [] q a b = b
no_end_both (l ∷ p) q a b = (a.0, no_end_both p q a.1 b)

block_same : (d e : ℕ) (ls : List Lexeme) → d ≡ e → Block d ls → Block e ls
block_same d e ls h b = let B : ℕ → Type 0 = λ k. Block k ls in subst B h b

max_none : (n x : ℕ) → n ≤ x → x ≡ max (n + 0) x
max_none n x h = omega arith

block_none : Block 0 []
block_none = record { peak = λ n r. max_none n (most_open n r) (open_below n r); plain = tt }

max_both : (n d e x : ℕ) → max (n + d) (max (n + e) x) ≡ max (n + max d e) x
max_both n d e x = omega arith

block_both : (d e : ℕ) (p q : List Lexeme) → Block d p → Block e q → Block (max d e) (p ++ q)
block_both d e p q a b = record {
  peak = λ n r. ap (most_open n) (append_assoc p q r) ∙ a.peak n (q ++ r) ∙ ap (max (n + d)) (b.peak n r) ∙ max_both n d e (most_open n r);
  plain = no_end_both p q a.plain b.plain;
}

-- neither a bracket nor a semicolon
record IsPlain (l : Lexeme) : Type 0 where
  same : (n : ℕ) → open_behind n l ≡ n
  no_end : is_symbol Symbol.Semicolon l ≡ false

max_behind : (n d x : ℕ) → max n (max (n + d) x) ≡ max (n + d) x
max_behind n d x = omega arith

block_behind : (l : Lexeme) (d : ℕ) (ls : List Lexeme) → IsPlain l → Block d ls → Block d (l ∷ ls)
block_behind l d ls p b = record {
  peak = λ n r. ap (λ m. max n (most_open m (ls ++ r))) (p.same n) ∙ ap (max n) (b.peak n r) ∙ max_behind n d (most_open n r);
  plain = (p.no_end, b.plain);
}

-- an opening bracket and its closing one
record IsPair (opening close : Symbol) : Type 0 where
  up : (n : ℕ) → open_behind n (Lexeme.Fixed opening) ≡ n + 1
  down : (n : ℕ) → open_behind (n + 1) (Lexeme.Fixed close) ≡ n
  no_end : is_symbol Symbol.Semicolon (Lexeme.Fixed opening) ≡ false
  no_end_close : is_symbol Symbol.Semicolon (Lexeme.Fixed close) ≡ false

less_one : (n : ℕ) → (n + 1) - 1 ≡ n
less_one n = omega arith

parens : IsPair Symbol.ParenOpen Symbol.ParenClose
parens = record { up = λ n. refl; down = less_one; no_end = refl; no_end_close = refl }

brackets : IsPair Symbol.BracketOpen Symbol.BracketClose
brackets = record { up = λ n. refl; down = less_one; no_end = refl; no_end_close = refl }

max_around : (n d e x : ℕ) → max n (max ((n + 1) + d) (max (n + 1) (max (n + e) x))) ≡ max (n + max (1 + d) e) x
max_around n d e x = omega arith

block_around : (opening close : Symbol) (d e : ℕ) (p q : List Lexeme) → IsPair opening close → Block d p → Block e q → Block (max (1 + d) e) (Lexeme.Fixed opening ∷ (p ++ Lexeme.Fixed close ∷ q))
block_around opening close d e p q pair a b = record {
  peak = λ n r. ap (λ m. max n (most_open m ((p ++ Lexeme.Fixed close ∷ q) ++ r))) (pair.up n)
      ∙ ap (λ z. max n (most_open (n + 1) z)) (append_assoc p (Lexeme.Fixed close ∷ q) r)
      ∙ ap (max n) (a.peak (n + 1) (Lexeme.Fixed close ∷ (q ++ r)))
      ∙ ap (λ m. max n (max ((n + 1) + d) (max (n + 1) (most_open m (q ++ r))))) (pair.down n)
      ∙ ap (λ y. max n (max ((n + 1) + d) (max (n + 1) y))) (b.peak n r)
      ∙ max_around n d e (most_open n r);
  plain = (pair.no_end, no_end_both p (Lexeme.Fixed close ∷ q) a.plain (pair.no_end_close, b.plain));
}

max_closed : (d : ℕ) → max (1 + d) 0 ≡ 1 + d
max_closed d = omega arith

block_closed : (opening close : Symbol) (d : ℕ) (p : List Lexeme) → IsPair opening close → Block d p → Block (1 + d) (Lexeme.Fixed opening ∷ (p ++ Lexeme.Fixed close ∷ []))
block_closed opening close d p pair a = block_same _ _ _ (max_closed d) (block_around opening close d 0 p [] pair a block_none)

fixed_plain : (s : Symbol) → ((n : ℕ) → open_behind n (Lexeme.Fixed s) ≡ n) → is_symbol Symbol.Semicolon (Lexeme.Fixed s) ≡ false → IsPlain (Lexeme.Fixed s)
fixed_plain s e f = record { same = e; no_end = f }

kept_plain : (c : Class) (t : Token) → IsPlain (Lexeme.Kept c t)
kept_plain c t = record { same = λ n. refl; no_end = refl }

-- the greatest of these numbers of a list's entries
abbrev pub widest : {A : Type 0} → (A → ℕ) → List A → ℕ
widest f [] = 0
widest f (x ∷ xs) = max (f x) (widest f xs)

abbrev none : {A : Type 0} → A → ℕ
none x = 0

widest_none : {A : Type 0} (xs : List A) → widest none xs ≡ 0
widest_none [] = refl
widest_none (x ∷ xs) = omega (arith, widest_none xs)

further_block : {A : Type 0} (print : A → List Lexeme) (f : A → ℕ) → ((x : A) → Block (f x) (print x)) → (xs : List A) → Block (widest f xs) (further print xs)
further_block print f each [] = block_none
further_block print f each (x ∷ xs) = block_behind (Lexeme.Fixed Symbol.Comma) _ _ (fixed_plain Symbol.Comma (λ n. refl) refl) (block_both (f x) (widest f xs) (print x) (further print xs) (each x) (further_block print f each xs))

separated_block : {A : Type 0} (print : A → List Lexeme) (f : A → ℕ) → ((x : A) → Block (f x) (print x)) → (xs : List A) → Block (widest f xs) (separated print xs)
separated_block print f each [] = block_none
separated_block print f each (x ∷ xs) = block_both (f x) (widest f xs) (print x) (further print xs) (each x) (further_block print f each xs)

kept_block : (c : Class) (t : Token) → Block 0 (Lexeme.Kept c t ∷ [])
kept_block c t = block_behind (Lexeme.Kept c t) 0 [] (kept_plain c t) block_none

range_block : (c : Class) (low high : Token) → Block 0 (Lexeme.Kept c low ∷ Lexeme.Fixed Symbol.DotDot ∷ Lexeme.Kept c high ∷ [])
range_block c low high = block_behind (Lexeme.Kept c low) 0 _ (kept_plain c low) (block_behind (Lexeme.Fixed Symbol.DotDot) 0 _ (fixed_plain Symbol.DotDot (λ n. refl) refl) (kept_block c high))

fixed_block : (s : Symbol) → IsPlain (Lexeme.Fixed s) → Block 0 (Lexeme.Fixed s ∷ [])
fixed_block s p = block_behind (Lexeme.Fixed s) 0 [] p block_none

max_zero : (w : ℕ) → w ≡ 0 → max w 0 ≡ 0
max_zero w h = omega arith

set_block : (s : SetLit) → Block 0 (print_set s)
set_block (SetLit.Range low high) = range_block Class.Int low high
set_block (SetLit.Braces values) = block_behind (Lexeme.Fixed Symbol.BraceOpen) 0 _ (fixed_plain Symbol.BraceOpen (λ n. refl) refl)
    (block_same _ 0 _ (max_zero (widest none values) (widest_none values)) (block_both (widest none values) 0 (separated print_int values) (Lexeme.Fixed Symbol.BraceClose ∷ []) (separated_block print_int none (λ t. kept_block Class.Int t) values) (fixed_block Symbol.BraceClose (fixed_plain Symbol.BraceClose (λ n. refl) refl))))

elem_block : (x : Elem) → Block 0 (print_elem x)
elem_block Elem.True = fixed_block Symbol.True (fixed_plain Symbol.True (λ n. refl) refl)
elem_block Elem.False = fixed_block Symbol.False (fixed_plain Symbol.False (λ n. refl) refl)
elem_block (Elem.Int t) = kept_block Class.Int t
elem_block (Elem.Float t) = kept_block Class.Float t
elem_block (Elem.Name t) = kept_block Class.Name t
elem_block (Elem.Set s) = set_block s

abbrev depth_expr : Expr → ℕ
depth_expr (Expr.One x) = 0
depth_expr (Expr.Row xs) = 1

one_more : (w : ℕ) → w ≡ 0 → 1 + w ≡ 1
one_more w h = omega arith

expr_block : (x : Expr) → Block (depth_expr x) (print_expr x)
expr_block (Expr.One x) = elem_block x
expr_block (Expr.Row xs) = block_same _ 1 _ (one_more (widest none xs) (widest_none xs)) (block_closed Symbol.BracketOpen Symbol.BracketClose (widest none xs) (separated print_elem xs) brackets (separated_block print_elem none elem_block xs))

mutual
  arg_block : (a : ArgTree) → Block (depth_arg a) (print_arg a)
  arg_block (note_arg a) = ann_block a
  arg_block true_arg = fixed_block Symbol.True (fixed_plain Symbol.True (λ n. refl) refl)
  arg_block false_arg = fixed_block Symbol.False (fixed_plain Symbol.False (λ n. refl) refl)
  arg_block (int_arg t) = kept_block Class.Int t
  arg_block (float_arg t) = kept_block Class.Float t
  arg_block (text_arg t) = kept_block Class.Text t
  arg_block (set_arg s) = set_block s
  arg_block (row_arg args) = block_closed Symbol.BracketOpen Symbol.BracketClose (depth_args args) (print_args args) brackets (args_block args)

  ann_block : (a : AnnTree) → Block (depth_ann a) (print_ann a)
  ann_block (bare name) = kept_block Class.Name name
  ann_block (called name args) = block_behind (Lexeme.Kept Class.Name name) _ _ (kept_plain Class.Name name) (block_closed Symbol.ParenOpen Symbol.ParenClose (depth_args args) (print_args args) parens (args_block args))

  args_block : (args : ArgTrees) → Block (depth_args args) (print_args args)
  args_block no_args = block_none
  args_block (more_args a rest) = block_both (depth_arg a) (depth_args rest) (print_arg a) (print_further rest) (arg_block a) (behind_block rest)

  behind_block : (args : ArgTrees) → Block (depth_args args) (print_further args)
  behind_block no_args = block_none
  behind_block (more_args a rest) = block_behind (Lexeme.Fixed Symbol.Comma) _ _ (fixed_plain Symbol.Comma (λ n. refl) refl) (block_both (depth_arg a) (depth_args rest) (print_arg a) (print_further rest) (arg_block a) (behind_block rest))

notes_block : (xs : List AnnTree) → Block (widest depth_ann xs) (print_notes xs)
notes_block [] = block_none
notes_block (x ∷ xs) = block_behind (Lexeme.Fixed Symbol.DoubleColon) _ _ (fixed_plain Symbol.DoubleColon (λ n. refl) refl) (block_both (depth_ann x) (widest depth_ann xs) (print_ann x) (print_notes xs) (ann_block x) (notes_block xs))

-- behind these keywords
abbrev word : (s : Symbol) (d : ℕ) (ls : List Lexeme) → ((n : ℕ) → open_behind n (Lexeme.Fixed s) ≡ n) → is_symbol Symbol.Semicolon (Lexeme.Fixed s) ≡ false → Block d ls → Block d (Lexeme.Fixed s ∷ ls)
word s d ls e f b = block_behind (Lexeme.Fixed s) d ls (fixed_plain s e f) b

shape_block : (s : Shape) → Block 0 (print_shape s)
shape_block Shape.Bool = word Symbol.Bool 0 [] (λ n. refl) refl block_none
shape_block Shape.Int = word Symbol.Int 0 [] (λ n. refl) refl block_none
shape_block Shape.Float = word Symbol.Float 0 [] (λ n. refl) refl block_none
shape_block Shape.SetOfInt = word Symbol.Set 0 _ (λ n. refl) refl (word Symbol.Of 0 _ (λ n. refl) refl (word Symbol.Int 0 [] (λ n. refl) refl block_none))
shape_block Shape.VarBool = word Symbol.Var 0 _ (λ n. refl) refl (word Symbol.Bool 0 [] (λ n. refl) refl block_none)
shape_block Shape.VarInt = word Symbol.Var 0 _ (λ n. refl) refl (word Symbol.Int 0 [] (λ n. refl) refl block_none)
shape_block Shape.VarFloat = word Symbol.Var 0 _ (λ n. refl) refl (word Symbol.Float 0 [] (λ n. refl) refl block_none)
shape_block (Shape.VarIn s) = word Symbol.Var 0 _ (λ n. refl) refl (set_block s)
shape_block (Shape.VarFloats low high) = word Symbol.Var 0 _ (λ n. refl) refl (range_block Class.Float low high)
shape_block Shape.VarSet = word Symbol.Var 0 _ (λ n. refl) refl (word Symbol.Set 0 _ (λ n. refl) refl (word Symbol.Of 0 _ (λ n. refl) refl (word Symbol.Int 0 [] (λ n. refl) refl block_none)))
shape_block (Shape.VarSetIn s) = word Symbol.Var 0 _ (λ n. refl) refl (word Symbol.Set 0 _ (λ n. refl) refl (word Symbol.Of 0 _ (λ n. refl) refl (set_block s)))

abbrev depth_value : Option Expr → ℕ
depth_value None = 0
depth_value (Some x) = depth_expr x

value_block : (v : Option Expr) → Block (depth_value v) (print_value v)
value_block None = block_none
value_block (Some x) = word Symbol.Equals (depth_expr x) _ (λ n. refl) refl (expr_block x)

abbrev depth_aim : Aim → ℕ
depth_aim Aim.Satisfy = 0
depth_aim (Aim.Minimize x) = depth_expr x
depth_aim (Aim.Maximize x) = depth_expr x

aim_block : (a : Aim) → Block (depth_aim a) (print_aim a)
aim_block Aim.Satisfy = word Symbol.Satisfy 0 [] (λ n. refl) refl block_none
aim_block (Aim.Minimize x) = word Symbol.Minimize (depth_expr x) _ (λ n. refl) refl (expr_block x)
aim_block (Aim.Maximize x) = word Symbol.Maximize (depth_expr x) _ (λ n. refl) refl (expr_block x)

named_block : (name : Token) (notes : List AnnTree) → Block (widest depth_ann notes) (print_named name notes)
named_block name notes = word Symbol.Colon _ _ (λ n. refl) refl (block_behind (Lexeme.Kept Class.Name name) _ _ (kept_plain Class.Name name) (notes_block notes))

-- how many brackets are open at once in an item
abbrev pub depth_what : WhatTree → ℕ
depth_what (predicate_item kept) = 0
depth_what (scalar_item shape name notes value) = max 0 (max (widest depth_ann notes) (depth_value value))
depth_what (array_item low high shape name notes value) = max (1 + 0) (max 0 (max (widest depth_ann notes) (depth_expr value)))
depth_what (constraint_item name args notes) = max (1 + widest depth_expr args) (widest depth_ann notes)
depth_what (solve_item notes aim) = max (widest depth_ann notes) (depth_aim aim)

pub what_block : (w : WhatTree) → Block (depth_what w) (print_what w)
what_block (predicate_item kept) = block_none
what_block (scalar_item shape name notes value) = block_both 0 _ (print_shape shape) _ (shape_block shape) (block_both _ _ (print_named name notes) (print_value value) (named_block name notes) (value_block value))
what_block (array_item low high shape name notes value) =
    word Symbol.Array _ _ (λ n. refl) refl (block_around Symbol.BracketOpen Symbol.BracketClose 0 _ (Lexeme.Kept Class.Int low ∷ Lexeme.Fixed Symbol.DotDot ∷ Lexeme.Kept Class.Int high ∷ []) _ brackets (range_block Class.Int low high)
    (word Symbol.Of _ _ (λ n. refl) refl (block_both 0 _ (print_shape shape) _ (shape_block shape) (block_both _ _ (print_named name notes) _ (named_block name notes) (word Symbol.Equals _ _ (λ n. refl) refl (expr_block value))))))
what_block (constraint_item name args notes) =
    word Symbol.Constraint _ _ (λ n. refl) refl (block_behind (Lexeme.Kept Class.Name name) _ _ (kept_plain Class.Name name) (block_around Symbol.ParenOpen Symbol.ParenClose _ _ (separated print_expr args) (print_notes notes) parens (separated_block print_expr depth_expr expr_block args) (notes_block notes)))
what_block (solve_item notes aim) = word Symbol.Solve _ _ (λ n. refl) refl (block_both _ _ (print_notes notes) (print_aim aim) (notes_block notes) (aim_block aim))

max_end : (d : ℕ) → max (0 + d) (max 0 0) ≡ d
max_end d = omega arith

-- the brackets open in the tokens are those open in the tree
pub nests_as_tree : (w : WhatTree) → most_open 0 (print_what w ++ Lexeme.Fixed Symbol.Semicolon ∷ []) ≡ depth_what w
nests_as_tree w = let b = what_block w in b.peak 0 (Lexeme.Fixed Symbol.Semicolon ∷ []) ∙ max_end (depth_what w)

shallow_widest : (k : ℕ) (xs : List AnnTree) → AreShallow k xs → widest depth_ann xs ≤ k
shallow_widest k [] p = omega arith
shallow_widest k (x ∷ xs) p = omega (arith, p.0, shallow_widest k xs p.1)

widest_shallow : (k : ℕ) (xs : List AnnTree) → widest depth_ann xs ≤ k → AreShallow k xs
widest_shallow k [] h = tt
widest_shallow k (x ∷ xs) h = (omega arith, widest_shallow k xs (omega arith))

expr_flat : (x : Expr) → depth_expr x ≤ 1
expr_flat (Expr.One x) = omega arith
expr_flat (Expr.Row xs) = omega arith

exprs_flat : (xs : List Expr) → widest depth_expr xs ≤ 1
exprs_flat [] = omega arith
exprs_flat (x ∷ xs) = omega (arith, expr_flat x, exprs_flat xs)

value_flat : (v : Option Expr) → depth_value v ≤ 1
value_flat None = omega arith
value_flat (Some x) = expr_flat x

aim_flat : (a : Aim) → depth_aim a ≤ 1
aim_flat Aim.Satisfy = omega arith
aim_flat (Aim.Minimize x) = expr_flat x
aim_flat (Aim.Maximize x) = expr_flat x

-- an item that the grammar writes, of no predicate, within the brackets that may be open
pub written_nests : (k : ℕ) (w : WhatTree) → 2 ≤ k → IsWritten k w → (depth_what w ≤ k) × IsOfGrammar w
written_nests k (predicate_item kept) h p = absurd p
written_nests k (scalar_item shape name notes value) h p = (omega (arith, shallow_widest k notes p.0, value_flat value), p.1)
written_nests k (array_item low high shape name notes value) h p = (omega (arith, shallow_widest k notes p, expr_flat value), tt)
written_nests k (constraint_item name args notes) h p = (omega (arith, shallow_widest k notes p, exprs_flat args), tt)
written_nests k (solve_item notes aim) h p = (omega (arith, shallow_widest k notes p, aim_flat aim), tt)

-- an item of no predicate
abbrev pub IsOther : WhatTree → Type 0
IsOther (predicate_item kept) = ⊥
IsOther other = Unit {0}

pub nests_written : (k : ℕ) (w : WhatTree) → IsOther w → depth_what w ≤ k → IsOfGrammar w → IsWritten k w
nests_written k (predicate_item kept) o h p = absurd o
nests_written k (scalar_item shape name notes value) o h p = (widest_shallow k notes (omega arith), p)
nests_written k (array_item low high shape name notes value) o h p = widest_shallow k notes (omega arith)
nests_written k (constraint_item name args notes) o h p = widest_shallow k notes (omega arith)
nests_written k (solve_item notes aim) o h p = widest_shallow k notes (omega arith)
