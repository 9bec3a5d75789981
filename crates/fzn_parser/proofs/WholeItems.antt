-- Whole reading: what the printer writes for an item is read back.
use Rattle.std.proofs.Common.{◌≡◌, ◌≤◌, ℕ, length, List, [], ◌∷◌, ◌++◌, false, Option, Some, None, refl, ap, ◌∙◌, append_assoc, length-append, arith}
use Rattle.fzn_lexer.specs.declared.Token.{Token}
use Rattle.fzn_parser.specs.declared.cursor.Symbol.{Symbol}
use Rattle.fzn_parser.specs.declared.cursor.Lexeme.{Lexeme}
use Rattle.fzn_parser.specs.declared.tree.SetLit.{SetLit}
use Rattle.fzn_parser.specs.declared.tree.Expr.{Expr}
use Rattle.fzn_parser.specs.declared.tree.Shape.{Shape}
use Rattle.fzn_parser.specs.declared.tree.Aim.{Aim}
use Rattle.fzn_parser.specs.Terminals.{begins, rest, kept_at}
use Rattle.fzn_parser.specs.Reading.{mapped, and_then, after, expr_at, exprs_at}
use Rattle.fzn_parser.specs.Notes.{AnnTree, notes_at}
use Rattle.fzn_parser.specs.Items.{WhatTree, predicate_item, scalar_item, array_item, constraint_item, solve_item, is_var, var_set_at, var_range_at, var_at, param_at, shape_at, value_at, name_at, scalar_at, bounds_at, array_rest, array_at, constraint_at, aim_at, solve_at, what_at}
use Rattle.fzn_parser.specs.Grammar.{separated, print_expr, print_ann, print_notes, print_shape, print_value, print_aim, print_named, print_what, depth_ann, AreShallow, HasValue, IsWritten}
use Rattle.fzn_parser.proofs.Inversions.{got}
use Rattle.fzn_parser.proofs.WholeValues.{Ends, AllOf, set_whole, expr_whole, exprs_whole}
use Rattle.fzn_parser.proofs.WholeNotes.{notes_whole}

shape_whole : (s : Shape) (r : List Lexeme) → shape_at (print_shape s ++ r) ≡ got s r
unfolding shape_at var_at var_set_at var_range_at param_at begins rest kept_at
shape_whole Shape.Bool r = refl
shape_whole Shape.Int r = refl
shape_whole Shape.Float r = refl
shape_whole Shape.SetOfInt r = refl
shape_whole Shape.VarBool r = refl
shape_whole Shape.VarInt r = refl
shape_whole Shape.VarFloat r = refl
shape_whole (Shape.VarIn (SetLit.Range low high)) r = ap (mapped Shape.VarIn) (set_whole (SetLit.Range low high) r)
shape_whole (Shape.VarIn (SetLit.Braces ts)) r = ap (mapped Shape.VarIn) (set_whole (SetLit.Braces ts) r)
shape_whole (Shape.VarFloats low high) r = refl
shape_whole Shape.VarSet r = refl
shape_whole (Shape.VarSetIn (SetLit.Range low high)) r = ap (mapped Shape.VarSetIn) (set_whole (SetLit.Range low high) r)
shape_whole (Shape.VarSetIn (SetLit.Braces ts)) r = ap (mapped Shape.VarSetIn) (set_whole (SetLit.Braces ts) r)

notes_long : (xs : List AnnTree) (r : List Lexeme) → length xs ≤ length (print_notes xs ++ r)
notes_long [] r = omega arith
notes_long (x ∷ xs) r = omega (arith, notes_long xs r, length-append (print_ann x ++ print_notes xs) r, length-append (print_ann x) (print_notes xs), length-append (print_notes xs) r)

shallow : (k : ℕ) (xs : List AnnTree) → AreShallow k xs → AllOf (λ a. depth_ann a ≤ k) xs
shallow k [] p = tt
shallow k (x ∷ xs) p = (p.0, shallow k xs p.1)

notes_all : (k : ℕ) (xs : List AnnTree) (r : List Lexeme) → AreShallow k xs → Ends r → begins Symbol.DoubleColon r ≡ false → notes_at k (print_notes xs ++ r) ≡ got xs r
notes_all k xs r p f g = notes_whole k xs (length (print_notes xs ++ r)) r (notes_long xs r) (shallow k xs p) f g

aim_whole : (a : Aim) (r : List Lexeme) → Ends r → aim_at (print_aim a ++ r) ≡ got a r
unfolding aim_at begins rest
aim_whole Aim.Satisfy r f = refl
aim_whole (Aim.Minimize e) r f = ap (mapped Aim.Minimize) (expr_whole r e tt f)
aim_whole (Aim.Maximize e) r f = ap (mapped Aim.Maximize) (expr_whole r e tt f)

aim_ends : (a : Aim) (r : List Lexeme) → Ends (print_aim a ++ r) × (begins Symbol.DoubleColon (print_aim a ++ r) ≡ false)
unfolding begins
aim_ends Aim.Satisfy r = (record { no_range = refl; no_call = refl }, refl)
aim_ends (Aim.Minimize e) r = (record { no_range = refl; no_call = refl }, refl)
aim_ends (Aim.Maximize e) r = (record { no_range = refl; no_call = refl }, refl)

pub solve_whole : (k : ℕ) (notes : List AnnTree) (a : Aim) (r : List Lexeme) → AreShallow k notes → Ends r → what_at k (print_what (solve_item notes a) ++ r) ≡ got (solve_item notes a) r
unfolding what_at solve_at begins rest
solve_whole k notes a r p f =
    let ends = aim_ends a r in
    ap (λ y. and_then (notes_at k y) (λ ns ms. mapped (λ aim. solve_item ns aim) (aim_at ms))) (append_assoc (print_notes notes) (print_aim a) r)
    ∙ ap (λ o. and_then o (λ ns ms. mapped (λ aim. solve_item ns aim) (aim_at ms))) (notes_all k notes (print_aim a ++ r) p ends.0 ends.1)
    ∙ ap (mapped (λ aim. solve_item notes aim)) (aim_whole a r f)

pub constraint_whole : (k : ℕ) (name : Token) (args : List Expr) (notes : List AnnTree) (r : List Lexeme) → AreShallow k notes → Ends r → begins Symbol.DoubleColon r ≡ false → what_at k (print_what (constraint_item name args notes) ++ r) ≡ got (constraint_item name args notes) r
unfolding what_at constraint_at begins rest kept_at
constraint_whole k name args notes r p f g =
    ap (λ y. and_then (exprs_at y) (λ xs os. mapped (λ ns. constraint_item name xs ns) (notes_at k os))) (append_assoc (separated print_expr args) (Lexeme.Fixed Symbol.ParenClose ∷ print_notes notes) r)
    ∙ ap (λ o. and_then o (λ xs os. mapped (λ ns. constraint_item name xs ns) (notes_at k os))) (exprs_whole args (print_notes notes ++ r))
    ∙ ap (mapped (λ ns. constraint_item name args ns)) (notes_all k notes r p f g)

equals_ends : (r : List Lexeme) → Ends (Lexeme.Fixed Symbol.Equals ∷ r) × (begins Symbol.DoubleColon (Lexeme.Fixed Symbol.Equals ∷ r) ≡ false)
unfolding begins
equals_ends r = (record { no_range = refl; no_call = refl }, refl)

named_whole : (name : Token) (notes : List AnnTree) (q r : List Lexeme) → name_at ((print_named name notes ++ q) ++ r) ≡ got name (print_notes notes ++ (q ++ r))
unfolding name_at begins rest kept_at
named_whole name notes q r = ap (got name) (append_assoc (print_notes notes) q r)

pub array_whole : (k : ℕ) (low high : Token) (s : Shape) (name : Token) (notes : List AnnTree) (e : Expr) (r : List Lexeme) → AreShallow k notes → Ends r → what_at k (print_what (array_item low high s name notes e) ++ r) ≡ got (array_item low high s name notes e) r
unfolding what_at array_at bounds_at array_rest begins rest kept_at
array_whole k low high s name notes e r p f =
    let value = Lexeme.Fixed Symbol.Equals ∷ print_expr e in
    let named = print_named name notes ++ value in
    let ends = equals_ends (print_expr e ++ r) in
    let last = λ (sh : Shape) (n : Token) (ns : List AnnTree) (os : List Lexeme). after Symbol.Equals (λ ps. mapped (λ v. array_item low high sh n ns v) (expr_at ps)) os in
    ap (λ y. and_then (shape_at y) (λ sh ms. and_then (name_at ms) (λ n ns. and_then (notes_at k ns) (λ qs os. last sh n qs os)))) (append_assoc (print_shape s) named r)
    ∙ ap (λ o. and_then o (λ sh ms. and_then (name_at ms) (λ n ns. and_then (notes_at k ns) (λ qs os. last sh n qs os)))) (shape_whole s (named ++ r))
    ∙ ap (λ o. and_then o (λ n ns. and_then (notes_at k ns) (λ qs os. last s n qs os))) (named_whole name notes value r)
    ∙ ap (λ o. and_then o (λ qs os. last s name qs os)) (notes_all k notes (value ++ r) p ends.0 ends.1)
    ∙ ap (mapped (λ v. array_item low high s name notes v)) (expr_whole r e tt f)

shape_first : (s : Shape) (l : List Lexeme) → (begins Symbol.Constraint (print_shape s ++ l) ≡ false) × (begins Symbol.Array (print_shape s ++ l) ≡ false) × (begins Symbol.Solve (print_shape s ++ l) ≡ false)
unfolding begins
shape_first Shape.Bool l = (refl, refl, refl)
shape_first Shape.Int l = (refl, refl, refl)
shape_first Shape.Float l = (refl, refl, refl)
shape_first Shape.SetOfInt l = (refl, refl, refl)
shape_first Shape.VarBool l = (refl, refl, refl)
shape_first Shape.VarInt l = (refl, refl, refl)
shape_first Shape.VarFloat l = (refl, refl, refl)
shape_first (Shape.VarIn s) l = (refl, refl, refl)
shape_first (Shape.VarFloats a b) l = (refl, refl, refl)
shape_first Shape.VarSet l = (refl, refl, refl)
shape_first (Shape.VarSetIn s) l = (refl, refl, refl)

value_ends : (v : Option Expr) (r : List Lexeme) → Ends r → begins Symbol.DoubleColon r ≡ false → Ends (print_value v ++ r) × (begins Symbol.DoubleColon (print_value v ++ r) ≡ false)
unfolding begins
value_ends None r f g = (f, g)
value_ends (Some e) r f g = (record { no_range = refl; no_call = refl }, refl)

value_whole : (s : Shape) (v : Option Expr) (r : List Lexeme) → HasValue s v → Ends r → begins Symbol.Equals r ≡ false → value_at (is_var s) (print_value v ++ r) ≡ got v r
unfolding value_at begins rest
value_whole s None r h f q = rw (q, h)
value_whole s (Some e) r h f q = ap (mapped (λ x. Some x)) (expr_whole r e tt f)

scalar_read : (k : ℕ) (s : Shape) (name : Token) (notes : List AnnTree) (v : Option Expr) (r : List Lexeme) → AreShallow k notes → HasValue s v → Ends r → begins Symbol.DoubleColon r ≡ false → begins Symbol.Equals r ≡ false → scalar_at k (print_what (scalar_item s name notes v) ++ r) ≡ got (scalar_item s name notes v) r
unfolding scalar_at
scalar_read k s name notes v r p h f g q =
    let named = print_named name notes ++ print_value v in
    let ends = value_ends v r f g in
    let last = λ (sh : Shape) (n : Token) (ns : List AnnTree) (os : List Lexeme). mapped (λ x. scalar_item sh n ns x) (value_at (is_var sh) os) in
    ap (λ y. and_then (shape_at y) (λ sh ms. and_then (name_at ms) (λ n ns. and_then (notes_at k ns) (λ qs os. last sh n qs os)))) (append_assoc (print_shape s) named r)
    ∙ ap (λ o. and_then o (λ sh ms. and_then (name_at ms) (λ n ns. and_then (notes_at k ns) (λ qs os. last sh n qs os)))) (shape_whole s (named ++ r))
    ∙ ap (λ o. and_then o (λ n ns. and_then (notes_at k ns) (λ qs os. last s n qs os))) (named_whole name notes (print_value v) r)
    ∙ ap (λ o. and_then o (λ qs os. last s name qs os)) (notes_all k notes (print_value v ++ r) p ends.0 ends.1)
    ∙ ap (mapped (λ x. scalar_item s name notes x)) (value_whole s v r h f q)

is_scalar : (k : ℕ) (ls : List Lexeme) → begins Symbol.Constraint ls ≡ false → begins Symbol.Array ls ≡ false → begins Symbol.Solve ls ≡ false → what_at k ls ≡ scalar_at k ls
unfolding what_at
is_scalar k ls a b c = rw (a, b, c)

scalar_whole : (k : ℕ) (s : Shape) (name : Token) (notes : List AnnTree) (v : Option Expr) (r : List Lexeme) → AreShallow k notes → HasValue s v → Ends r → begins Symbol.DoubleColon r ≡ false → begins Symbol.Equals r ≡ false → what_at k (print_what (scalar_item s name notes v) ++ r) ≡ got (scalar_item s name notes v) r
scalar_whole k s name notes v r p h f g q =
    let named = print_named name notes ++ print_value v in
    let split = append_assoc (print_shape s) named r in
    let first = shape_first s (named ++ r) in
    is_scalar k (print_what (scalar_item s name notes v) ++ r) (ap (begins Symbol.Constraint) split ∙ first.0) (ap (begins Symbol.Array) split ∙ first.1) (ap (begins Symbol.Solve) split ∙ first.2)
    ∙ scalar_read k s name notes v r p h f g q

end_facts : (t : List Lexeme) → Ends (Lexeme.Fixed Symbol.Semicolon ∷ t) × (begins Symbol.DoubleColon (Lexeme.Fixed Symbol.Semicolon ∷ t) ≡ false) × (begins Symbol.Equals (Lexeme.Fixed Symbol.Semicolon ∷ t) ≡ false)
unfolding begins
end_facts t = (record { no_range = refl; no_call = refl }, refl, refl)

pub what_whole : (k : ℕ) (t : List Lexeme) (w : WhatTree) → IsWritten k w → what_at k (print_what w ++ Lexeme.Fixed Symbol.Semicolon ∷ t) ≡ got w (Lexeme.Fixed Symbol.Semicolon ∷ t)
what_whole k t (predicate_item tokens) h = absurd h
what_whole k t (scalar_item s name notes v) h = let e = end_facts t in scalar_whole k s name notes v (Lexeme.Fixed Symbol.Semicolon ∷ t) h.0 h.1 e.0 e.1 e.2
what_whole k t (array_item low high s name notes v) h = let e = end_facts t in array_whole k low high s name notes v (Lexeme.Fixed Symbol.Semicolon ∷ t) h e.0
what_whole k t (constraint_item name args notes) h = let e = end_facts t in constraint_whole k name args notes (Lexeme.Fixed Symbol.Semicolon ∷ t) h e.0 e.1
what_whole k t (solve_item notes a) h = let e = end_facts t in solve_whole k notes a (Lexeme.Fixed Symbol.Semicolon ∷ t) h e.0
