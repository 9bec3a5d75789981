-- What is read keeps within the brackets that may be open, and only a variable is read without a value.
use Rattle.std.proofs.Common.{◌≡◌, ◌≤◌, ◌+◌, ℕ, zero, suc, length, List, [], ◌∷◌, Option, Some, None, arith, subst}
use Rattle.fzn_lexer.specs.declared.Token.{Token}
use Rattle.fzn_parser.specs.declared.cursor.Symbol.{Symbol}
use Rattle.fzn_parser.specs.declared.cursor.Class.{Class}
use Rattle.fzn_parser.specs.declared.cursor.Lexeme.{Lexeme}
use Rattle.fzn_parser.specs.declared.tree.Elem.{Elem}
use Rattle.fzn_parser.specs.declared.tree.Expr.{Expr}
use Rattle.fzn_parser.specs.declared.tree.Shape.{Shape}
use Rattle.fzn_parser.specs.Terminals.{Read, begins, rest, kept_at}
use Rattle.fzn_parser.specs.Reading.{mapped, and_then, separator_at, more_until, list_until, elem_at, expr_at, exprs_at}
use Rattle.fzn_parser.specs.Notes.{ArgTree, note_arg, text_arg, row_arg, AnnTree, bare, called, args_of, arg_of_elem, called_with, arg_with, args_at, arg_at, called_at, choose, notes_more, notes_at}
use Rattle.fzn_parser.specs.Items.{WhatTree, scalar_item, array_item, constraint_item, solve_item, is_var, shape_at, value_at, name_at, scalar_at, bounds_at, array_rest, array_at, constraint_at, solve_at, what_at}
use Rattle.fzn_parser.specs.Grammar.{depth_arg, depth_ann, depth_args, AreShallow, HasValue, IsWritten}
use Rattle.fzn_parser.proofs.Inversions.{got, same_first, cond_some, mapped_some, then_some, after_some, else_some, choose_some}
use Rattle.fzn_parser.proofs.SoundValues.{none_got}
use Rattle.fzn_parser.proofs.WholeValues.{AllOf}

-- each value that is read is such
abbrev Reads : (A : Type 0) → Read A → (A → Type 0) → Type 0
Reads A read P = (ls r : List Lexeme) (a : A) → read ls ≡ got a r → P a

more_reads : {A : Type 0} (close : Symbol) (read : Read A) (P : A → Type 0) → Reads A read P → (n : ℕ) (ls r : List Lexeme) (xs : List A) → more_until close read n ls ≡ got xs r → AllOf P xs
unfolding more_until
more_reads close read P each zero ls r xs e = absurd (none_got _ e)
more_reads {A} close read P each (suc n) ls r xs e =
    let G : Type 0 = AllOf P xs in
    let All : List A → Type 0 = λ zs. AllOf P zs in
    then_some {P = G} (read ls) _ _ e (λ x m o f.
    then_some {P = G} (separator_at close m) _ _ f (λ goes k p g.
    cond_some {P = G} goes _ _ _ g
    (λ b h. mapped_some {P = G} (λ zs. x ∷ zs) _ xs r h (λ ys q s. subst All s (each ls m x o, more_reads close read P each n k r ys q)))
    (λ b h. subst All (same_first (x ∷ []) xs k r h) (each ls m x o, tt))))

list_reads : {A : Type 0} (close : Symbol) (read : Read A) (P : A → Type 0) → Reads A read P → (ls r : List Lexeme) (xs : List A) → list_until close read ls ≡ got xs r → AllOf P xs
unfolding list_until
list_reads {A} close read P each ls r xs e =
    let G : Type 0 = AllOf P xs in
    let All : List A → Type 0 = λ zs. AllOf P zs in
    cond_some {P = G} (begins close ls) _ _ _ e
    (λ b h. subst All (same_first [] xs (rest ls) r h) tt)
    (λ b h. more_reads close read P each (length ls) ls r xs h)

abbrev ArgsShallow : ℕ → Type 0
ArgsShallow k = (close : Symbol) (ls r : List Lexeme) (xs : List ArgTree) → args_at k close ls ≡ got xs r → 1 + depth_args (args_of xs) ≤ k

called_shallow_with : (k : ℕ) → ArgsShallow k → (name : Token) (ls r : List Lexeme) (a : AnnTree) → called_at k name ls ≡ got a r → depth_ann a ≤ k
unfolding called_with
called_shallow_with k shallow name ls r a e =
    let G : Type 0 = depth_ann a ≤ k in
    let Low : AnnTree → Type 0 = λ z. depth_ann z ≤ k in
    cond_some {P = G} (begins Symbol.ParenOpen ls) _ _ _ e
    (λ b h. mapped_some {P = G} (λ args. called name (args_of args)) _ a r h (λ xs q f. subst Low f (shallow Symbol.ParenClose (rest ls) r xs q)))
    (λ b h. subst Low (same_first (bare name) a ls r h) (omega arith))

elem_flat : (k : ℕ) (x : Elem) → depth_arg (arg_of_elem x) ≤ k
elem_flat k Elem.True = omega arith
elem_flat k Elem.False = omega arith
elem_flat k (Elem.Int t) = omega arith
elem_flat k (Elem.Float t) = omega arith
elem_flat k (Elem.Name t) = omega arith
elem_flat k (Elem.Set s) = omega arith

arg_shallow_with : (k : ℕ) → ArgsShallow k → Reads ArgTree (arg_at k) (λ a. depth_arg a ≤ k)
unfolding arg_with
arg_shallow_with k shallow ls r a e =
    let G : Type 0 = depth_arg a ≤ k in
    let Low : ArgTree → Type 0 = λ z. depth_arg z ≤ k in
    cond_some {P = G} (begins Symbol.BracketOpen ls) _ _ _ e
    (λ b h. mapped_some {P = G} (λ args. row_arg (args_of args)) _ a r h (λ xs q f. subst Low f (shallow Symbol.BracketClose (rest ls) r xs q)))
    (λ b h. else_some {P = G} (mapped text_arg (kept_at Class.Text ls)) (choose (kept_at Class.Name ls) (λ name ms. mapped note_arg (called_at k name ms)) (mapped arg_of_elem (elem_at ls))) _ h
    (λ i. mapped_some {P = G} text_arg (kept_at Class.Text ls) a r i (λ t q f. subst Low f (omega arith)))
    (λ i. choose_some {P = G} (kept_at Class.Name ls) (λ name ms. mapped note_arg (called_at k name ms)) (mapped arg_of_elem (elem_at ls)) _ i
    (λ name m o j. mapped_some {P = G} note_arg _ a r j (λ n q f. subst Low f (called_shallow_with k shallow name m r n q)))
    (λ j. mapped_some {P = G} arg_of_elem (elem_at ls) a r j (λ x q f. subst Low f (elem_flat k x)))))

args_low : (k : ℕ) (xs : List ArgTree) → AllOf (λ a. depth_arg a ≤ k) xs → depth_args (args_of xs) ≤ k
args_low k [] p = omega arith
args_low k (x ∷ xs) p = omega (arith, p.0, args_low k xs p.1)

args_shallow : (k : ℕ) → ArgsShallow k
unfolding args_at
args_shallow zero close ls r xs e = absurd (none_got _ e)
args_shallow (suc k) close ls r xs e =
    let low : depth_args (args_of xs) ≤ k = args_low k xs (list_reads close (arg_at k) (λ a. depth_arg a ≤ k) (arg_shallow_with k (args_shallow k)) ls r xs e) in
    omega (arith, low)

notes_shallow : (k n : ℕ) (ls r : List Lexeme) (xs : List AnnTree) → notes_more k n ls ≡ got xs r → AreShallow k xs
unfolding notes_more
notes_shallow k zero ls r xs e = let Low : List AnnTree → Type 0 = λ zs. AreShallow k zs in subst Low (same_first [] xs ls r e) tt
notes_shallow k (suc n) ls r xs e =
    let G : Type 0 = AreShallow k xs in
    let Low : List AnnTree → Type 0 = λ zs. AreShallow k zs in
    cond_some {P = G} (begins Symbol.DoubleColon ls) _ _ _ e
    (λ b h. then_some {P = G} (kept_at Class.Name (rest ls)) _ _ h (λ name m o f. then_some {P = G} (called_at k name m) _ _ f (λ a t p g. mapped_some {P = G} (λ notes. a ∷ notes) _ xs r g (λ ys q i.
    subst Low i (called_shallow_with k (args_shallow k) name m t a p, notes_shallow k n t r ys q)))))
    (λ b h. subst Low (same_first [] xs ls r h) tt)

value_there : (shape : Shape) (ls r : List Lexeme) (v : Option Expr) → value_at (is_var shape) ls ≡ got v r → HasValue shape v
unfolding value_at
value_there shape ls r v e =
    let G : Type 0 = HasValue shape v in
    let Has : Option Expr → Type 0 = λ z. HasValue shape z in
    cond_some {P = G} (begins Symbol.Equals ls) _ _ _ e
    (λ b h. mapped_some {P = G} (λ x. Some x) _ v r h (λ x q i. subst Has i tt))
    (λ b h. cond_some {P = G} (is_var shape) _ _ _ h (λ c i. subst Has (same_first None v ls r i) c) (λ c i. absurd (none_got _ i)))

scalar_shallow : (k : ℕ) (ls r : List Lexeme) (w : WhatTree) → scalar_at k ls ≡ got w r → IsWritten k w
unfolding scalar_at
scalar_shallow k ls r w e =
    let G : Type 0 = IsWritten k w in
    let Low : WhatTree → Type 0 = λ z. IsWritten k z in
    then_some {P = G} (shape_at ls) _ _ e (λ shape m o f. then_some {P = G} (name_at m) _ _ f (λ name n p g. then_some {P = G} (notes_at k n) _ _ g (λ notes t q h.
    mapped_some {P = G} (λ value. scalar_item shape name notes value) _ w r h (λ v i j.
    subst Low j (notes_shallow k _ n t notes q, value_there shape t r v i)))))

array_shallow : (k : ℕ) (low high : Token) (ls r : List Lexeme) (w : WhatTree) → array_rest k low high ls ≡ got w r → IsWritten k w
unfolding array_rest
array_shallow k low high ls r w e =
    let G : Type 0 = IsWritten k w in
    let Low : WhatTree → Type 0 = λ z. IsWritten k z in
    then_some {P = G} (shape_at ls) _ _ e (λ shape m o f. then_some {P = G} (name_at m) _ _ f (λ name n p g. then_some {P = G} (notes_at k n) _ _ g (λ notes t q h.
    after_some {P = G} Symbol.Equals (λ ps. mapped (λ value. array_item low high shape name notes value) (expr_at ps)) t _ h (λ d l.
    mapped_some {P = G} (λ value. array_item low high shape name notes value) _ w r l (λ v i j.
    subst Low j (notes_shallow k _ n t notes q))))))

constraint_shallow : (k : ℕ) (ls r : List Lexeme) (w : WhatTree) → constraint_at k ls ≡ got w r → IsWritten k w
unfolding constraint_at
constraint_shallow k ls r w e =
    let G : Type 0 = IsWritten k w in
    let Low : WhatTree → Type 0 = λ z. IsWritten k z in
    then_some {P = G} (kept_at Class.Name ls) _ _ e (λ name m o f.
    after_some {P = G} Symbol.ParenOpen (λ ns. and_then (exprs_at ns) (λ args os. mapped (λ notes. constraint_item name args notes) (notes_at k os))) m _ f (λ d g.
    then_some {P = G} (exprs_at (rest m)) _ _ g (λ args t p h.
    mapped_some {P = G} (λ notes. constraint_item name args notes) _ w r h (λ notes q i. subst Low i (notes_shallow k _ t r notes q)))))

solve_shallow : (k : ℕ) (ls r : List Lexeme) (w : WhatTree) → solve_at k ls ≡ got w r → IsWritten k w
unfolding solve_at
solve_shallow k ls r w e =
    let G : Type 0 = IsWritten k w in
    let Low : WhatTree → Type 0 = λ z. IsWritten k z in
    then_some {P = G} (notes_at k ls) _ _ e (λ notes m o f. mapped_some {P = G} (λ aim. solve_item notes aim) _ w r f (λ a q i. subst Low i (notes_shallow k _ ls m notes o)))

pub what_shallow : (k : ℕ) (ls r : List Lexeme) (w : WhatTree) → what_at k ls ≡ got w r → IsWritten k w
unfolding what_at array_at
what_shallow k ls r w e =
    let G : Type 0 = IsWritten k w in
    cond_some {P = G} (begins Symbol.Constraint ls) _ _ _ e (λ b h. constraint_shallow k (rest ls) r w h)
    (λ b h. cond_some {P = G} (begins Symbol.Array ls) _ _ _ h
    (λ c i. then_some {P = G} (bounds_at (rest ls)) _ _ i (λ bounds m o f. array_shallow k bounds.0 bounds.1 m r w f))
    (λ c i. cond_some {P = G} (begins Symbol.Solve ls) _ _ _ i (λ d j. solve_shallow k (rest ls) r w j) (λ d j. scalar_shallow k ls r w j)))
