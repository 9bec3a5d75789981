-- Sound reading: what is read of items is what the printer writes for it.
use Rattle.std.proofs.Common.{◌≡◌, ℕ, List, ◌∷◌, ◌++◌, Bool, cond, Option, Some, None, refl, sym, ap, ◌∙◌, append_assoc}
use Rattle.fzn_lexer.specs.declared.Token.{Token}
use Rattle.fzn_parser.specs.declared.cursor.Symbol.{Symbol}
use Rattle.fzn_parser.specs.declared.cursor.Class.{Class}
use Rattle.fzn_parser.specs.declared.cursor.Lexeme.{Lexeme}
use Rattle.fzn_parser.specs.declared.tree.Expr.{Expr}
use Rattle.fzn_parser.specs.declared.tree.Shape.{Shape}
use Rattle.fzn_parser.specs.declared.tree.Aim.{Aim}
use Rattle.fzn_parser.specs.Terminals.{Read, begins, rest, kept_at}
use Rattle.fzn_parser.specs.Reading.{mapped, and_then, after, int_at, set_at, expr_at, exprs_at}
use Rattle.fzn_parser.specs.Notes.{AnnTree, notes_at}
use Rattle.fzn_parser.specs.Items.{WhatTree, scalar_item, array_item, constraint_item, solve_item, is_var, var_set_at, var_range_at, var_at, param_at, shape_at, value_at, name_at, scalar_at, bounds_at, array_rest, array_at, constraint_at, aim_at, solve_at, what_at}
use Rattle.fzn_parser.specs.Grammar.{separated, print_expr, print_notes, print_shape, print_value, print_aim, print_named, print_what}
use Rattle.fzn_parser.proofs.Inversions.{got, same_first, same_rest, carry, begins_is, kept_is, cond_some, mapped_some, then_some, after_some, choose_some}
use Rattle.fzn_parser.proofs.SoundValues.{IsSound, set_sound, expr_sound, exprs_sound, none_got}
use Rattle.fzn_parser.proofs.SoundNotes.{glue, notes_sound}

-- behind `var`
abbrev IsVarSound : Read Shape → Type 0
IsVarSound read = (ls r : List Lexeme) (s : Shape) → read ls ≡ got s r → Lexeme.Fixed Symbol.Var ∷ ls ≡ print_shape s ++ r

var_set_sound : (ls r : List Lexeme) (s : Shape) → var_set_at ls ≡ got s r → Lexeme.Fixed Symbol.Var ∷ Lexeme.Fixed Symbol.Set ∷ ls ≡ print_shape s ++ r
unfolding var_set_at
var_set_sound ls r s e =
    let P : Type 0 = Lexeme.Fixed Symbol.Var ∷ Lexeme.Fixed Symbol.Set ∷ ls ≡ print_shape s ++ r in
    let front = λ (y : List Lexeme). Lexeme.Fixed Symbol.Var ∷ Lexeme.Fixed Symbol.Set ∷ y in
    after_some {P = P} Symbol.Of (λ ms. cond (begins Symbol.Int ms) (Some (Shape.VarSet, rest ms)) (mapped Shape.VarSetIn (set_at ms))) ls _ e (λ d f.
    cond_some {P = P} (begins Symbol.Int (rest ls)) _ _ _ f
    (λ b h. ap front d ∙ ap (λ y. front (Lexeme.Fixed Symbol.Of ∷ y)) (begins_is Symbol.Int (rest ls) b) ∙ carry print_shape Shape.VarSet s _ (rest (rest ls)) r refl h)
    (λ b h. mapped_some {P = P} Shape.VarSetIn _ s r h (λ t q i. ap front d ∙ ap (λ y. front (Lexeme.Fixed Symbol.Of ∷ y)) (set_sound (rest ls) r t q) ∙ ap (λ z. print_shape z ++ r) i)))

var_range_sound : IsVarSound var_range_at
unfolding var_range_at
var_range_sound ls r s e =
    let P : Type 0 = Lexeme.Fixed Symbol.Var ∷ ls ≡ print_shape s ++ r in
    choose_some {P = P} (kept_at Class.Float ls) _ _ _ e
    (λ low m o f. after_some {P = P} Symbol.DotDot (λ ns. mapped (Shape.VarFloats low) (kept_at Class.Float ns)) m _ f (λ d g. mapped_some {P = P} (Shape.VarFloats low) _ s r g (λ high q i.
    ap (λ y. Lexeme.Fixed Symbol.Var ∷ y) (kept_is Class.Float ls m low o ∙ ap (λ y. Lexeme.Kept Class.Float low ∷ y) (d ∙ ap (λ y. Lexeme.Fixed Symbol.DotDot ∷ y) (kept_is Class.Float (rest m) r high q))) ∙ ap (λ z. print_shape z ++ r) i)))
    (λ f. mapped_some {P = P} Shape.VarIn _ s r f (λ t q i. ap (λ y. Lexeme.Fixed Symbol.Var ∷ y) (set_sound ls r t q) ∙ ap (λ z. print_shape z ++ r) i))

var_sound : IsVarSound var_at
unfolding var_at
var_sound ls r s e =
    let P : Type 0 = Lexeme.Fixed Symbol.Var ∷ ls ≡ print_shape s ++ r in
    let front = λ (y : List Lexeme). Lexeme.Fixed Symbol.Var ∷ y in
    cond_some {P = P} (begins Symbol.Bool ls) _ _ _ e (λ b h. ap front (begins_is Symbol.Bool ls b) ∙ carry print_shape Shape.VarBool s _ (rest ls) r refl h)
    (λ b h. cond_some {P = P} (begins Symbol.Int ls) _ _ _ h (λ c i. ap front (begins_is Symbol.Int ls c) ∙ carry print_shape Shape.VarInt s _ (rest ls) r refl i)
    (λ c i. cond_some {P = P} (begins Symbol.Float ls) _ _ _ i (λ d j. ap front (begins_is Symbol.Float ls d) ∙ carry print_shape Shape.VarFloat s _ (rest ls) r refl j)
    (λ d j. cond_some {P = P} (begins Symbol.Set ls) _ _ _ j (λ f k. ap front (begins_is Symbol.Set ls f) ∙ var_set_sound (rest ls) r s k) (λ f k. var_range_sound ls r s k))))

param_sound : IsSound Shape param_at print_shape
unfolding param_at
param_sound ls r s e =
    let P : Type 0 = ls ≡ print_shape s ++ r in
    cond_some {P = P} (begins Symbol.Bool ls) _ _ _ e (λ b h. carry print_shape Shape.Bool s ls (rest ls) r (begins_is Symbol.Bool ls b) h)
    (λ b h. cond_some {P = P} (begins Symbol.Int ls) _ _ _ h (λ c i. carry print_shape Shape.Int s ls (rest ls) r (begins_is Symbol.Int ls c) i)
    (λ c i. cond_some {P = P} (begins Symbol.Float ls) _ _ _ i (λ d j. carry print_shape Shape.Float s ls (rest ls) r (begins_is Symbol.Float ls d) j)
    (λ d j. after_some {P = P} Symbol.Set (λ ms. after Symbol.Of (λ ns. after Symbol.Int (λ os. Some (Shape.SetOfInt, os)) ns) ms) ls _ j (λ x k. after_some {P = P} Symbol.Of (λ ns. after Symbol.Int (λ os. Some (Shape.SetOfInt, os)) ns) (rest ls) _ k (λ y l. after_some {P = P} Symbol.Int (λ os. Some (Shape.SetOfInt, os)) (rest (rest ls)) _ l (λ z m.
    carry print_shape Shape.SetOfInt s ls (rest (rest (rest ls))) r (x ∙ ap (λ u. Lexeme.Fixed Symbol.Set ∷ u) (y ∙ ap (λ u. Lexeme.Fixed Symbol.Of ∷ u) z)) m))))))

shape_sound : IsSound Shape shape_at print_shape
unfolding shape_at
shape_sound ls r s e =
    let P : Type 0 = ls ≡ print_shape s ++ r in
    cond_some {P = P} (begins Symbol.Var ls) _ _ _ e (λ b h. begins_is Symbol.Var ls b ∙ var_sound (rest ls) r s h) (λ b h. param_sound ls r s h)

value_sound : (may_lack : Bool) → IsSound (Option Expr) (λ ls. value_at may_lack ls) print_value
unfolding value_at
value_sound may_lack ls r v e =
    let P : Type 0 = ls ≡ print_value v ++ r in
    cond_some {P = P} (begins Symbol.Equals ls) _ _ _ e
    (λ b h. mapped_some {P = P} (λ x. Some x) _ v r h (λ x q i. begins_is Symbol.Equals ls b ∙ ap (λ y. Lexeme.Fixed Symbol.Equals ∷ y) (expr_sound (rest ls) r x q) ∙ ap (λ z. print_value z ++ r) i))
    (λ b h. cond_some {P = P} may_lack _ _ _ h (λ c i. carry print_value None v ls ls r refl i) (λ c i. absurd (none_got _ i)))

name_sound : (ls r : List Lexeme) (t : Token) → name_at ls ≡ got t r → ls ≡ Lexeme.Fixed Symbol.Colon ∷ Lexeme.Kept Class.Name t ∷ r
unfolding name_at
name_sound ls r t e =
    let P : Type 0 = ls ≡ Lexeme.Fixed Symbol.Colon ∷ Lexeme.Kept Class.Name t ∷ r in
    after_some {P = P} Symbol.Colon (λ ms. kept_at Class.Name ms) ls _ e (λ d f. d ∙ ap (λ y. Lexeme.Fixed Symbol.Colon ∷ y) (kept_is Class.Name (rest ls) r t f))

named_sound : (name : Token) (notes : List AnnTree) (ls m r : List Lexeme) → ls ≡ Lexeme.Fixed Symbol.Colon ∷ Lexeme.Kept Class.Name name ∷ m → m ≡ print_notes notes ++ r → ls ≡ print_named name notes ++ r
named_sound name notes ls m r e f = e ∙ ap (λ y. Lexeme.Fixed Symbol.Colon ∷ Lexeme.Kept Class.Name name ∷ y) f

scalar_sound : (k : ℕ) (ls r : List Lexeme) (w : WhatTree) → scalar_at k ls ≡ got w r → ls ≡ print_what w ++ r
unfolding scalar_at
scalar_sound k ls r w e =
    let P : Type 0 = ls ≡ print_what w ++ r in
    then_some {P = P} (shape_at ls) _ _ e (λ shape m o f. then_some {P = P} (name_at m) _ _ f (λ name n p g. then_some {P = P} (notes_at k n) _ _ g (λ notes t q h.
    mapped_some {P = P} (λ value. scalar_item shape name notes value) _ w r h (λ v i j.
    glue (print_shape shape) (print_named name notes ++ print_value v) ls m r (shape_sound ls m shape o)
    (glue (print_named name notes) (print_value v) m t r (named_sound name notes m n t (name_sound m n name p) (notes_sound k _ n t notes q)) (value_sound (is_var shape) t r v i)) ∙ ap (λ z. print_what z ++ r) j))))

array_sound : (k : ℕ) (low high : Token) (ls r : List Lexeme) (w : WhatTree) → array_rest k low high ls ≡ got w r
    → Lexeme.Fixed Symbol.Array ∷ Lexeme.Fixed Symbol.BracketOpen ∷ Lexeme.Kept Class.Int low ∷ Lexeme.Fixed Symbol.DotDot ∷ Lexeme.Kept Class.Int high ∷ Lexeme.Fixed Symbol.BracketClose ∷ Lexeme.Fixed Symbol.Of ∷ ls ≡ print_what w ++ r
unfolding array_rest
array_sound k low high ls r w e =
    let front = λ (y : List Lexeme). Lexeme.Fixed Symbol.Array ∷ Lexeme.Fixed Symbol.BracketOpen ∷ Lexeme.Kept Class.Int low ∷ Lexeme.Fixed Symbol.DotDot ∷ Lexeme.Kept Class.Int high ∷ Lexeme.Fixed Symbol.BracketClose ∷ Lexeme.Fixed Symbol.Of ∷ y in
    let P : Type 0 = front ls ≡ print_what w ++ r in
    then_some {P = P} (shape_at ls) _ _ e (λ shape m o f. then_some {P = P} (name_at m) _ _ f (λ name n p g. then_some {P = P} (notes_at k n) _ _ g (λ notes t q h.
    after_some {P = P} Symbol.Equals (λ ps. mapped (λ value. array_item low high shape name notes value) (expr_at ps)) t _ h (λ d l.
    mapped_some {P = P} (λ value. array_item low high shape name notes value) _ w r l (λ v i j.
    ap front (glue (print_shape shape) (print_named name notes ++ (Lexeme.Fixed Symbol.Equals ∷ print_expr v)) ls m r (shape_sound ls m shape o)
    (glue (print_named name notes) (Lexeme.Fixed Symbol.Equals ∷ print_expr v) m t r (named_sound name notes m n t (name_sound m n name p) (notes_sound k _ n t notes q)) (d ∙ ap (λ y. Lexeme.Fixed Symbol.Equals ∷ y) (expr_sound (rest t) r v i)))) ∙ ap (λ z. print_what z ++ r) j)))))

bounds_sound : (ls r : List Lexeme) (b : Token × Token) → bounds_at ls ≡ got b r → ls ≡ Lexeme.Fixed Symbol.BracketOpen ∷ Lexeme.Kept Class.Int b.0 ∷ Lexeme.Fixed Symbol.DotDot ∷ Lexeme.Kept Class.Int b.1 ∷ Lexeme.Fixed Symbol.BracketClose ∷ Lexeme.Fixed Symbol.Of ∷ r
unfolding bounds_at
bounds_sound ls r b e =
    let all = λ (c : Token × Token) (y : List Lexeme). Lexeme.Fixed Symbol.BracketOpen ∷ Lexeme.Kept Class.Int c.0 ∷ Lexeme.Fixed Symbol.DotDot ∷ Lexeme.Kept Class.Int c.1 ∷ Lexeme.Fixed Symbol.BracketClose ∷ Lexeme.Fixed Symbol.Of ∷ y in
    let P : Type 0 = ls ≡ all b r in
    after_some {P = P} Symbol.BracketOpen (λ ms. and_then (int_at ms) (λ low ns. after Symbol.DotDot (λ os. and_then (int_at os) (λ high ps. after Symbol.BracketClose (λ qs. after Symbol.Of (λ rs. Some ((low, high), rs)) qs) ps)) ns)) ls _ e (λ d f.
    then_some {P = P} (int_at (rest ls)) _ _ f (λ low n o g.
    after_some {P = P} Symbol.DotDot (λ os. and_then (int_at os) (λ high ps. after Symbol.BracketClose (λ qs. after Symbol.Of (λ rs. Some ((low, high), rs)) qs) ps)) n _ g (λ h i.
    then_some {P = P} (int_at (rest n)) _ _ i (λ high t p j.
    after_some {P = P} Symbol.BracketClose (λ qs. after Symbol.Of (λ rs. Some ((low, high), rs)) qs) t _ j (λ u v.
    after_some {P = P} Symbol.Of (λ rs. Some ((low, high), rs)) (rest t) _ v (λ x y.
    d ∙ ap (λ z. Lexeme.Fixed Symbol.BracketOpen ∷ z) (kept_is Class.Int (rest ls) n low o ∙ ap (λ z. Lexeme.Kept Class.Int low ∷ z) (h ∙ ap (λ z. Lexeme.Fixed Symbol.DotDot ∷ z) (kept_is Class.Int (rest n) t high p ∙ ap (λ z. Lexeme.Kept Class.Int high ∷ z) (u ∙ ap (λ z. Lexeme.Fixed Symbol.BracketClose ∷ z) x))))
    ∙ ap (λ c. all c (rest (rest t))) (same_first (low, high) b (rest (rest t)) r y) ∙ ap (λ z. all b z) (same_rest (low, high) b (rest (rest t)) r y)))))))

constraint_sound : (k : ℕ) (ls r : List Lexeme) (w : WhatTree) → constraint_at k ls ≡ got w r → Lexeme.Fixed Symbol.Constraint ∷ ls ≡ print_what w ++ r
unfolding constraint_at
constraint_sound k ls r w e =
    let P : Type 0 = Lexeme.Fixed Symbol.Constraint ∷ ls ≡ print_what w ++ r in
    then_some {P = P} (kept_at Class.Name ls) _ _ e (λ name m o f.
    after_some {P = P} Symbol.ParenOpen (λ ns. and_then (exprs_at ns) (λ args os. mapped (λ notes. constraint_item name args notes) (notes_at k os))) m _ f (λ d g.
    then_some {P = P} (exprs_at (rest m)) _ _ g (λ args t p h.
    mapped_some {P = P} (λ notes. constraint_item name args notes) _ w r h (λ notes q i.
    ap (λ y. Lexeme.Fixed Symbol.Constraint ∷ y) (kept_is Class.Name ls m name o ∙ ap (λ y. Lexeme.Kept Class.Name name ∷ y) (d ∙ ap (λ y. Lexeme.Fixed Symbol.ParenOpen ∷ y)
    (exprs_sound (rest m) t args p ∙ ap (λ y. separated print_expr args ++ Lexeme.Fixed Symbol.ParenClose ∷ y) (notes_sound k _ t r notes q) ∙ sym (append_assoc (separated print_expr args) (Lexeme.Fixed Symbol.ParenClose ∷ print_notes notes) r)))) ∙ ap (λ z. print_what z ++ r) i))))

aim_sound : IsSound Aim aim_at print_aim
unfolding aim_at
aim_sound ls r a e =
    let P : Type 0 = ls ≡ print_aim a ++ r in
    cond_some {P = P} (begins Symbol.Satisfy ls) _ _ _ e (λ b h. carry print_aim Aim.Satisfy a ls (rest ls) r (begins_is Symbol.Satisfy ls b) h)
    (λ b h. cond_some {P = P} (begins Symbol.Minimize ls) _ _ _ h
    (λ c i. mapped_some {P = P} Aim.Minimize _ a r i (λ x q j. begins_is Symbol.Minimize ls c ∙ ap (λ y. Lexeme.Fixed Symbol.Minimize ∷ y) (expr_sound (rest ls) r x q) ∙ ap (λ z. print_aim z ++ r) j))
    (λ c i. after_some {P = P} Symbol.Maximize (λ ms. mapped Aim.Maximize (expr_at ms)) ls _ i (λ d l. mapped_some {P = P} Aim.Maximize _ a r l (λ x q j. d ∙ ap (λ y. Lexeme.Fixed Symbol.Maximize ∷ y) (expr_sound (rest ls) r x q) ∙ ap (λ z. print_aim z ++ r) j))))

solve_sound : (k : ℕ) (ls r : List Lexeme) (w : WhatTree) → solve_at k ls ≡ got w r → Lexeme.Fixed Symbol.Solve ∷ ls ≡ print_what w ++ r
unfolding solve_at
solve_sound k ls r w e =
    let P : Type 0 = Lexeme.Fixed Symbol.Solve ∷ ls ≡ print_what w ++ r in
    then_some {P = P} (notes_at k ls) _ _ e (λ notes m o f. mapped_some {P = P} (λ aim. solve_item notes aim) _ w r f (λ a q i.
    ap (λ y. Lexeme.Fixed Symbol.Solve ∷ y) (glue (print_notes notes) (print_aim a) ls m r (notes_sound k _ ls m notes o) (aim_sound m r a q)) ∙ ap (λ z. print_what z ++ r) i))

pub what_sound : (k : ℕ) (ls r : List Lexeme) (w : WhatTree) → what_at k ls ≡ got w r → ls ≡ print_what w ++ r
unfolding what_at array_at
what_sound k ls r w e =
    let P : Type 0 = ls ≡ print_what w ++ r in
    cond_some {P = P} (begins Symbol.Constraint ls) _ _ _ e (λ b h. begins_is Symbol.Constraint ls b ∙ constraint_sound k (rest ls) r w h)
    (λ b h. cond_some {P = P} (begins Symbol.Array ls) _ _ _ h
    (λ c i. then_some {P = P} (bounds_at (rest ls)) _ _ i (λ bounds m o f. begins_is Symbol.Array ls c ∙ ap (λ y. Lexeme.Fixed Symbol.Array ∷ y) (bounds_sound (rest ls) m bounds o) ∙ array_sound k bounds.0 bounds.1 m r w f))
    (λ c i. cond_some {P = P} (begins Symbol.Solve ls) _ _ _ i (λ d j. begins_is Symbol.Solve ls d ∙ solve_sound k (rest ls) r w j) (λ d j. scalar_sound k ls r w j)))
