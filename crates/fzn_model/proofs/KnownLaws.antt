-- What fits uses no name that wasn't declared, and a known constraint.
use Rattle.std.proofs.Common.{◌≡◌, ℕ, List, [], ◌∷◌, Bool, true, false, not, ◌&&◌, ◌||◌, ◌++◌, Option, Some, None, refl, sym, ap, ◌∙◌, is_some, is_none, map, true≢false}
use Rattle.std.specs.Prelude.{option_map, option_and_then, flat_map, option_to_list}
use Rattle.std.specs.List.{list_any}
use Rattle.std.proofs.lemmas.Bool.{and_parts}
use Rattle.std.proofs.lemmas.List.Folds.{list_any-append}
use Rattle.fzn_parser.specs.declared.tree.Elem.{Elem}
use Rattle.fzn_parser.specs.declared.tree.Expr.{Expr}
use Rattle.fzn_parser.specs.declared.tree.Aim.{Aim}
use Rattle.fzn_parser.specs.Items.{WhatTree, predicate_item, scalar_item, array_item, constraint_item, solve_item}
use Rattle.fzn_parser.specs.Texts.{spelling}
use Rattle.constraint_model.specs.declared.meanings.Meaning.{Meaning}
use Rattle.constraint_model.specs.declared.meanings.Scalar.{Scalar}
use Rattle.constraint_model.specs.declared.table.ConstraintName.{ConstraintName}
use Rattle.constraint_model.specs.declared.table.Letter.{Letter}
use Rattle.constraint_model.specs.Fits.{named, fits, row_for}
use Rattle.fzn_model.specs.Scopes.{Scope, meaning_of, scalar_of, entry_at, all_some, array_literal, simple_at, expr_meaning}
use Rattle.fzn_model.specs.Effects.{meanings_of}
use Rattle.fzn_model.specs.declared.fault_kinds.FaultKind.{FaultKind}
use Rattle.fzn_model.specs.declared.leaves.Leaf.{Leaf}
use Rattle.fzn_model.specs.Leaves.{elem_leaves, expr_leaves}
use Rattle.fzn_model.specs.Drafts.{has_kind, has_leaf}
use Rattle.fzn_model.proofs.LeafLaws.{passes_unknown, none_in_set, used_in, no_constraint, no_constraint_at, no_constraint_in, no_constraint_asked}
use Rattle.fzn_model.specs.Faults.{has_wrong_argument, if_some, value_fits, all_mean, arguments_fit, has_index_set, fits_scalar_type, fits_array_type}

not_false : (b : Bool) → not b ≡ false → b ≡ true
not_false true e = refl
not_false false e = absurd (true≢false e)

neither : (a b : Bool) → a ≡ false → b ≡ false → (a || b) ≡ false
neither true b e f = absurd (true≢false e)
neither false b e f = f

under : {X Y : Type 0} (f : X → Y) (o : Option X) → is_some (option_map f o) ≡ true → is_some o ≡ true
under f None e = e
under f (Some x) e = refl

tested : {X : Type 0} (test : X → Bool) (o : Option X) → if_some test o ≡ true → is_some o ≡ true
tested test None e = absurd (true≢false (sym e))
tested test (Some x) e = refl

there : {X : Type 0} (o : Option X) → is_some o ≡ true → is_none o ≡ false
there None e = absurd (true≢false (sym e))
there (Some x) e = refl

-- a part uses a name that wasn't declared
abbrev unknown : List ℕ → Scope → Leaf → Bool
unknown text scope = has_kind text scope FaultKind.NameUnknown

abbrev IsKnown : List ℕ → Scope → List Leaf → Type 0
IsKnown text scope parts = list_any (unknown text scope) parts ≡ false

none_in_both : (text : List ℕ) (scope : Scope) (xs ys : List Leaf) → IsKnown text scope xs → IsKnown text scope ys → IsKnown text scope (xs ++ ys)
none_in_both text scope xs ys e f = list_any-append (unknown text scope) xs ys ∙ neither (list_any (unknown text scope) xs) (list_any (unknown text scope) ys) e f

entry_known : (text : List ℕ) (scope : Scope) (e : Elem) → is_some (entry_at text scope e) ≡ true → IsKnown text scope (elem_leaves e)
entry_known text scope Elem.True e = refl
entry_known text scope Elem.False e = refl
entry_known text scope (Elem.Int t) e = refl
entry_known text scope (Elem.Float t) e = refl
entry_known text scope (Elem.Name t) e = by (meaning_of scope (spelling text t)) e
  where
    by : (o : Option Meaning) → is_some (option_and_then scalar_of o) ≡ true → (not (is_some o) || false) ≡ false
    by None e = absurd (true≢false (sym e))
    by (Some m) e = refl
entry_known text scope (Elem.Set s) e = none_in_set (unknown text scope) (passes_unknown text scope) s

entries_known : (text : List ℕ) (scope : Scope) (es : List Elem) → is_some (all_some (map (entry_at text scope) es)) ≡ true → IsKnown text scope (flat_map elem_leaves es)
entries_known text scope [] e = refl
entries_known text scope (x ∷ xs) e = by (entry_at text scope x) (entry_known text scope x) (entries_known text scope xs) e
  where
    by : (o : Option Scalar) → (is_some o ≡ true → IsKnown text scope (elem_leaves x)) → (is_some (all_some (map (entry_at text scope) xs)) ≡ true → IsKnown text scope (flat_map elem_leaves xs))
        → is_some (all_some (o ∷ map (entry_at text scope) xs)) ≡ true → IsKnown text scope (elem_leaves x ++ flat_map elem_leaves xs)
    by None f g e = absurd (true≢false (sym e))
    by (Some s) f g e =
        none_in_both text scope (elem_leaves x) (flat_map elem_leaves xs) (f refl)
        (g (under (λ (ss : List Scalar). s ∷ ss) (all_some (map (entry_at text scope) xs)) e))

simple_known : (text : List ℕ) (scope : Scope) (e : Elem) → is_some (simple_at text scope e) ≡ true → IsKnown text scope (elem_leaves e)
simple_known text scope Elem.True e = refl
simple_known text scope Elem.False e = refl
simple_known text scope (Elem.Int t) e = refl
simple_known text scope (Elem.Float t) e = refl
simple_known text scope (Elem.Name t) e = ap (λ b. not b || false) e
simple_known text scope (Elem.Set s) e = none_in_set (unknown text scope) (passes_unknown text scope) s

expr_known : (text : List ℕ) (scope : Scope) (e : Expr) → is_some (expr_meaning text scope e) ≡ true → IsKnown text scope (expr_leaves e)
unfolding expr_meaning
expr_known text scope (Expr.One e) h = simple_known text scope e h
expr_known text scope (Expr.Row es) h = entries_known text scope es (under array_literal (all_some (map (entry_at text scope) es)) h)

fitting_expr : (text : List ℕ) (scope : Scope) (test : Meaning → Bool) (e : Expr) → value_fits text scope test e ≡ true → IsKnown text scope (expr_leaves e)
fitting_expr text scope test e h = expr_known text scope e (tested test (expr_meaning text scope e) h)

all_known : (text : List ℕ) (scope : Scope) (args : List Expr) → all_mean text scope args ≡ true → IsKnown text scope (flat_map expr_leaves args)
all_known text scope [] h = refl
all_known text scope (x ∷ xs) h =
    let parts = and_parts (is_some (expr_meaning text scope x)) (all_mean text scope xs) h in
    none_in_both text scope (expr_leaves x) (flat_map expr_leaves xs) (expr_known text scope x parts.0) (all_known text scope xs parts.1)

-- what fits uses declared names alone
pub fitting_names : (text : List ℕ) (scope : Scope) (what : WhatTree) → has_wrong_argument text scope what ≡ false → has_leaf text scope FaultKind.NameUnknown what ≡ false
fitting_names text scope (predicate_item tokens) h = refl
fitting_names text scope (scalar_item shape name notes None) h = used_in text scope shape name [] refl
fitting_names text scope (scalar_item shape name notes (Some e)) h =
    let known = fitting_expr text scope (fits_scalar_type shape) e (not_false (value_fits text scope (fits_scalar_type shape) e) h) in
    used_in text scope shape name (expr_leaves e ++ []) (none_in_both text scope (expr_leaves e) [] known refl)
fitting_names text scope (array_item low high shape name notes value) h =
    let test = fits_array_type shape in
    used_in text scope shape name (expr_leaves value) (fitting_expr text scope test value
    (and_parts (has_index_set text low high value) (value_fits text scope test value) (not_false (has_index_set text low high value && value_fits text scope test value) h)).1)
fitting_names text scope (constraint_item name args notes) h =
    all_known text scope args
    (and_parts (all_mean text scope args) (if_some (λ (known : ConstraintName). is_some (row_for known (meanings_of text scope args))) (named (spelling text name)))
    (not_false (arguments_fit text scope (spelling text name) args) h)).0
fitting_names text scope (solve_item notes Aim.Satisfy) h = refl
fitting_names text scope (solve_item notes (Aim.Minimize e)) h = fitting_expr text scope (fits Letter.Integer) e (not_false (value_fits text scope (fits Letter.Integer) e) h)
fitting_names text scope (solve_item notes (Aim.Maximize e)) h = fitting_expr text scope (fits Letter.Integer) e (not_false (value_fits text scope (fits Letter.Integer) e) h)

-- and a known constraint
pub fitting_constraint : (text : List ℕ) (scope : Scope) (what : WhatTree) → has_wrong_argument text scope what ≡ false → has_leaf text scope FaultKind.UnknownConstraint what ≡ false
fitting_constraint text scope (predicate_item tokens) h = refl
fitting_constraint text scope (scalar_item shape name notes value) h = no_constraint text scope shape name (flat_map expr_leaves (option_to_list value)) (no_constraint_in text scope (option_to_list value))
fitting_constraint text scope (array_item low high shape name notes value) h = no_constraint text scope shape name (expr_leaves value) (no_constraint_at text scope value)
fitting_constraint text scope (constraint_item name args notes) h =
    let test = λ (known : ConstraintName). is_some (row_for known (meanings_of text scope args)) in
    let known : is_none (named (spelling text name)) ≡ false =
    there (named (spelling text name)) (tested test (named (spelling text name))
    (and_parts (all_mean text scope args) (if_some test (named (spelling text name))) (not_false (arguments_fit text scope (spelling text name) args) h)).1) in
    neither (is_none (named (spelling text name))) (list_any (has_kind text scope FaultKind.UnknownConstraint) (flat_map expr_leaves args)) known (no_constraint_in text scope args)
fitting_constraint text scope (solve_item notes aim) h = no_constraint_asked text scope aim
