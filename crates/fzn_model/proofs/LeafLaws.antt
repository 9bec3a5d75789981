-- Which parts of an item may have a fault of a kind.
use Rattle.std.proofs.Common.{◌≡◌, ℕ, List, [], ◌∷◌, ◌++◌, map, length, Bool, false, ◌||◌, nat_lt, refl, ap, ◌∙◌}
use Rattle.std.specs.Prelude.{flat_map, option_to_list}
use Rattle.std.specs.List.{list_any}
use Rattle.std.proofs.Math.Bool.{or-false}
use Rattle.std.proofs.lemmas.List.Folds.{list_any-append}
use Rattle.fzn_lexer.specs.declared.Token.{Token}
use Rattle.fzn_parser.specs.declared.tree.SetLit.{SetLit}
use Rattle.fzn_parser.specs.declared.tree.Elem.{Elem}
use Rattle.fzn_parser.specs.declared.tree.Expr.{Expr}
use Rattle.fzn_parser.specs.declared.tree.Shape.{Shape}
use Rattle.fzn_parser.specs.declared.tree.Aim.{Aim}
use Rattle.fzn_parser.specs.Items.{WhatTree, predicate_item, scalar_item, array_item, constraint_item, solve_item}
use Rattle.fzn_model.specs.declared.fault_kinds.FaultKind.{FaultKind}
use Rattle.fzn_model.specs.declared.leaves.Leaf.{Leaf}
use Rattle.constraint_model.specs.Limits.{most_entries}
use Rattle.fzn_model.specs.Leaves.{set_leaves, elem_leaves, expr_leaves, type_leaves, aim_leaves}
use Rattle.fzn_model.specs.Scopes.{Scope}
use Rattle.fzn_model.specs.Faults.{is_declared}
use Rattle.fzn_model.specs.Drafts.{has_kind, has_leaf, declares_again}

-- ---- some element of a list

pub any_map : {A B : Type 0} (p : B → Bool) (f : A → B) (xs : List A) → list_any p (map f xs) ≡ list_any (λ x. p (f x)) xs
any_map p f [] = refl
any_map p f (x ∷ xs) = ap (λ b. p (f x) || b) (any_map p f xs)

pub any_flat_map : {A B : Type 0} (p : B → Bool) (f : A → List B) (xs : List A) → list_any p (flat_map f xs) ≡ list_any (λ x. list_any p (f x)) xs
any_flat_map p f [] = refl
any_flat_map p f (x ∷ xs) = list_any-append p (f x) (flat_map f xs) ∙ ap (λ b. list_any p (f x) || b) (any_flat_map p f xs)

pub none_of : {A : Type 0} (p : A → Bool) (xs : List A) → ((x : A) → p x ≡ false) → list_any p xs ≡ false
none_of p [] h = refl
none_of p (x ∷ xs) h = ap (λ b. b || list_any p xs) (h x) ∙ none_of p xs h

none_mapped : {A B : Type 0} (p : B → Bool) (f : A → B) (xs : List A) → ((x : A) → p (f x) ≡ false) → list_any p (map f xs) ≡ false
none_mapped p f xs h = any_map p f xs ∙ none_of (λ x. p (f x)) xs h

none_flat : {A B : Type 0} (p : B → Bool) (f : A → List B) (xs : List A) → ((x : A) → list_any p (f x) ≡ false) → list_any p (flat_map f xs) ≡ false
none_flat p f xs h = any_flat_map p f xs ∙ none_of (λ x. list_any p (f x)) xs h

any_same : {A : Type 0} (p q : A → Bool) (xs : List A) → ((x : A) → p x ≡ q x) → list_any p xs ≡ list_any q xs
any_same p q [] h = refl
any_same p q (x ∷ xs) h = ap (λ b. b || list_any p xs) (h x) ∙ ap (λ b. q x || b) (any_same p q xs h)

-- ---- a test that no number and no list meets

pub record PassesNumbers (p : Leaf → Bool) : Type 0 where
  pub number : (t : Token) → p (Leaf.Number t) ≡ false
  pub entries : (n : ℕ) → p (Leaf.Entries n) ≡ false

pub none_in_set : (p : Leaf → Bool) → PassesNumbers p → (s : SetLit) → list_any p (set_leaves s) ≡ false
none_in_set p h (SetLit.Range low high) = ap (λ b. b || (p (Leaf.Number high) || false)) (h.number low) ∙ (ap (λ b. b || false) (h.number high))
none_in_set p h (SetLit.Braces values) = ap (λ b. b || list_any p (map Leaf.Number values)) (h.entries (length values)) ∙ none_mapped p Leaf.Number values h.number

none_in_type : (p : Leaf → Bool) → PassesNumbers p → (shape : Shape) → list_any p (type_leaves shape) ≡ false
none_in_type p h (Shape.VarIn s) = none_in_set p h s
none_in_type p h (Shape.VarSetIn s) = none_in_set p h s
none_in_type p h shape = refl

-- and no name that is used
pub record PassesExprs (p : Leaf → Bool) : Type 0 where
  pub numbers : PassesNumbers p
  pub used : (t : Token) → p (Leaf.Used t) ≡ false

none_in_elem : (p : Leaf → Bool) → PassesExprs p → (e : Elem) → list_any p (elem_leaves e) ≡ false
none_in_elem p h Elem.True = refl
none_in_elem p h Elem.False = refl
none_in_elem p h (Elem.Int t) = ap (λ b. b || false) (h.numbers.number t)
none_in_elem p h (Elem.Float t) = refl
none_in_elem p h (Elem.Name t) = ap (λ b. b || false) (h.used t)
none_in_elem p h (Elem.Set s) = none_in_set p h.numbers s

none_in_expr : (p : Leaf → Bool) → PassesExprs p → (e : Expr) → list_any p (expr_leaves e) ≡ false
none_in_expr p h (Expr.One e) = none_in_elem p h e
none_in_expr p h (Expr.Row es) = ap (λ b. b || list_any p (flat_map elem_leaves es)) (h.numbers.entries (length es)) ∙ none_flat p elem_leaves es (none_in_elem p h)

none_in_exprs : (p : Leaf → Bool) → PassesExprs p → (es : List Expr) → list_any p (flat_map expr_leaves es) ≡ false
none_in_exprs p h es = none_flat p expr_leaves es (none_in_expr p h)

none_in_aim : (p : Leaf → Bool) → PassesExprs p → (aim : Aim) → list_any p (aim_leaves aim) ≡ false
none_in_aim p h Aim.Satisfy = refl
none_in_aim p h (Aim.Minimize e) = none_in_expr p h e
none_in_aim p h (Aim.Maximize e) = none_in_expr p h e

-- ---- the declared name

passes_twice : (text : List ℕ) (scope : Scope) → PassesExprs (has_kind text scope FaultKind.NameTwice)
passes_twice text scope = record { numbers = record { number = λ t. refl; entries = λ n. refl }; used = λ t. refl }

declared_first : (text : List ℕ) (scope : Scope) (shape : Shape) (name : Token) (more : List Leaf) → list_any (has_kind text scope FaultKind.NameTwice) more ≡ false
    → list_any (has_kind text scope FaultKind.NameTwice) (type_leaves shape ++ Leaf.Declared name ∷ more) ≡ is_declared text scope name
declared_first text scope shape name more none =
    let p = has_kind text scope FaultKind.NameTwice in
    list_any-append p (type_leaves shape) (Leaf.Declared name ∷ more)
    ∙ (ap (λ b. b || (is_declared text scope name || list_any p more)) (none_in_type p (passes_twice text scope).numbers shape)
    ∙ (ap (λ b. is_declared text scope name || b) none
    ∙ or-false (is_declared text scope name)))

-- a declaration's test of its name is the only one of its kind
pub twice_is : (text : List ℕ) (scope : Scope) (what : WhatTree) → has_leaf text scope FaultKind.NameTwice what ≡ declares_again text scope what
twice_is text scope (predicate_item tokens) = refl
twice_is text scope (scalar_item shape name notes value) =
    declared_first text scope shape name (flat_map expr_leaves (option_to_list value)) (none_in_exprs (has_kind text scope FaultKind.NameTwice) (passes_twice text scope) (option_to_list value))
twice_is text scope (array_item low high shape name notes value) =
    declared_first text scope shape name (expr_leaves value) (none_in_expr (has_kind text scope FaultKind.NameTwice) (passes_twice text scope) value)
twice_is text scope (constraint_item name args notes) = none_in_exprs (has_kind text scope FaultKind.NameTwice) (passes_twice text scope) args
twice_is text scope (solve_item notes aim) = none_in_aim (has_kind text scope FaultKind.NameTwice) (passes_twice text scope) aim

-- ---- names of constraints

passes_constraints : (text : List ℕ) (scope : Scope) → PassesExprs (has_kind text scope FaultKind.UnknownConstraint)
passes_constraints text scope = record { numbers = record { number = λ t. refl; entries = λ n. refl }; used = λ t. refl }

-- declarations and the solve item name no constraint
pub no_constraint : (text : List ℕ) (scope : Scope) (shape : Shape) (name : Token) (more : List Leaf) → list_any (has_kind text scope FaultKind.UnknownConstraint) more ≡ false
    → list_any (has_kind text scope FaultKind.UnknownConstraint) (type_leaves shape ++ Leaf.Declared name ∷ more) ≡ false
no_constraint text scope shape name more none =
    let p = has_kind text scope FaultKind.UnknownConstraint in
    list_any-append p (type_leaves shape) (Leaf.Declared name ∷ more) ∙ (ap (λ b. b || list_any p more) (none_in_type p (passes_constraints text scope).numbers shape) ∙ none)

pub no_constraint_in : (text : List ℕ) (scope : Scope) (es : List Expr) → list_any (has_kind text scope FaultKind.UnknownConstraint) (flat_map expr_leaves es) ≡ false
no_constraint_in text scope es = none_in_exprs (has_kind text scope FaultKind.UnknownConstraint) (passes_constraints text scope) es

pub no_constraint_at : (text : List ℕ) (scope : Scope) (e : Expr) → list_any (has_kind text scope FaultKind.UnknownConstraint) (expr_leaves e) ≡ false
no_constraint_at text scope e = none_in_expr (has_kind text scope FaultKind.UnknownConstraint) (passes_constraints text scope) e

pub no_constraint_asked : (text : List ℕ) (scope : Scope) (aim : Aim) → list_any (has_kind text scope FaultKind.UnknownConstraint) (aim_leaves aim) ≡ false
no_constraint_asked text scope aim = none_in_aim (has_kind text scope FaultKind.UnknownConstraint) (passes_constraints text scope) aim

-- ---- names that are used

-- no number and no list is a name
pub passes_unknown : (text : List ℕ) (scope : Scope) → PassesNumbers (has_kind text scope FaultKind.NameUnknown)
passes_unknown text scope = record { number = λ t. refl; entries = λ n. refl }

-- a declaration uses the names of its value alone
pub used_in : (text : List ℕ) (scope : Scope) (shape : Shape) (name : Token) (more : List Leaf) → list_any (has_kind text scope FaultKind.NameUnknown) more ≡ false
    → list_any (has_kind text scope FaultKind.NameUnknown) (type_leaves shape ++ Leaf.Declared name ∷ more) ≡ false
used_in text scope shape name more none =
    let p = has_kind text scope FaultKind.NameUnknown in
    list_any-append p (type_leaves shape) (Leaf.Declared name ∷ more) ∙ (ap (λ b. b || list_any p more) (none_in_type p (passes_unknown text scope) shape) ∙ none)

-- ---- long lists

abbrev pub set_is_long : SetLit → Bool
set_is_long (SetLit.Range low high) = false
set_is_long (SetLit.Braces values) = nat_lt most_entries (length values)

abbrev pub elem_is_long : Elem → Bool
elem_is_long (Elem.Set s) = set_is_long s
elem_is_long _ = false

abbrev pub expr_is_long : Expr → Bool
expr_is_long (Expr.One e) = elem_is_long e
expr_is_long (Expr.Row es) = nat_lt most_entries (length es) || list_any elem_is_long es

abbrev pub shape_is_long : Shape → Bool
shape_is_long (Shape.VarIn s) = set_is_long s
shape_is_long (Shape.VarSetIn s) = set_is_long s
shape_is_long _ = false

set_long : (text : List ℕ) (scope : Scope) (s : SetLit) → list_any (has_kind text scope FaultKind.TooMany) (set_leaves s) ≡ set_is_long s
set_long text scope (SetLit.Range low high) = refl
set_long text scope (SetLit.Braces values) =
    ap (λ b. nat_lt most_entries (length values) || b) (none_mapped (has_kind text scope FaultKind.TooMany) Leaf.Number values (λ t. refl)) ∙ or-false (nat_lt most_entries (length values))

elem_long : (text : List ℕ) (scope : Scope) (e : Elem) → list_any (has_kind text scope FaultKind.TooMany) (elem_leaves e) ≡ elem_is_long e
elem_long text scope Elem.True = refl
elem_long text scope Elem.False = refl
elem_long text scope (Elem.Int t) = refl
elem_long text scope (Elem.Float t) = refl
elem_long text scope (Elem.Name t) = refl
elem_long text scope (Elem.Set s) = set_long text scope s

pub expr_long : (text : List ℕ) (scope : Scope) (e : Expr) → list_any (has_kind text scope FaultKind.TooMany) (expr_leaves e) ≡ expr_is_long e
expr_long text scope (Expr.One e) = elem_long text scope e
expr_long text scope (Expr.Row es) =
    let p = has_kind text scope FaultKind.TooMany in
    ap (λ b. nat_lt most_entries (length es) || b) (any_flat_map p elem_leaves es ∙ any_same (λ e. list_any p (elem_leaves e)) elem_is_long es (elem_long text scope))

pub exprs_long : (text : List ℕ) (scope : Scope) (es : List Expr) → list_any (has_kind text scope FaultKind.TooMany) (flat_map expr_leaves es) ≡ list_any expr_is_long es
exprs_long text scope es =
    let p = has_kind text scope FaultKind.TooMany in
    any_flat_map p expr_leaves es ∙ any_same (λ e. list_any p (expr_leaves e)) expr_is_long es (expr_long text scope)

type_long : (text : List ℕ) (scope : Scope) (shape : Shape) → list_any (has_kind text scope FaultKind.TooMany) (type_leaves shape) ≡ shape_is_long shape
type_long text scope (Shape.VarIn s) = set_long text scope s
type_long text scope (Shape.VarSetIn s) = set_long text scope s
type_long text scope shape = refl

-- the lists of a declaration are those of its type and of its value
pub declaration_long : (text : List ℕ) (scope : Scope) (shape : Shape) (name : Token) (more : List Leaf)
    → list_any (has_kind text scope FaultKind.TooMany) (type_leaves shape ++ Leaf.Declared name ∷ more) ≡ (shape_is_long shape || list_any (has_kind text scope FaultKind.TooMany) more)
declaration_long text scope shape name more =
    let p = has_kind text scope FaultKind.TooMany in
    list_any-append p (type_leaves shape) (Leaf.Declared name ∷ more) ∙ ap (λ b. b || list_any p more) (type_long text scope shape)
