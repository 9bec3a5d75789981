-- Why an item is refused, after the items before it: the least kind of those whose tests it meets.
use Rattle.std.specs.Prelude.{◌≡◌, ℕ, pos, List, [], ◌∷◌, ◌++◌, map, length, find, Bool, true, false, not, ◌&&◌, ◌||◌, nat_eq, nat_lt, is_some, is_none, Option, Some, None}
use Rattle.std.specs.List.{list_any, list_all}
use Rattle.std.specs.Ordering.{int_eq}
use Rattle.fzn_lexer.specs.declared.Token.{Token}
use Rattle.fzn_parser.specs.declared.tree.Expr.{Expr}
use Rattle.fzn_parser.specs.declared.tree.Shape.{Shape}
use Rattle.fzn_parser.specs.declared.tree.Aim.{Aim}
use Rattle.fzn_parser.specs.Items.{WhatTree, predicate_item, scalar_item, array_item, constraint_item, solve_item}
use Rattle.fzn_parser.specs.Texts.{spelling}
use Rattle.constraint_model.specs.declared.meanings.Meaning.{Meaning}
use Rattle.constraint_model.specs.declared.meanings.Scalar.{Scalar}
use Rattle.constraint_model.specs.declared.table.Letter.{Letter}
use Rattle.fzn_model.specs.declared.fault_kinds.FaultKind.{FaultKind}
use Rattle.fzn_model.specs.declared.stop.Stop.{Stop}
use Rattle.fzn_model.specs.declared.effect.Effect.{Effect}
use Rattle.fzn_model.specs.declared.leaves.Leaf.{Leaf}
use Rattle.fzn_model.specs.FaultKinds.{kind_number, kinds}
use Rattle.fzn_model.specs.Leaves.{leaves}
use Rattle.fzn_model.specs.Literals.{number_of}
use Rattle.fzn_model.specs.Scopes.{Scope, meaning_of, expr_meaning}
use Rattle.constraint_model.specs.Limits.{most_vars, most_entries, most_kernels, most_constants}
use Rattle.constraint_model.specs.Fits.{named, fits, row_for, is_constant, has_long_row}
use Rattle.fzn_model.specs.Effects.{Reading, joined, effect_of, meanings_of}

-- ---- the leaves of an item

abbrev pub is_declared : List ℕ → Scope → Token → Bool
is_declared text scope t = is_some (meaning_of scope (spelling text t))

-- the test of a leaf, with the kind of its fault where the test is met: a name was declared before, or wasn't; no constraint is
-- spelled so; an integer literal isn't in the profile; a list is too long
abbrev pub leaf_test : List ℕ → Scope → Leaf → FaultKind × Bool
leaf_test text scope (Leaf.Declared t) = (FaultKind.NameTwice, is_declared text scope t)
leaf_test text scope (Leaf.Used t) = (FaultKind.NameUnknown, not (is_declared text scope t))
leaf_test text scope (Leaf.Constrained t) = (FaultKind.UnknownConstraint, is_none (named (spelling text t)))
leaf_test text scope (Leaf.Number t) = (FaultKind.OutOfRange, is_none (number_of (spelling text t)))
leaf_test text scope (Leaf.Entries n) = (FaultKind.TooMany, nat_lt most_entries n)

-- ---- constraints and types

abbrev pub if_some : {A : Type 0} → (A → Bool) → Option A → Bool
if_some test (Some x) = test x
if_some test None = false

-- a boolean or an integer is of this type, or may be an entry of an array of such elements
abbrev pub scalar_fits : Shape → Scalar → Bool
scalar_fits Shape.Bool s = s.is_bool && is_constant s
scalar_fits Shape.Int s = not s.is_bool && is_constant s
scalar_fits Shape.VarBool s = s.is_bool
scalar_fits Shape.VarInt s = not s.is_bool
scalar_fits (Shape.VarIn set) s = not s.is_bool
scalar_fits _ s = false

-- set types
abbrev pub is_set_type : Shape → Bool
is_set_type Shape.SetOfInt = true
is_set_type _ = false

-- a value is of the declared type: of a scalar's, and of an array's elements
abbrev pub fits_scalar_type : Shape → Meaning → Bool
fits_scalar_type shape (Meaning.One s) = scalar_fits shape s
fits_scalar_type shape (Meaning.Set ranges) = is_set_type shape
fits_scalar_type shape (Meaning.Row array) = false

abbrev pub fits_array_type : Shape → Meaning → Bool
fits_array_type shape (Meaning.Row array) = list_all (scalar_fits shape) array.entries
fits_array_type shape _ = false

abbrev pub is_number : List ℕ → Token → ℕ → Bool
is_number text t m = if_some (int_eq (pos m)) (number_of (spelling text t))

-- the index set is 1..n for n entries
abbrev pub is_index_set : List ℕ → Token → Token → ℕ → Bool
is_index_set text low high n = is_number text low 1 && is_number text high n

-- an array is declared with an array literal that has an entry for each index
abbrev pub has_index_set : List ℕ → Token → Token → Expr → Bool
has_index_set text low high (Expr.Row es) = is_index_set text low high (length es)
has_index_set text low high (Expr.One e) = false

abbrev pub value_fits : List ℕ → Scope → (Meaning → Bool) → Expr → Bool
value_fits text scope test e = if_some test (expr_meaning text scope e)

-- each argument denotes something
abbrev pub all_mean : List ℕ → Scope → List Expr → Bool
all_mean text scope args = list_all (λ e. is_some (expr_meaning text scope e)) args

-- each argument denotes something, and together they fit a row of the constraint's
abbrev pub arguments_fit : List ℕ → Scope → List ℕ → List Expr → Bool
arguments_fit text scope name args =
    all_mean text scope args && if_some (λ known. is_some (row_for known (meanings_of text scope args))) (named name)

-- the objective is an integer, constant or variable
abbrev pub aim_fits : List ℕ → Scope → Aim → Bool
aim_fits text scope Aim.Satisfy = true
aim_fits text scope (Aim.Minimize e) = value_fits text scope (fits Letter.Integer) e
aim_fits text scope (Aim.Maximize e) = value_fits text scope (fits Letter.Integer) e

-- a scalar is declared with a value that isn't of its type
abbrev pub is_wrong_value : List ℕ → Scope → Shape → Option Expr → Bool
is_wrong_value text scope shape value = if_some (λ e. not (value_fits text scope (fits_scalar_type shape) e)) value

abbrev pub is_wrong_row : List ℕ → Scope → Token → Token → Shape → Expr → Bool
is_wrong_row text scope low high shape value = not (has_index_set text low high value && value_fits text scope (fits_array_type shape) value)

-- arguments, a value, an index set or an objective don't fit
abbrev pub has_wrong_argument : List ℕ → Scope → WhatTree → Bool
has_wrong_argument text scope (predicate_item tokens) = false
has_wrong_argument text scope (scalar_item shape name notes value) = is_wrong_value text scope shape value
has_wrong_argument text scope (array_item low high shape name notes value) = is_wrong_row text scope low high shape value
has_wrong_argument text scope (constraint_item name args notes) = not (arguments_fit text scope (spelling text name) args)
has_wrong_argument text scope (solve_item notes aim) = not (aim_fits text scope aim)

-- types with floats, variables of sets
abbrev pub is_unsupported_type : Shape → Bool
is_unsupported_type Shape.Float = true
is_unsupported_type Shape.VarFloat = true
is_unsupported_type (Shape.VarFloats low high) = true
is_unsupported_type Shape.VarSet = true
is_unsupported_type (Shape.VarSetIn s) = true
is_unsupported_type _ = false

-- the declared type isn't taken
abbrev pub is_unsupported : WhatTree → Bool
is_unsupported (scalar_item shape name notes value) = is_unsupported_type shape
is_unsupported (array_item low high shape name notes value) = is_unsupported_type shape || is_set_type shape
is_unsupported _ = false

-- ---- limits

-- a limit is passed
abbrev pub is_too_large : Reading → Bool
is_too_large r = nat_lt most_vars (length r.vars) || nat_lt most_kernels r.kernels || nat_lt most_constants (length r.constants)

-- ---- the fault

-- the tests of an item by itself and by the declarations before it: those of its leaves, what doesn't fit, and
-- its type
abbrev pub own_tests : List ℕ → Scope → WhatTree → List (FaultKind × Bool)
own_tests text scope what = map (leaf_test text scope) (leaves what)
    ++ (FaultKind.WrongArgument, not (is_unsupported what) && has_wrong_argument text scope what)
    ∷ (FaultKind.Unsupported, is_unsupported what) ∷ []

-- the tests of what an item adds to what the items before it declare and ask for
abbrev pub place_tests : Reading → Effect → List (FaultKind × Bool)
place_tests before more =
    (FaultKind.TooMany, list_any has_long_row more.constraints || is_too_large (joined before more)) ∷ (FaultKind.AfterSolve, is_some before.solved) ∷ []

-- a test of this kind that is met
abbrev pub tells : FaultKind → FaultKind × Bool → Bool
tells kind t = nat_eq (kind_number t.0) (kind_number kind) && t.1

-- the least kind of which a test is met
unfoldable pub least_kind : List (FaultKind × Bool) → Option FaultKind
least_kind tests = find (λ kind. list_any (tells kind) tests) kinds

-- the least kind of fault that an item has, after the items before it
unfoldable pub fault_of : List ℕ → Reading → WhatTree → Option FaultKind
fault_of text before what = least_kind (own_tests text before.scope what ++ place_tests before (effect_of text before.scope (length before.vars) what))

-- an answer of this kind alone, and only where this holds; memory may be refused at any time
abbrev pub OnlyFault : FaultKind → Type 0 → Stop → Type 0
OnlyFault kind P (Stop.Fault k) = (k ≡ kind) × P
OnlyFault kind P Stop.NoMemory = Unit {0}

-- why an item isn't taken: this is its fault; memory may be refused at any time
abbrev pub Refuses : Option FaultKind → Stop → Type 0
Refuses fault (Stop.Fault kind) = fault ≡ Some kind
Refuses fault Stop.NoMemory = Unit {0}
