-- A draft of the model, as what some items of the text declare and ask for.
use Rattle.std.specs.Prelude.{◌≡◌, ◌+◌, ℕ, List, [], ◌∷◌, ◌++◌, length, map, fold, flat_map, sum_by, Bool, true, false, not, ◌&&◌, cond, Option, Some, None, is_none, option_to_list}
use Rattle.std.specs.List.{list_any}
use Rattle.std.specs.Option.{option_or}
use Rattle.fzn_parser.specs.Items.{WhatTree, scalar_item, array_item}
use Rattle.fzn_model.specs.declared.draft.Draft.{Draft}
use Rattle.fzn_model.specs.declared.effect.Effect.{Effect}
use Rattle.fzn_model.specs.declared.fault_kinds.FaultKind.{FaultKind}
use Rattle.fzn_model.specs.declared.leaves.Leaf.{Leaf}
use Rattle.fzn_parser.specs.declared.tree.Elem.{Elem}
use Rattle.fzn_parser.specs.declared.tree.Expr.{Expr}
use Rattle.fzn_model.specs.Leaves.{elem_leaves, leaves}
use Rattle.constraint_model.specs.declared.meanings.Meaning.{Meaning}
use Rattle.constraint_model.specs.Fits.{add_once, constants_in, kernels_of}
use Rattle.fzn_model.specs.Scopes.{Scope, meaning_of}
use Rattle.fzn_model.specs.Effects.{Reading, numbered, arrays_in, solved_constants}
use Rattle.fzn_model.specs.Faults.{is_declared, leaf_test, tells, is_unsupported, has_wrong_argument}

abbrev pub seen : Draft → Reading
seen d = record {
  scope = d.scope;
  vars = d.vars;
  arrays = d.constants.arrays;
  constraints = d.constraints;
  output = d.output;
  solved = d.solved;
  constants = d.constants.numbers;
  kernels = d.kernels;
}

-- what an item adds is counted
abbrev pub counted : Reading → Effect → Reading
counted before more = record {
  scope = before.scope;
  vars = before.vars;
  arrays = before.arrays;
  constraints = before.constraints;
  output = before.output;
  solved = before.solved;
  constants = fold add_once (fold add_once before.constants (flat_map constants_in more.constraints)) (solved_constants more.solved);
  kernels = before.kernels + sum_by kernels_of more.constraints;
}

-- what an item adds is appended; it was counted before
abbrev pub put : Reading → Effect → Reading
put before more = record {
  scope = before.scope ++ map (numbered (length before.arrays)) (option_to_list more.declared);
  vars = before.vars ++ option_to_list more.var;
  arrays = before.arrays ++ flat_map arrays_in (option_to_list more.declared);
  constraints = before.constraints ++ more.constraints;
  output = before.output ++ option_to_list more.output;
  solved = option_or before.solved more.solved;
  constants = before.constants;
  kernels = before.kernels;
}

-- what is declared, where something is, has a name that wasn't declared
abbrev pub is_new : Scope → Option (List ℕ × Meaning) → Bool
is_new scope None = true
is_new scope (Some d) = is_none (meaning_of scope d.0)

-- ---- faults by their kinds, for private clauses

-- the leaf has a fault of this kind
abbrev pub has_kind : List ℕ → Scope → FaultKind → Leaf → Bool
has_kind text scope kind leaf = tells kind (leaf_test text scope leaf)

-- the entries of an array literal
abbrev pub elems_of : Expr → List Elem
elems_of (Expr.One e) = []
elems_of (Expr.Row es) = es

-- the entries of the array that the item declares
abbrev pub elems_in : WhatTree → List Elem
elems_in (array_item low high shape name notes value) = elems_of value
elems_in _ = []

-- no leaf of these entries has a fault of this kind
abbrev pub HaveNone : List ℕ → Scope → FaultKind → List Elem → Type 0
HaveNone text scope kind es = list_any (λ e. list_any (has_kind text scope kind) (elem_leaves e)) es ≡ false

-- no leaf of these entries passes a limit
abbrev pub AreSure : List ℕ → Scope → List Elem → Type 0
AreSure text scope es = HaveNone text scope FaultKind.OutOfRange es × HaveNone text scope FaultKind.TooMany es

-- a leaf of the item has a fault of this kind
abbrev pub has_leaf : List ℕ → Scope → FaultKind → WhatTree → Bool
has_leaf text scope kind what = list_any (has_kind text scope kind) (leaves what)

-- the item declares a name that an earlier item declared
abbrev pub declares_again : List ℕ → Scope → WhatTree → Bool
declares_again text scope (scalar_item shape name notes value) = is_declared text scope name
declares_again text scope (array_item low high shape name notes value) = is_declared text scope name
declares_again text scope _ = false

-- the first kind whose test is met
abbrev pub first_kind : List (FaultKind × Bool) → Option FaultKind
first_kind [] = None
first_kind (t ∷ ts) = cond t.1 (Some t.0) (first_kind ts)

-- the kinds of fault that an item may have by itself or by the declarations before it, all but `NameTwice`, the least first, with
-- their tests
abbrev pub later_kinds : List ℕ → Scope → WhatTree → List (FaultKind × Bool)
later_kinds text scope what =
    (FaultKind.NameUnknown, has_leaf text scope FaultKind.NameUnknown what)
    ∷ (FaultKind.UnknownConstraint, has_leaf text scope FaultKind.UnknownConstraint what)
    ∷ (FaultKind.WrongArgument, not (is_unsupported what) && has_wrong_argument text scope what)
    ∷ (FaultKind.Unsupported, is_unsupported what)
    ∷ (FaultKind.OutOfRange, has_leaf text scope FaultKind.OutOfRange what)
    ∷ (FaultKind.TooMany, has_leaf text scope FaultKind.TooMany what)
    ∷ []

-- the same with `NameTwice`, which is the least
abbrev pub own_kinds : List ℕ → Scope → WhatTree → List (FaultKind × Bool)
own_kinds text scope what = (FaultKind.NameTwice, declares_again text scope what) ∷ later_kinds text scope what
