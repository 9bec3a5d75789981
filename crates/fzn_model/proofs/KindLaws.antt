-- The least kind of an item's tests is the first of its kinds in order.
use Rattle.std.proofs.Common.{◌≡◌, ℕ, List, [], ◌∷◌, ◌++◌, map, Bool, true, false, not, ◌&&◌, ◌||◌, cond, is_some, Option, Some, None, refl, ap, ◌∙◌}
use Rattle.std.specs.Prelude.{find}
use Rattle.std.specs.List.{list_any}
use Rattle.std.proofs.Math.Bool.{or-false}
use Rattle.std.proofs.lemmas.List.Folds.{list_any-append}
use Rattle.fzn_parser.specs.Items.{WhatTree}
use Rattle.constraint_model.specs.Fits.{has_long_row}
use Rattle.fzn_model.specs.declared.effect.Effect.{Effect}
use Rattle.fzn_model.specs.declared.fault_kinds.FaultKind.{FaultKind}
use Rattle.fzn_model.specs.declared.leaves.Leaf.{Leaf}
use Rattle.fzn_model.specs.FaultKinds.{kinds}
use Rattle.fzn_model.specs.Leaves.{leaves}
use Rattle.fzn_model.specs.Scopes.{Scope}
use Rattle.fzn_model.specs.Effects.{Reading, joined}
use Rattle.fzn_model.specs.Faults.{leaf_test, is_unsupported, has_wrong_argument, is_too_large, own_tests, place_tests, tells, least_kind}
use Rattle.fzn_model.specs.Drafts.{has_kind, has_leaf, declares_again, first_kind, own_kinds}
use Rattle.fzn_model.proofs.LeafLaws.{any_map, none_of, twice_is}

find_same : {A : Type 0} (p q : A → Bool) → ((x : A) → p x ≡ q x) → (xs : List A) → find p xs ≡ find q xs
find_same p q h [] = refl
find_same p q h (x ∷ xs) = ap (λ b. cond b (Some x) (find p xs)) (h x) ∙ ap (λ o. cond (q x) (Some x) o) (find_same p q h xs)

-- parts have faults of five kinds alone
abbrev Is : List ℕ → Scope → FaultKind → Type 0
Is text scope kind = (leaf : Leaf) → has_kind text scope kind leaf ≡ false

no_lex : (text : List ℕ) (scope : Scope) → Is text scope FaultKind.Lex
no_lex text scope (Leaf.Declared t) = refl
no_lex text scope (Leaf.Used t) = refl
no_lex text scope (Leaf.Constrained t) = refl
no_lex text scope (Leaf.Number t) = refl
no_lex text scope (Leaf.Entries n) = refl

no_syntax : (text : List ℕ) (scope : Scope) → Is text scope FaultKind.Syntax
no_syntax text scope (Leaf.Declared t) = refl
no_syntax text scope (Leaf.Used t) = refl
no_syntax text scope (Leaf.Constrained t) = refl
no_syntax text scope (Leaf.Number t) = refl
no_syntax text scope (Leaf.Entries n) = refl

no_argument : (text : List ℕ) (scope : Scope) → Is text scope FaultKind.WrongArgument
no_argument text scope (Leaf.Declared t) = refl
no_argument text scope (Leaf.Used t) = refl
no_argument text scope (Leaf.Constrained t) = refl
no_argument text scope (Leaf.Number t) = refl
no_argument text scope (Leaf.Entries n) = refl

no_type : (text : List ℕ) (scope : Scope) → Is text scope FaultKind.Unsupported
no_type text scope (Leaf.Declared t) = refl
no_type text scope (Leaf.Used t) = refl
no_type text scope (Leaf.Constrained t) = refl
no_type text scope (Leaf.Number t) = refl
no_type text scope (Leaf.Entries n) = refl

no_solve : (text : List ℕ) (scope : Scope) → Is text scope FaultKind.NoSolve
no_solve text scope (Leaf.Declared t) = refl
no_solve text scope (Leaf.Used t) = refl
no_solve text scope (Leaf.Constrained t) = refl
no_solve text scope (Leaf.Number t) = refl
no_solve text scope (Leaf.Entries n) = refl

no_place : (text : List ℕ) (scope : Scope) → Is text scope FaultKind.AfterSolve
no_place text scope (Leaf.Declared t) = refl
no_place text scope (Leaf.Used t) = refl
no_place text scope (Leaf.Constrained t) = refl
no_place text scope (Leaf.Number t) = refl
no_place text scope (Leaf.Entries n) = refl

no_length : (text : List ℕ) (scope : Scope) → Is text scope FaultKind.TooLong
no_length text scope (Leaf.Declared t) = refl
no_length text scope (Leaf.Used t) = refl
no_length text scope (Leaf.Constrained t) = refl
no_length text scope (Leaf.Number t) = refl
no_length text scope (Leaf.Entries n) = refl

abbrev wrong : List ℕ → Reading → WhatTree → Bool
wrong text before what = not (is_unsupported what) && has_wrong_argument text before.scope what

abbrev large : Reading → Effect → Bool
large before more = list_any has_long_row more.constraints || is_too_large (joined before more)

-- whether a test of this kind is met, of an item and of what it adds
abbrev is_met : List ℕ → Reading → WhatTree → Effect → FaultKind → Bool
is_met text before what more FaultKind.Lex = false
is_met text before what more FaultKind.Syntax = false
is_met text before what more FaultKind.NameTwice = declares_again text before.scope what
is_met text before what more FaultKind.NameUnknown = has_leaf text before.scope FaultKind.NameUnknown what
is_met text before what more FaultKind.UnknownConstraint = has_leaf text before.scope FaultKind.UnknownConstraint what
is_met text before what more FaultKind.WrongArgument = wrong text before what
is_met text before what more FaultKind.Unsupported = is_unsupported what
is_met text before what more FaultKind.OutOfRange = has_leaf text before.scope FaultKind.OutOfRange what
is_met text before what more FaultKind.TooMany = has_leaf text before.scope FaultKind.TooMany what || large before more
is_met text before what more FaultKind.NoSolve = false
is_met text before what more FaultKind.AfterSolve = is_some before.solved
is_met text before what more FaultKind.TooLong = false

abbrev two : List ℕ → Reading → WhatTree → List (FaultKind × Bool)
two text before what = (FaultKind.WrongArgument, wrong text before what) ∷ (FaultKind.Unsupported, is_unsupported what) ∷ []

-- of a part, of the item as a whole, or of what it adds
met_split : (text : List ℕ) (before : Reading) (what : WhatTree) (more : Effect) (kind : FaultKind)
    → list_any (tells kind) (own_tests text before.scope what ++ place_tests before more)
    ≡ ((has_leaf text before.scope kind what || list_any (tells kind) (two text before what)) || list_any (tells kind) (place_tests before more))
met_split text before what more kind =
    let parts : List (FaultKind × Bool) = map (leaf_test text before.scope) (leaves what) in
    list_any-append (tells kind) (own_tests text before.scope what) (place_tests before more)
    ∙ (ap (λ b. b || list_any (tells kind) (place_tests before more)) (list_any-append (tells kind) parts (two text before what))
    ∙ ap (λ b. (b || list_any (tells kind) (two text before what)) || list_any (tells kind) (place_tests before more)) (any_map (tells kind) (leaf_test text before.scope) (leaves what)))

nothing_more : (b : Bool) → ((b || false) || false) ≡ b
nothing_more b = or-false (b || false) ∙ or-false b

met_is : (text : List ℕ) (before : Reading) (what : WhatTree) (more : Effect) (kind : FaultKind)
    → ((has_leaf text before.scope kind what || list_any (tells kind) (two text before what)) || list_any (tells kind) (place_tests before more)) ≡ is_met text before what more kind
met_is text before what more FaultKind.Lex = nothing_more (has_leaf text before.scope FaultKind.Lex what) ∙ none_of (has_kind text before.scope FaultKind.Lex) (leaves what) (no_lex text before.scope)
met_is text before what more FaultKind.Syntax = nothing_more (has_leaf text before.scope FaultKind.Syntax what) ∙ none_of (has_kind text before.scope FaultKind.Syntax) (leaves what) (no_syntax text before.scope)
met_is text before what more FaultKind.NameTwice = nothing_more (has_leaf text before.scope FaultKind.NameTwice what) ∙ twice_is text before.scope what
met_is text before what more FaultKind.NameUnknown = nothing_more (has_leaf text before.scope FaultKind.NameUnknown what)
met_is text before what more FaultKind.UnknownConstraint = nothing_more (has_leaf text before.scope FaultKind.UnknownConstraint what)
met_is text before what more FaultKind.WrongArgument =
    ap (λ b. (b || (wrong text before what || false)) || false) (none_of (has_kind text before.scope FaultKind.WrongArgument) (leaves what) (no_argument text before.scope)) ∙ nothing_more (wrong text before what)
met_is text before what more FaultKind.Unsupported =
    ap (λ b. (b || (is_unsupported what || false)) || false) (none_of (has_kind text before.scope FaultKind.Unsupported) (leaves what) (no_type text before.scope)) ∙ nothing_more (is_unsupported what)
met_is text before what more FaultKind.OutOfRange = nothing_more (has_leaf text before.scope FaultKind.OutOfRange what)
met_is text before what more FaultKind.TooMany =
    let has : Bool = has_leaf text before.scope FaultKind.TooMany what in
    ap (λ b. b || (large before more || false)) (or-false has) ∙ ap (λ b. has || b) (or-false (large before more))
met_is text before what more FaultKind.NoSolve = nothing_more (has_leaf text before.scope FaultKind.NoSolve what) ∙ none_of (has_kind text before.scope FaultKind.NoSolve) (leaves what) (no_solve text before.scope)
met_is text before what more FaultKind.AfterSolve =
    ap (λ b. (b || false) || (is_some before.solved || false)) (none_of (has_kind text before.scope FaultKind.AfterSolve) (leaves what) (no_place text before.scope)) ∙ or-false (is_some before.solved)
met_is text before what more FaultKind.TooLong = nothing_more (has_leaf text before.scope FaultKind.TooLong what) ∙ none_of (has_kind text before.scope FaultKind.TooLong) (leaves what) (no_length text before.scope)

one_of_two : {A : Type 0} (a b : Bool) (x y : A) → cond (a || b) x y ≡ cond a x (cond b x y)
one_of_two true b x y = refl
one_of_two false b x y = refl

-- the least kind of all tests is the first in order of those that an item has and that what it adds has
pub least_is_first : (text : List ℕ) (before : Reading) (what : WhatTree) (more : Effect)
    → least_kind (own_tests text before.scope what ++ place_tests before more) ≡ first_kind (own_kinds text before.scope what ++ place_tests before more)
unfolding least_kind
least_is_first text before what more =
    let scope : Scope = before.scope in
    let last : Option FaultKind = cond (is_some before.solved) (Some FaultKind.AfterSolve) None in
    find_same (λ kind. list_any (tells kind) (own_tests text scope what ++ place_tests before more)) (is_met text before what more)
    (λ kind. met_split text before what more kind ∙ met_is text before what more kind) kinds
    ∙ ap (λ o. cond (declares_again text scope what) (Some FaultKind.NameTwice)
    (cond (has_leaf text scope FaultKind.NameUnknown what) (Some FaultKind.NameUnknown)
    (cond (has_leaf text scope FaultKind.UnknownConstraint what) (Some FaultKind.UnknownConstraint)
    (cond (wrong text before what) (Some FaultKind.WrongArgument)
    (cond (is_unsupported what) (Some FaultKind.Unsupported)
    (cond (has_leaf text scope FaultKind.OutOfRange what) (Some FaultKind.OutOfRange) o))))))
    (one_of_two (has_leaf text scope FaultKind.TooMany what) (large before more) (Some FaultKind.TooMany) last)
