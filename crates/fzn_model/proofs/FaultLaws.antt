-- The first fault of two lists of tests, and what an item without a fault declares.
use Rattle.std.proofs.Common.{◌≡◌, ℕ, List, [], ◌∷◌, ◌++◌, Bool, true, false, not, ◌&&◌, cond, Option, Some, None, refl, sym, ◌∙◌, ap, is_none, is_some, option_map, true≢false}
use Rattle.std.specs.Option.{IfSome}
use Rattle.fzn_parser.specs.declared.tree.Shape.{Shape}
use Rattle.fzn_parser.specs.Notes.{AnnTree}
use Rattle.fzn_parser.specs.Items.{WhatTree, predicate_item, scalar_item, array_item, constraint_item, solve_item}
use Rattle.fzn_parser.specs.Texts.{spelling}
use Rattle.fzn_model.specs.declared.fault_kinds.FaultKind.{FaultKind}
use Rattle.fzn_model.specs.declared.stop.Stop.{Stop}
use Rattle.constraint_model.specs.declared.meanings.Meaning.{Meaning}
use Rattle.constraint_model.specs.declared.table.ConstraintName.{ConstraintName}
use Rattle.fzn_model.specs.Scopes.{Scope, meaning_of, expr_meaning}
use Rattle.constraint_model.specs.Fits.{named, constraint_on}
use Rattle.fzn_model.specs.declared.effect.Effect.{Effect}
use Rattle.fzn_model.specs.Effects.{effect_of, no_effect, scalar_effect, variable_effect, parameter_effect, constraint_alone, meanings_of, value_of, declares_variable}
use Rattle.fzn_model.specs.Faults.{Refuses}
use Rattle.fzn_model.specs.Drafts.{declares_again, first_kind, later_kinds, own_kinds, is_new}

pub first_own : (xs ys : List (FaultKind × Bool)) (k : FaultKind) → first_kind xs ≡ Some k → first_kind (xs ++ ys) ≡ Some k
first_own [] ys k e = absurd (true≢false (sym (ap is_some e)))
first_own (x ∷ xs) ys k e = by x.1 (first_own xs ys k) e
  where
    by : (b : Bool) → (first_kind xs ≡ Some k → first_kind (xs ++ ys) ≡ Some k) → cond b (Some x.0) (first_kind xs) ≡ Some k → cond b (Some x.0) (first_kind (xs ++ ys)) ≡ Some k
    by true f e = e
    by false f e = f e

pub first_place : (xs ys : List (FaultKind × Bool)) → first_kind xs ≡ None → first_kind (xs ++ ys) ≡ first_kind ys
first_place [] ys e = refl
first_place (x ∷ xs) ys e = by x.1 (first_place xs ys) e
  where
    by : (b : Bool) → (first_kind xs ≡ None → first_kind (xs ++ ys) ≡ first_kind ys) → cond b (Some x.0) (first_kind xs) ≡ None → cond b (Some x.0) (first_kind (xs ++ ys)) ≡ first_kind ys
    by true f e = absurd (true≢false (ap is_some e))
    by false f e = f e

-- what is refused by the first tests is refused by all
pub refused_own : (xs ys : List (FaultKind × Bool)) (s : Stop) → Refuses (first_kind xs) s → Refuses (first_kind (xs ++ ys)) s
refused_own xs ys (Stop.Fault k) h = first_own xs ys k h
refused_own xs ys Stop.NoMemory h = tt

-- what passes the first tests is refused by all where the others refuse it
pub refused_place : (xs ys : List (FaultKind × Bool)) (s : Stop) → first_kind xs ≡ None → Refuses (first_kind ys) s → Refuses (first_kind (xs ++ ys)) s
refused_place xs ys (Stop.Fault k) e h = first_place xs ys e ∙ h
refused_place xs ys Stop.NoMemory e h = tt

-- what passes its own tests, but may declare a name again, is refused by all where the others refuse it
twice_or : (again : Bool) (xs ys : List (FaultKind × Bool)) (s : Stop) → (again ≡ false → first_kind ((FaultKind.NameTwice, again) ∷ xs) ≡ None) → Refuses (first_kind ys) s
    → Refuses (first_kind (((FaultKind.NameTwice, again) ∷ xs) ++ ys)) (cond again (Stop.Fault FaultKind.NameTwice) s)
twice_or true xs ys s e h = refl
twice_or false xs ys s e h = refused_place ((FaultKind.NameTwice, false) ∷ xs) ys s (e refl) h

pub refused_twice : (text : List ℕ) (scope : Scope) (what : WhatTree) (ys : List (FaultKind × Bool)) (s : Stop)
    → (declares_again text scope what ≡ false → first_kind (own_kinds text scope what) ≡ None) → Refuses (first_kind ys) s
    → Refuses (first_kind (own_kinds text scope what ++ ys)) (cond (declares_again text scope what) (Stop.Fault FaultKind.NameTwice) s)
refused_twice text scope what ys s e h = twice_or (declares_again text scope what) (later_kinds text scope what) ys s e h

-- that a name is declared again is the least of all
pub twice_least : (text : List ℕ) (scope : Scope) (what : WhatTree) (ys : List (FaultKind × Bool)) → declares_again text scope what ≡ true
    → first_kind (own_kinds text scope what ++ ys) ≡ Some FaultKind.NameTwice
twice_least text scope what ys e = ap (λ (b : Bool). cond b (Some FaultKind.NameTwice) (first_kind (later_kinds text scope what ++ ys))) e

lone : (o : Option Meaning) → is_none o ≡ not (is_some o)
lone None = refl
lone (Some m) = refl

-- something is declared exactly where it has a name that wasn't declared, unless `again`
abbrev TellsNew : Scope → Bool → Option (List ℕ × Meaning) → Type 0
TellsNew scope again declared = IfSome declared (λ d. is_none (meaning_of scope d.0) ≡ not again)

new_pair : (scope : Scope) (name : List ℕ) (value : Option Meaning) → TellsNew scope (is_some (meaning_of scope name)) (option_map (λ (m : Meaning). (name, m)) value)
new_pair scope name None = tt
new_pair scope name (Some m) = lone (meaning_of scope name)

new_scalar : (text : List ℕ) (scope : Scope) (count : ℕ) (shape : Shape) (name : List ℕ) (notes : List AnnTree) (value : Option Meaning)
    → TellsNew scope (is_some (meaning_of scope name)) (scalar_effect text count shape name notes value).declared
new_scalar text scope count shape name notes value = by (declares_variable shape)
  where
    by : (b : Bool) → TellsNew scope (is_some (meaning_of scope name)) (cond b (variable_effect text count shape name notes value) (parameter_effect text shape name notes value)).declared
    by true = lone (meaning_of scope name)
    by false = new_pair scope name value

-- what an item declares is new where the item declares no name again
new_effect : (text : List ℕ) (scope : Scope) (count : ℕ) (what : WhatTree) → TellsNew scope (declares_again text scope what) (effect_of text scope count what).declared
unfolding effect_of
new_effect text scope count (predicate_item tokens) = tt
new_effect text scope count (scalar_item shape name notes value) = new_scalar text scope count shape (spelling text name) notes (value_of text scope value)
new_effect text scope count (array_item low high shape name notes value) = new_pair scope (spelling text name) (expr_meaning text scope value)
new_effect text scope count (constraint_item name args notes) = by (named (spelling text name))
  where
    chosen : Option ConstraintName → Effect
    chosen o = elim o [ None ↦ no_effect | Some known ↦ constraint_alone (constraint_on known (meanings_of text scope args)) ]

    by : (o : Option ConstraintName) → TellsNew scope false (chosen o).declared
    by None = tt
    by (Some known) = tt
new_effect text scope count (solve_item notes aim) = tt

told : (scope : Scope) (again : Bool) (declared : Option (List ℕ × Meaning)) → TellsNew scope again declared → (is_none declared && again) ≡ false → is_new scope declared ≡ not again
told scope true None h e = absurd (true≢false e)
told scope false None h e = refl
told scope again (Some d) h e = h

-- an item declares a new name, or none, exactly where it declares no name again
pub is_new_effect : (text : List ℕ) (scope : Scope) (count : ℕ) (what : WhatTree) → (is_none (effect_of text scope count what).declared && declares_again text scope what) ≡ false
    → is_new scope (effect_of text scope count what).declared ≡ not (declares_again text scope what)
is_new_effect text scope count what e = told scope (declares_again text scope what) (effect_of text scope count what).declared (new_effect text scope count what) e

-- what isn't new is declared again
pub twice_told : (again new : Bool) → new ≡ not again → new ≡ false → again ≡ true
twice_told true new e f = refl
twice_told false new e f = absurd (true≢false (sym e ∙ f))
