-- After any items the arrays of a number are the declared ones at that place: those that names stand for, and those that
-- stand in constraints.
use Rattle.std.proofs.Common.{◌≡◌, ℕ, zero, suc, List, [], ◌∷◌, ◌++◌, length, map, Bool, true, false, cond, Option, Some, None, refl}
use Rattle.std.specs.Prelude.{fold, flat_map, option_map, option_to_list, slice_get}
use Rattle.std.specs.List.{AllByRecursion as Each, All, cons_option}
use Rattle.std.specs.Option.{IfSome}
use Rattle.std.proofs.lemmas.Option.{none-some}
use Rattle.std.proofs.lemmas.List.Elements.{All-weaker, All-from_recursion, recursion_from_All}
use Rattle.fzn_parser.specs.declared.tree.SetLit.{SetLit}
use Rattle.fzn_parser.specs.declared.tree.Elem.{Elem}
use Rattle.fzn_parser.specs.declared.tree.Expr.{Expr}
use Rattle.fzn_parser.specs.declared.tree.Shape.{Shape}
use Rattle.fzn_parser.specs.Notes.{AnnTree}
use Rattle.fzn_parser.specs.Items.{WhatTree, predicate_item, scalar_item, array_item, constraint_item, solve_item}
use Rattle.fzn_parser.specs.Parsing.{ItemTree}
use Rattle.fzn_parser.specs.Texts.{spelling}
use Rattle.constraint_model.specs.declared.model.Term.{Term}
use Rattle.constraint_model.specs.declared.model.Operand.{Operand}
use Rattle.constraint_model.specs.declared.model.Constraint.{Constraint}
use Rattle.constraint_model.specs.declared.meanings.Scalar.{Scalar}
use Rattle.constraint_model.specs.declared.meanings.Meaning.{Meaning}
use Rattle.constraint_model.specs.declared.table.ConstraintName.{ConstraintName}
use Rattle.constraint_model.specs.Arrays.{HasNumber}
use Rattle.constraint_model.specs.Fits.{named, operand_of, constraint_on}
use Rattle.constraint_model.specs.Ranges.{Range}
use Rattle.fzn_model.specs.declared.effect.Effect.{Effect}
use Rattle.fzn_model.specs.Scopes.{Scope, AreNumbered, entry_at, all_some, array_literal, simple_at, expr_meaning}
use Rattle.fzn_model.specs.Effects.{Reading, nothing, numbered, with_number, arrays_in, array_terms, membership, equality, domain_constraints, value_constraints, element_constraints, is_bool_shape, declares_variable, term_in, terms_in, value_of, variable_effect, parameter_effect, scalar_effect, meanings_of, no_effect, constraint_alone, effect_of, with_item, reading_of}
use Rattle.constraint_model.specs.Arrays.{HaveNumbers}
use Rattle.fzn_model.proofs.MeaningLaws.{each_append, each_weaker, found}

-- ---- more arrays

get_stays : {X : Type 0} (xs ys : List X) (k : ℕ) (x : X) → slice_get xs k ≡ Some x → slice_get (xs ++ ys) k ≡ Some x
get_stays [] ys k x e = absurd (none-some x e)
get_stays (y ∷ xs) ys zero x e = e
get_stays (y ∷ xs) ys (suc k) x e = get_stays xs ys k x e

-- what is put behind a list stands at the place of its length
get_next : {X : Type 0} (xs : List X) (x : X) → slice_get (xs ++ x ∷ []) (length xs) ≡ Some x
get_next [] x = refl
get_next (y ∷ xs) x = get_next xs x

number_stays : (arrays more : List (List Term)) (o : Operand) → HasNumber arrays o → HasNumber (arrays ++ more) o
number_stays arrays more (Operand.One t) h = tt
number_stays arrays more (Operand.Row row) h = by row.number h
  where
    by : (o : Option ℕ) → IfSome o (λ n. slice_get arrays n ≡ Some row.terms) → IfSome o (λ n. slice_get (arrays ++ more) n ≡ Some row.terms)
    by None k = tt
    by (Some n) k = get_stays arrays more n row.terms k
number_stays arrays more (Operand.Set ranges) h = tt

-- ---- what names and expressions stand for

abbrev IsNumbered : List (List Term) → Meaning → Type 0
IsNumbered arrays m = HasNumber arrays (operand_of m)

abbrev EachNumbered : List (List Term) → Scope → Type 0
EachNumbered arrays scope = Each (λ (d : List ℕ × Meaning). IsNumbered arrays d.1) scope

simple_numbered : (arrays : List (List Term)) (text : List ℕ) (scope : Scope) → EachNumbered arrays scope → (e : Elem) → IfSome (simple_at text scope e) (IsNumbered arrays)
simple_numbered arrays text scope h Elem.True = tt
simple_numbered arrays text scope h Elem.False = tt
simple_numbered arrays text scope h (Elem.Int t) = tt
simple_numbered arrays text scope h (Elem.Float t) = tt
simple_numbered arrays text scope h (Elem.Name t) = found (IsNumbered arrays) scope (spelling text t) h
simple_numbered arrays text scope h (Elem.Set s) = tt

-- an array literal has no number
literal_numbered : (arrays : List (List Term)) (o : Option (List Scalar)) → IfSome (option_map array_literal o) (IsNumbered arrays)
literal_numbered arrays None = tt
literal_numbered arrays (Some entries) = tt

meaning_numbered : (arrays : List (List Term)) (text : List ℕ) (scope : Scope) → EachNumbered arrays scope → (e : Expr) → IfSome (expr_meaning text scope e) (IsNumbered arrays)
unfolding expr_meaning
meaning_numbered arrays text scope h (Expr.One e) = simple_numbered arrays text scope h e
meaning_numbered arrays text scope h (Expr.Row es) = literal_numbered arrays (all_some (map (entry_at text scope) es))

-- ---- what an item adds

abbrev HasNumbers : List (List Term) → Constraint → Type 0
HasNumbers arrays c = All (HasNumber arrays) c.operands

abbrev AddsNumbers : List (List Term) → Effect → Type 0
AddsNumbers arrays more = Each (HasNumbers arrays) more.constraints

operands_numbered : (arrays : List (List Term)) (text : List ℕ) (scope : Scope) → EachNumbered arrays scope → (args : List Expr) → Each (HasNumber arrays) (map operand_of (meanings_of text scope args))
operands_numbered arrays text scope h [] = tt
operands_numbered arrays text scope h (e ∷ es) = by (expr_meaning text scope e) (meaning_numbered arrays text scope h e) (operands_numbered arrays text scope h es)
  where
    by : (o : Option Meaning) → IfSome o (IsNumbered arrays) → Each (HasNumber arrays) (map operand_of (meanings_of text scope es)) → Each (HasNumber arrays) (map operand_of (cons_option o (meanings_of text scope es)))
    by None k rest = rest
    by (Some m) k rest = (k, rest)

member_numbered : (arrays : List (List Term)) (t : Term) (ranges : List Range) → HasNumbers arrays (membership t ranges)
member_numbered arrays t ranges = All-from_recursion (HasNumber arrays) (Operand.One t ∷ Operand.Set ranges ∷ []) (tt, (tt, tt))

equal_numbered : (arrays : List (List Term)) (is_bool : Bool) (x t : Term) → HasNumbers arrays (equality is_bool x t)
equal_numbered arrays is_bool x t = All-from_recursion (HasNumber arrays) (Operand.One x ∷ Operand.One t ∷ []) (tt, (tt, tt))

domain_numbered : (arrays : List (List Term)) (text : List ℕ) (shape : Shape) (x : Term) → Each (HasNumbers arrays) (domain_constraints text shape x)
domain_numbered arrays text (Shape.VarIn (SetLit.Braces values)) x = (member_numbered arrays x _, tt)
domain_numbered arrays text (Shape.VarIn (SetLit.Range low high)) x = tt
domain_numbered arrays text shape x = tt

value_numbered : (arrays : List (List Term)) (shape : Shape) (x : Term) (o : Option Term) → Each (HasNumbers arrays) (option_to_list (option_map (equality (is_bool_shape shape) x) o))
value_numbered arrays shape x None = tt
value_numbered arrays shape x (Some t) = (equal_numbered arrays (is_bool_shape shape) x t, tt)

elements_numbered : (arrays : List (List Term)) (text : List ℕ) (shape : Shape) (ts : List Term) → Each (HasNumbers arrays) (element_constraints text shape ts)
elements_numbered arrays text (Shape.VarIn s) [] = tt
elements_numbered arrays text (Shape.VarIn s) (t ∷ ts) = (member_numbered arrays t _, elements_numbered arrays text (Shape.VarIn s) ts)
elements_numbered arrays text shape ts = tt

scalar_numbered : (arrays : List (List Term)) (text : List ℕ) (count : ℕ) (shape : Shape) (name : List ℕ) (notes : List AnnTree) (value : Option Meaning) → AddsNumbers arrays (scalar_effect text count shape name notes value)
scalar_numbered arrays text count shape name notes value = by (declares_variable shape)
  where
    by : (b : Bool) → AddsNumbers arrays (cond b (variable_effect text count shape name notes value) (parameter_effect text shape name notes value))
    by true = each_append (HasNumbers arrays) (domain_constraints text shape (Term.Var count)) (value_constraints shape (Term.Var count) value)
        (domain_numbered arrays text shape (Term.Var count)) (value_numbered arrays shape (Term.Var count) (term_in value))
    by false = tt

each_numbered : (arrays : List (List Term)) (text : List ℕ) (scope : Scope) → EachNumbered arrays scope → (count : ℕ) (what : WhatTree) → AddsNumbers arrays (effect_of text scope count what)
unfolding effect_of
each_numbered arrays text scope h count (predicate_item tokens) = tt
each_numbered arrays text scope h count (scalar_item shape name notes value) = scalar_numbered arrays text count shape (spelling text name) notes (value_of text scope value)
each_numbered arrays text scope h count (array_item low high shape name notes value) = elements_numbered arrays text shape (terms_in (expr_meaning text scope value))
each_numbered arrays text scope h count (constraint_item name args notes) = by (named (spelling text name))
  where
    by : (o : Option ConstraintName) → AddsNumbers arrays (elim o [ None ↦ no_effect | Some known ↦ constraint_alone (constraint_on known (meanings_of text scope args)) ])
    by None = tt
    by (Some known) = (All-from_recursion (HasNumber arrays) (map operand_of (meanings_of text scope args)) (operands_numbered arrays text scope h args), tt)
each_numbered arrays text scope h count (solve_item notes aim) = tt

-- where the declared names are numbered, so is what an item adds
pub effect_numbered : (arrays : List (List Term)) (text : List ℕ) (scope : Scope) → AreNumbered arrays scope → (count : ℕ) (what : WhatTree) → HaveNumbers arrays (effect_of text scope count what).constraints
effect_numbered arrays text scope h count what =
    All-from_recursion (HasNumbers arrays) (effect_of text scope count what).constraints (each_numbered arrays text scope (recursion_from_All (λ (d : List ℕ × Meaning). IsNumbered arrays d.1) scope h) count what)

-- ---- what stands of a text

record Numbers (r : Reading) : Type 0 where
  pub scope : EachNumbered r.arrays r.scope
  pub constraints : Each (HasNumbers r.arrays) r.constraints

-- a declared array has the number of the place at which its terms stand
declared_numbered : (arrays : List (List Term)) (o : Option (List ℕ × Meaning)) → EachNumbered (arrays ++ flat_map arrays_in (option_to_list o)) (map (numbered (length arrays)) (option_to_list o))
declared_numbered arrays None = tt
declared_numbered arrays (Some d) = (by d.1, tt)
  where
    by : (m : Meaning) → IsNumbered (arrays ++ (array_terms m ++ [])) (with_number (length arrays) m)
    by (Meaning.One s) = tt
    by (Meaning.Row array) = get_next arrays (map (λ (s : Scalar). s.term) array.entries)
    by (Meaning.Set ranges) = tt

numbers_more : (text : List ℕ) (r : Reading) (item : ItemTree) → Numbers r → Numbers (with_item text r item)
numbers_more text r item h =
    let more : Effect = effect_of text r.scope (length r.vars) item.what in
    let new : List (List Term) = flat_map arrays_in (option_to_list more.declared) in
    let P : List ℕ × Meaning → Type 0 = λ d. IsNumbered r.arrays d.1 in
    let Q : List ℕ × Meaning → Type 0 = λ d. IsNumbered (r.arrays ++ new) d.1 in
    let stays : (c : Constraint) → HasNumbers r.arrays c → HasNumbers (r.arrays ++ new) c =
    λ c k. All-weaker (HasNumber r.arrays) (HasNumber (r.arrays ++ new)) (number_stays r.arrays new) c.operands k in
    record {
      scope = each_append Q r.scope (map (numbered (length r.arrays)) (option_to_list more.declared))
          (each_weaker P Q (λ d k. number_stays r.arrays new (operand_of d.1) k) r.scope h.scope) (declared_numbered r.arrays more.declared);
      constraints = each_append (HasNumbers (r.arrays ++ new)) r.constraints more.constraints
          (each_weaker (HasNumbers r.arrays) (HasNumbers (r.arrays ++ new)) stays r.constraints h.constraints)
          (each_weaker (HasNumbers r.arrays) (HasNumbers (r.arrays ++ new)) stays more.constraints (each_numbered r.arrays text r.scope h.scope (length r.vars) item.what));
    }

numbers_from : (text : List ℕ) (r : Reading) (items : List ItemTree) → Numbers r → Numbers (fold (with_item text) r items)
numbers_from text r [] h = h
numbers_from text r (item ∷ items) h = numbers_from text (with_item text r item) items (numbers_more text r item h)

numbers : (text : List ℕ) (items : List ItemTree) → Numbers (reading_of text items)
numbers text items = numbers_from text nothing items (record { scope = tt; constraints = tt })

-- the names that these items declare are numbered
pub names_numbered : (text : List ℕ) (items : List ItemTree) → AreNumbered (reading_of text items).arrays (reading_of text items).scope
names_numbered text items =
    let r = reading_of text items in
    All-from_recursion (λ (d : List ℕ × Meaning). IsNumbered r.arrays d.1) r.scope (numbers text items).scope

-- and so are their constraints
pub constraints_numbered : (text : List ℕ) (items : List ItemTree) → HaveNumbers (reading_of text items).arrays (reading_of text items).constraints
constraints_numbered text items =
    let r = reading_of text items in
    All-from_recursion (HasNumbers r.arrays) r.constraints (numbers text items).constraints
