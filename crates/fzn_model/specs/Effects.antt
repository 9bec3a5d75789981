-- What an item adds to the model, after the items before it.
-- (MiniZinc Handbook, FlatZinc: parameter declarations, variable declarations, constraints, the solve item.)
use Rattle.std.specs.Prelude.{ℕ, ◌+◌, ℤ, pos, neg_ℤ, List, [], ◌∷◌, ◌++◌, map, length, Bool, true, false, cond, fold, flat_map, filter_map, sum_by, Option, Some, None, option_map, option_and_then, option_to_list, unwrap_or}
use Rattle.std.specs.Option.{option_or}
use Rattle.fzn_parser.specs.declared.tree.SetLit.{SetLit}
use Rattle.fzn_parser.specs.declared.tree.Expr.{Expr}
use Rattle.fzn_parser.specs.declared.tree.Shape.{Shape}
use Rattle.fzn_parser.specs.declared.tree.Aim.{Aim}
use Rattle.fzn_parser.specs.Notes.{AnnTree}
use Rattle.fzn_parser.specs.Items.{WhatTree, predicate_item, scalar_item, array_item, constraint_item, solve_item}
use Rattle.fzn_parser.specs.Parsing.{ItemTree}
use Rattle.fzn_parser.specs.Texts.{spelling}
use Rattle.constraint_model.specs.declared.model.Term.{Term}
use Rattle.constraint_model.specs.declared.model.Operand.{Operand}
use Rattle.constraint_model.specs.declared.model.Constraint.{Constraint}
use Rattle.constraint_model.specs.declared.model.VarDecl.{VarDecl}
use Rattle.constraint_model.specs.declared.model.Phase.{Phase}
use Rattle.constraint_model.specs.declared.model.Goal.{Goal}
use Rattle.constraint_model.specs.declared.model.Output.{Output}
use Rattle.constraint_model.specs.declared.meanings.Meaning.{Meaning}
use Rattle.constraint_model.specs.declared.table.ConstraintName.{ConstraintName}
use Rattle.constraint_model.specs.Numbers.{largest}
use Rattle.constraint_model.specs.Ranges.{Range}
use Rattle.fzn_model.specs.Scopes.{Scope, set_at, number_at, expr_meaning}
use Rattle.fzn_model.specs.declared.effect.Effect.{Effect}
use Rattle.constraint_model.specs.Fits.{named, constraint_on, constants_in, goal_constants, add_once, kernels_of}
use Rattle.fzn_model.specs.Outputs.{has_output_var, output_ranges}
use Rattle.constraint_model.specs.Searches.{last_phase}
use Rattle.fzn_model.specs.Searches.{phases_of}

-- what some items of a text, from its first on, declare and ask for
pub record Reading : Type 0 where
  pub scope : Scope
  pub vars : List VarDecl
  -- the terms of the declared arrays, in the order of their declarations
  pub arrays : List (List Term)
  pub constraints : List Constraint
  pub output : List Output
  pub solved : Option (List Phase × Goal)
  -- the distinct numbers other than 1 that occur where a variable may be, in the order of their first occurrences
  pub constants : List ℤ
  -- how many propagators the constraints are run as
  pub kernels : ℕ

abbrev pub nothing : Reading
nothing = record { scope = []; vars = []; arrays = []; constraints = []; output = []; solved = None; constants = []; kernels = 0 }

-- the constant of what is asked for, where it has one
abbrev pub solved_constants : Option (List Phase × Goal) → List ℤ
solved_constants (Some s) = goal_constants s.1
solved_constants None = []

-- an array with this number; any other meaning as it is
abbrev pub with_number : ℕ → Meaning → Meaning
with_number n (Meaning.Row array) = Meaning.Row (record { entries = array.entries; number = Some n })
with_number n meaning = meaning

-- a declared name with what it denotes: an array gets this number
abbrev pub numbered : ℕ → List ℕ × Meaning → List ℕ × Meaning
numbered n d = (d.0, with_number n d.1)

-- the terms of an array; no list for anything else
abbrev pub array_terms : Meaning → List (List Term)
array_terms (Meaning.Row array) = map (λ s. s.term) array.entries ∷ []
array_terms meaning = []

-- the terms of what a declared name denotes, where that is an array
abbrev pub arrays_in : List ℕ × Meaning → List (List Term)
arrays_in d = array_terms d.1

-- what an item adds comes behind what was there before, and a declared array is numbered by how many there were
abbrev pub joined : Reading → Effect → Reading
joined before more = record {
  scope = before.scope ++ map (numbered (length before.arrays)) (option_to_list more.declared);
  vars = before.vars ++ option_to_list more.var;
  arrays = before.arrays ++ flat_map arrays_in (option_to_list more.declared);
  constraints = before.constraints ++ more.constraints;
  output = before.output ++ option_to_list more.output;
  solved = option_or before.solved more.solved;
  constants = fold add_once (fold add_once before.constants (flat_map constants_in more.constraints)) (solved_constants more.solved);
  kernels = before.kernels + sum_by kernels_of more.constraints;
}

abbrev pub no_effect : Effect
no_effect = record { declared = None; var = None; constraints = []; output = None; solved = None }

-- ---- declarations

abbrev pub is_bool_shape : Shape → Bool
is_bool_shape Shape.Bool = true
is_bool_shape Shape.VarBool = true
is_bool_shape _ = false

-- the least and the greatest number of a set; 1 and 0 of the empty one
abbrev pub hull : List Range → Range
hull [] = (pos 1, pos 0)
hull (r ∷ rs) = (r.0, fold (λ (high : ℤ) s. s.1) r.1 rs)

-- the bounds that a variable of this type starts with: an interval's own, though it be empty
abbrev pub bounds_of : List ℕ → Shape → Range
bounds_of text Shape.VarBool = (pos 0, pos 1)
bounds_of text (Shape.VarIn (SetLit.Range low high)) = (number_at text low, number_at text high)
bounds_of text (Shape.VarIn (SetLit.Braces values)) = hull (set_at text (SetLit.Braces values))
bounds_of text _ = (neg_ℤ (pos largest), pos largest)

-- a declaration of a variable, not of a parameter
abbrev pub declares_variable : Shape → Bool
declares_variable Shape.VarBool = true
declares_variable Shape.VarInt = true
declares_variable (Shape.VarIn s) = true
declares_variable _ = false

-- x is in the set
abbrev pub membership : Term → List Range → Constraint
membership t ranges = record { name = ConstraintName.SetIn; operands = Operand.One t ∷ Operand.Set ranges ∷ [] }

-- x equals the value
abbrev pub equality_name : Bool → ConstraintName
equality_name true = ConstraintName.BoolEq
equality_name false = ConstraintName.IntEq

abbrev pub equality : Bool → Term → Term → Constraint
equality is_bool x t = record { name = equality_name is_bool; operands = Operand.One x ∷ Operand.One t ∷ [] }

-- a variable that is declared with a set in braces is in it
abbrev pub domain_constraints : List ℕ → Shape → Term → List Constraint
domain_constraints text (Shape.VarIn (SetLit.Braces values)) x = membership x (set_at text (SetLit.Braces values)) ∷ []
domain_constraints text _ x = []

abbrev pub term_in : Option Meaning → Option Term
term_in (Some (Meaning.One s)) = Some s.term
term_in _ = None

abbrev pub value_of : List ℕ → Scope → Option Expr → Option Meaning
value_of text scope value = option_and_then (expr_meaning text scope) value

-- a variable that is declared with a value equals it
abbrev pub value_constraints : Shape → Term → Option Meaning → List Constraint
value_constraints shape x value = option_to_list (option_map (equality (is_bool_shape shape) x) (term_in value))

-- a scalar is written where it has `output_var`
abbrev pub scalar_output : List ℕ → List AnnTree → Bool → List ℕ → Term → Option Output
scalar_output text notes is_bool name t = cond (has_output_var text notes) (Some (Output.Scalar name is_bool t)) None

abbrev pub variable : List ℕ → Shape → List ℕ → VarDecl
variable text shape name =
    let bounds = bounds_of text shape in
    record { name = name; is_bool = is_bool_shape shape; low = bounds.0; high = bounds.1 }

-- the variable at this place
abbrev pub variable_effect : List ℕ → ℕ → Shape → List ℕ → List AnnTree → Option Meaning → Effect
variable_effect text place shape name notes value =
    let x = Term.Var place in
    let is_bool = is_bool_shape shape in
    record {
      declared = Some (name, Meaning.One (record { is_bool = is_bool; term = x }));
      var = Some (variable text shape name);
      constraints = domain_constraints text shape x ++ value_constraints shape x value;
      output = scalar_output text notes is_bool name x;
      solved = None;
    }

abbrev pub parameter_effect : List ℕ → Shape → List ℕ → List AnnTree → Option Meaning → Effect
parameter_effect text shape name notes value = record {
  declared = option_map (λ meaning. (name, meaning)) value;
  var = None;
  constraints = [];
  output = option_and_then (scalar_output text notes (is_bool_shape shape) name) (term_in value);
  solved = None;
}

abbrev pub scalar_effect : List ℕ → ℕ → Shape → List ℕ → List AnnTree → Option Meaning → Effect
scalar_effect text place shape name notes value =
    cond (declares_variable shape) (variable_effect text place shape name notes value) (parameter_effect text shape name notes value)

-- the terms of an array's entries
abbrev pub terms_in : Option Meaning → List Term
terms_in (Some (Meaning.Row array)) = map (λ s. s.term) array.entries
terms_in _ = []

-- an array whose elements have a set of their own: each is in it
abbrev pub element_constraints : List ℕ → Shape → List Term → List Constraint
element_constraints text (Shape.VarIn s) entries = map (λ t. membership t (set_at text s)) entries
element_constraints text _ entries = []

-- an array is written where it has a lawful `output_array`
abbrev pub array_output : List ℕ → List AnnTree → Bool → List ℕ → List Term → Option Output
array_output text notes is_bool name entries = option_map (λ ranges. Output.Array name is_bool ranges entries) (output_ranges text notes)

abbrev pub array_effect : List ℕ → Shape → List ℕ → List AnnTree → Option Meaning → Effect
array_effect text shape name notes value = record {
  declared = option_map (λ meaning. (name, meaning)) value;
  var = None;
  constraints = element_constraints text shape (terms_in value);
  output = array_output text notes (is_bool_shape shape) name (terms_in value);
  solved = None;
}

-- ---- constraints and the solve item

-- what the arguments denote; one that denotes nothing is left out
abbrev pub meanings_of : List ℕ → Scope → List Expr → List Meaning
meanings_of text scope args = filter_map (expr_meaning text scope) args

abbrev pub constraint_alone : Constraint → Effect
constraint_alone c = record { declared = None; var = None; constraints = c ∷ []; output = None; solved = None }

abbrev pub constraint_effect : List ℕ → Scope → List ℕ → List Expr → Effect
constraint_effect text scope name args = elim (named name) [
  | None ↦ no_effect
  | Some known ↦ constraint_alone (constraint_on known (meanings_of text scope args))
]

-- the objective's term; 0 where the item is refused
abbrev pub objective : List ℕ → Scope → Expr → Term
objective text scope e = unwrap_or (term_in (expr_meaning text scope e)) (Term.Number (pos 0))

abbrev pub goal_of : List ℕ → Scope → Aim → Goal
goal_of text scope Aim.Satisfy = Goal.Satisfy
goal_of text scope (Aim.Minimize e) = Goal.Minimize (objective text scope e)
goal_of text scope (Aim.Maximize e) = Goal.Maximize (objective text scope e)

abbrev pub solve_effect : List ℕ → Scope → ℕ → List AnnTree → Aim → Effect
solve_effect text scope count notes aim = record {
  declared = None;
  var = None;
  constraints = [];
  output = None;
  solved = Some (phases_of text scope notes ++ last_phase count ∷ [], goal_of text scope aim);
}

-- what an item adds, after these declared names and so many declared variables
unfoldable pub effect_of : List ℕ → Scope → ℕ → WhatTree → Effect
effect_of text scope count (predicate_item tokens) = no_effect
effect_of text scope count (scalar_item shape name notes value) = scalar_effect text count shape (spelling text name) notes (value_of text scope value)
effect_of text scope count (array_item low high shape name notes value) = array_effect text shape (spelling text name) notes (expr_meaning text scope value)
effect_of text scope count (constraint_item name args notes) = constraint_effect text scope (spelling text name) args
effect_of text scope count (solve_item notes aim) = solve_effect text scope count notes aim

abbrev pub with_item : List ℕ → Reading → ItemTree → Reading
with_item text before item = joined before (effect_of text before.scope (length before.vars) item.what)

-- what these items, in order, declare and ask for
abbrev pub reading_of : List ℕ → List ItemTree → Reading
reading_of text items = fold (with_item text) nothing items
