-- What an item without a fault adds is well-formed.
use Rattle.std.proofs.Common.{◌≡◌, ℕ, List, [], ◌∷◌, ◌++◌, length, Bool, true, false, cond, ◌&&◌, ◌||◌, not, is_some, Option, Some, None, refl, ap, sym, subst, ◌∙◌, arith}
use Rattle.std.specs.Prelude.{option_map, option_to_list, unwrap_or, pos, flat_map}
use Rattle.std.specs.List.{AllByRecursion as Each, list_any, cons_option}
use Rattle.std.specs.Option.{IfSome}
use Rattle.std.proofs.lemmas.Bool.{and_parts, or_parts, not-true, not-false, true≢false, false≢true}
use Rattle.std.proofs.lemmas.List.{append-nil, get_or_push, length_push}
use Rattle.std.proofs.lemmas.List.Elements.{All-from_recursion}
use Rattle.fzn_lexer.specs.declared.Token.{Token}
use Rattle.fzn_parser.specs.declared.tree.Expr.{Expr}
use Rattle.fzn_parser.specs.declared.tree.Shape.{Shape}
use Rattle.fzn_parser.specs.declared.tree.Aim.{Aim}
use Rattle.fzn_parser.specs.Notes.{AnnTree}
use Rattle.fzn_parser.specs.Items.{WhatTree, predicate_item, scalar_item, array_item, constraint_item, solve_item}
use Rattle.fzn_parser.specs.Texts.{spelling}
use Rattle.constraint_model.specs.declared.model.Term.{Term}
use Rattle.constraint_model.specs.declared.model.VarDecl.{VarDecl}
use Rattle.constraint_model.specs.declared.model.Phase.{Phase}
use Rattle.constraint_model.specs.declared.meanings.Meaning.{Meaning}
use Rattle.constraint_model.specs.declared.table.ConstraintName.{ConstraintName}
use Rattle.constraint_model.specs.declared.table.Letter.{Letter}
use Rattle.fzn_model.specs.declared.fault_kinds.FaultKind.{FaultKind}
use Rattle.fzn_model.specs.declared.effect.Effect.{Effect}
use Rattle.constraint_model.specs.Searches.{last_phase}
use Rattle.fzn_model.specs.Searches.{phases_of}
use Rattle.fzn_model.specs.Scopes.{Scope, expr_meaning}
use Rattle.constraint_model.specs.Fits.{named, fits, row_for, constraint_on, has_long_row}
use Rattle.fzn_model.specs.Effects.{Reading, joined, effect_of, no_effect, variable, variable_effect, parameter_effect, scalar_effect, array_effect, constraint_alone, constraint_effect, solve_effect, meanings_of, term_in, objective, goal_of, value_of, declares_variable, is_bool_shape, domain_constraints, value_constraints}
use Rattle.fzn_model.specs.Faults.{if_some, all_mean, arguments_fit, fits_scalar_type, fits_array_type, value_fits, has_index_set, is_wrong_value, is_wrong_row, has_wrong_argument, is_unsupported, aim_fits, is_too_large, place_tests, fault_of}
use Rattle.fzn_model.specs.declared.leaves.Leaf.{Leaf}
use Rattle.fzn_model.specs.Leaves.{expr_leaves, type_leaves, aim_leaves}
use Rattle.fzn_model.specs.Drafts.{has_kind, has_leaf, first_kind, own_kinds}
use Rattle.fzn_model.proofs.LeafLaws.{expr_is_long, shape_is_long, expr_long, exprs_long, declaration_long}
use Rattle.fzn_model.proofs.KindLaws.{least_is_first}
use Rattle.constraint_model.specs.WellFormed.{IsDeclaration, IsVariable, IsTermOf, IsMeaningOf, IsConstraintOf, IsGoalOf, IsOutputOf}
use Rattle.fzn_model.proofs.MeaningLaws.{SetLaws, each_append, each_false, meaning_stays, constraint_stays, AreNames, meaning}
use Rattle.fzn_model.proofs.OutputLaws.{scalar_outputs, value_outputs, array_outputs}
use Rattle.fzn_model.proofs.PhaseLaws.{IsSearch, search_declared}
use Rattle.fzn_model.proofs.AddedLaws.{declaration, domain_fits, value_equal, elements_fit}

-- what stands behind the declared variables
pub record Adds (vars : List VarDecl) (more : Effect) : Type 0 where
  pub declared : IfSome more.declared (λ d. IsMeaningOf (vars ++ option_to_list more.var) d.1)
  pub var : IfSome more.var IsDeclaration
  pub constraints : Each (IsConstraintOf (vars ++ option_to_list more.var)) more.constraints
  pub output : IfSome more.output (IsOutputOf (vars ++ option_to_list more.var))
  pub solved : IfSome more.solved (λ s. IsGoalOf (vars ++ option_to_list more.var) s.1)
  pub search : IfSome more.solved (λ s. IsSearch (length (vars ++ option_to_list more.var)) s.0)

adds_nothing : (vars : List VarDecl) → Adds vars no_effect
adds_nothing vars = record { declared = tt; var = tt; constraints = tt; output = tt; solved = tt; search = tt }

value_stays : (vars more : List VarDecl) (value : Option Meaning) → IfSome value (IsMeaningOf vars) → IfSome value (IsMeaningOf (vars ++ more))
value_stays vars more None h = tt
value_stays vars more (Some m) h = meaning_stays vars more m h

-- ---- constraints

meanings_each : (laws : SetLaws) (vars : List VarDecl) (text : List ℕ) (scope : Scope) → AreNames vars scope → (args : List Expr) → Each (λ e. expr_is_long e ≡ false) args → Each (IsMeaningOf vars) (meanings_of text scope args)
meanings_each laws vars text scope h [] l = tt
meanings_each laws vars text scope h (e ∷ es) l = by (expr_meaning text scope e) (meaning laws vars text scope h e l.0) (meanings_each laws vars text scope h es l.1)
  where
    by : (o : Option Meaning) → IfSome o (IsMeaningOf vars) → Each (IsMeaningOf vars) (meanings_of text scope es) → Each (IsMeaningOf vars) (cons_option o (meanings_of text scope es))
    by None k rest = rest
    by (Some m) k rest = (k, rest)

adds_constraint : (laws : SetLaws) (vars : List VarDecl) (text : List ℕ) (scope : Scope) → AreNames vars scope → (word : List ℕ) (args : List Expr) → not (arguments_fit text scope word args) ≡ false → list_any expr_is_long args ≡ false
    → list_any has_long_row (constraint_effect text scope word args).constraints ≡ false → Adds vars (constraint_effect text scope word args)
adds_constraint laws vars text scope h word args = by (named word)
  where
    by : (o : Option ConstraintName) → not (all_mean text scope args && if_some (λ known. is_some (row_for known (meanings_of text scope args))) o) ≡ false → list_any expr_is_long args ≡ false
        → list_any has_long_row (elim o as (λ _. Effect) [ None ↦ no_effect | Some known ↦ constraint_alone (constraint_on known (meanings_of text scope args)) ]).constraints ≡ false
        → Adds vars (elim o [ None ↦ no_effect | Some known ↦ constraint_alone (constraint_on known (meanings_of text scope args)) ])
    by None w l r = adds_nothing vars
    by (Some known) w l r =
        let fit = not-false (all_mean text scope args && is_some (row_for known (meanings_of text scope args))) w in
        let c : IsConstraintOf vars (constraint_on known (meanings_of text scope args)) = record {
          meanings = meanings_of text scope args;
          is_on = refl;
          fits = (and_parts (all_mean text scope args) (is_some (row_for known (meanings_of text scope args))) fit).1;
          each = All-from_recursion (IsMeaningOf vars) (meanings_of text scope args) (meanings_each laws vars text scope h args (each_false expr_is_long args l));
          short = (or_parts (has_long_row (constraint_on known (meanings_of text scope args))) false r).0;
        } in
        record { declared = tt; var = tt; constraints = (constraint_stays vars [] (constraint_on known (meanings_of text scope args)) c, tt); output = tt; solved = tt; search = tt }

-- ---- scalars

adds_variable : (laws : SetLaws) (vars : List VarDecl) (text : List ℕ) (shape : Shape) (word : List ℕ) (notes : List AnnTree) (value : Option Meaning) → declares_variable shape ≡ true → shape_is_long shape ≡ false
    → IfSome value (IsMeaningOf vars) → IfSome value (λ m. fits_scalar_type shape m ≡ true) → Adds vars (variable_effect text (length vars) shape word notes value)
adds_variable laws vars text shape word notes value d l k f =
    let x : VarDecl = variable text shape word in
    let here : IsVariable (vars ++ x ∷ []) (is_bool_shape shape) (length vars) = record {
      inside = omega (arith, length_push vars x);
      same_type = λ e. ap (λ (v : VarDecl). v.is_bool) (get_or_push vars x e (length vars) refl);
    } in
    let t : Term = Term.Var (length vars) in
    record {
      declared = here;
      var = declaration text shape word d;
      constraints = each_append (IsConstraintOf (vars ++ x ∷ [])) (domain_constraints text shape t) (value_constraints shape t value)
          (domain_fits laws (vars ++ x ∷ []) text shape t l here) (value_equal (vars ++ x ∷ []) shape t value here (value_stays vars (x ∷ []) value k) f);
      output = scalar_outputs (vars ++ x ∷ []) text notes (is_bool_shape shape) word t here;
      solved = tt;
      search = tt;
    }

value_meaning : (laws : SetLaws) (vars : List VarDecl) (text : List ℕ) (scope : Scope) → AreNames vars scope → (value : Option Expr) → list_any expr_is_long (option_to_list value) ≡ false → IfSome (value_of text scope value) (IsMeaningOf vars)
value_meaning laws vars text scope h None l = tt
value_meaning laws vars text scope h (Some e) l = meaning laws vars text scope h e (each_false expr_is_long (e ∷ []) l).0

-- what passes a test is there
passed : (test : Meaning → Bool) (o : Option Meaning) → if_some test o ≡ true → IfSome o (λ m. test m ≡ true)
passed test None e = absurd (false≢true e)
passed test (Some m) e = e

value_typed : (text : List ℕ) (scope : Scope) (shape : Shape) (value : Option Expr) → is_wrong_value text scope shape value ≡ false → IfSome (value_of text scope value) (λ m. fits_scalar_type shape m ≡ true)
value_typed text scope shape None w = tt
value_typed text scope shape (Some e) w = passed (fits_scalar_type shape) (expr_meaning text scope e) (not-false (value_fits text scope (fits_scalar_type shape) e) w)

-- a name for a value
names_value : (vars : List VarDecl) (word : List ℕ) (value : Option Meaning) → IfSome value (IsMeaningOf vars) → IfSome {T = List ℕ × Meaning} (option_map (λ (m : Meaning). (word, m)) value) (λ d. IsMeaningOf (vars ++ []) d.1)
names_value vars word None k = tt
names_value vars word (Some m) k = meaning_stays vars [] m k

adds_parameter : (vars : List VarDecl) (text : List ℕ) (shape : Shape) (word : List ℕ) (notes : List AnnTree) (value : Option Meaning) → IfSome value (IsMeaningOf vars) → IfSome value (λ m. fits_scalar_type shape m ≡ true)
    → Adds vars (parameter_effect text shape word notes value)
adds_parameter vars text shape word notes value k f =
    record { declared = names_value vars word value k; var = tt; constraints = tt; output = value_outputs (vars ++ []) text notes shape word value (value_stays vars [] value k) f; solved = tt; search = tt }

adds_scalar : (laws : SetLaws) (vars : List VarDecl) (text : List ℕ) (scope : Scope) → AreNames vars scope → (shape : Shape) (word : List ℕ) (notes : List AnnTree) (value : Option Expr)
    → is_wrong_value text scope shape value ≡ false → shape_is_long shape ≡ false → list_any expr_is_long (option_to_list value) ≡ false → Adds vars (scalar_effect text (length vars) shape word notes (value_of text scope value))
adds_scalar laws vars text scope h shape word notes value w s l = by (declares_variable shape) refl
  where
    stands : IfSome (value_of text scope value) (IsMeaningOf vars)
    stands = value_meaning laws vars text scope h value l

    by : (b : Bool) → declares_variable shape ≡ b → Adds vars (cond b (variable_effect text (length vars) shape word notes (value_of text scope value)) (parameter_effect text shape word notes (value_of text scope value)))
    by true d = adds_variable laws vars text shape word notes (value_of text scope value) d s stands (value_typed text scope shape value w)
    by false d = adds_parameter vars text shape word notes (value_of text scope value) stands (value_typed text scope shape value w)

-- ---- arrays

row_typed : (text : List ℕ) (scope : Scope) (low high : Token) (shape : Shape) (value : Expr) → is_wrong_row text scope low high shape value ≡ false → IfSome (expr_meaning text scope value) (λ m. fits_array_type shape m ≡ true)
row_typed text scope low high shape value w =
    let both = not-false (has_index_set text low high value && value_fits text scope (fits_array_type shape) value) w in
    passed (fits_array_type shape) (expr_meaning text scope value) (and_parts (has_index_set text low high value) (value_fits text scope (fits_array_type shape) value) both).1

adds_array : (laws : SetLaws) (vars : List VarDecl) (text : List ℕ) (scope : Scope) → AreNames vars scope → (shape : Shape) (word : List ℕ) (notes : List AnnTree) (value : Expr)
    → IfSome (expr_meaning text scope value) (λ m. fits_array_type shape m ≡ true) → shape_is_long shape ≡ false → list_any expr_is_long (value ∷ []) ≡ false → Adds vars (array_effect text shape word notes (expr_meaning text scope value))
adds_array laws vars text scope h shape word notes value f s l =
    let stands : IfSome (expr_meaning text scope value) (IsMeaningOf vars) = meaning laws vars text scope h value (each_false expr_is_long (value ∷ []) l).0 in
    record {
      declared = names_value vars word (expr_meaning text scope value) stands;
      var = tt;
      constraints = elements_fit laws (vars ++ []) text shape (expr_meaning text scope value) s (value_stays vars [] (expr_meaning text scope value) stands) f;
      output = array_outputs (vars ++ []) text notes shape word (expr_meaning text scope value) (value_stays vars [] (expr_meaning text scope value) stands) f;
      solved = tt;
      search = tt;
    }

-- ---- the solve item

-- nothing is declared by it
search_stays : (vars : List VarDecl) (phases : List Phase) → IsSearch (length vars) phases → IsSearch (length (vars ++ [])) phases
search_stays vars phases h = subst (λ (xs : List VarDecl). IsSearch (length xs) phases) (sym (append-nil vars)) h

-- an objective that fits is an integer
objective_is : (vars : List VarDecl) (o : Option Meaning) → IfSome o (IsMeaningOf vars) → if_some (fits Letter.Integer) o ≡ true → IsTermOf vars false (unwrap_or (term_in o) (Term.Number (pos 0)))
objective_is vars None k e = absurd (false≢true e)
objective_is vars (Some (Meaning.One s)) k e = subst (λ b. IsTermOf vars b s.term) (not-true s.is_bool e) k
objective_is vars (Some (Meaning.Row array)) k e = absurd (false≢true e)
objective_is vars (Some (Meaning.Set ranges)) k e = absurd (false≢true e)

goal_fits : (laws : SetLaws) (vars : List VarDecl) (text : List ℕ) (scope : Scope) → AreNames vars scope → (e : Expr) → not (value_fits text scope (fits Letter.Integer) e) ≡ false → expr_is_long e ≡ false
    → IsTermOf (vars ++ []) false (objective text scope e)
goal_fits laws vars text scope h e w l =
    let known : IfSome (expr_meaning text scope e) (IsMeaningOf vars) = meaning laws vars text scope h e l in
    objective_is (vars ++ []) (expr_meaning text scope e) (value_stays vars [] (expr_meaning text scope e) known) (not-false (value_fits text scope (fits Letter.Integer) e) w)

adds_goal : (laws : SetLaws) (vars : List VarDecl) (text : List ℕ) (scope : Scope) → AreNames vars scope → (notes : List AnnTree) (aim : Aim) → not (aim_fits text scope aim) ≡ false → list_any (has_kind text scope FaultKind.TooMany) (aim_leaves aim) ≡ false
    → Adds vars (solve_effect text scope (length vars) notes aim)
adds_goal laws vars text scope h notes aim w l = record {
  declared = tt;
  var = tt;
  constraints = tt;
  output = tt;
  solved = by aim w l;
  search = search_stays vars (phases_of text scope notes ++ last_phase (length vars) ∷ []) (search_declared vars text scope h notes);
}
  where
    by : (a : Aim) → not (aim_fits text scope a) ≡ false → list_any (has_kind text scope FaultKind.TooMany) (aim_leaves a) ≡ false → IsGoalOf (vars ++ []) (goal_of text scope a)
    by Aim.Satisfy w l = tt
    by (Aim.Minimize e) w l = goal_fits laws vars text scope h e w (sym (expr_long text scope e) ∙ l)
    by (Aim.Maximize e) w l = goal_fits laws vars text scope h e w (sym (expr_long text scope e) ∙ l)

-- ---- any item

-- the tests that an item without a fault does not meet
pub record Passes (text : List ℕ) (before : Reading) (what : WhatTree) : Type 0 where
  pub typed : (not (is_unsupported what) && has_wrong_argument text before.scope what) ≡ false
  pub taken : is_unsupported what ≡ false
  pub short : has_leaf text before.scope FaultKind.TooMany what ≡ false
  pub limit : (list_any has_long_row (effect_of text before.scope (length before.vars) what).constraints || is_too_large (joined before (effect_of text before.scope (length before.vars) what))) ≡ false
  pub open_yet : is_some before.solved ≡ false

none_first : (tests : List (FaultKind × Bool)) → first_kind tests ≡ None → Each (λ (t : FaultKind × Bool). t.1 ≡ false) tests
none_first [] e = tt
none_first (t ∷ ts) e = by t.1 refl (none_first ts) e
  where
    by : (b : Bool) → t.1 ≡ b → (first_kind ts ≡ None → Each (λ (t : FaultKind × Bool). t.1 ≡ false) ts) → cond b (Some t.0) (first_kind ts) ≡ None → Each (λ (t : FaultKind × Bool). t.1 ≡ false) (t ∷ ts)
    by true same f k = absurd (true≢false (ap is_some k))
    by false same f k = (same, f k)

pub passes : (text : List ℕ) (before : Reading) (what : WhatTree) → fault_of text before what ≡ None → Passes text before what
unfolding fault_of
passes text before what e =
    let more : Effect = effect_of text before.scope (length before.vars) what in
    let h = none_first (own_kinds text before.scope what ++ place_tests before more) (sym (least_is_first text before what more) ∙ e) in
    record { typed = h.1.1.1.0; taken = h.1.1.1.1.0; short = h.1.1.1.1.1.1.0; limit = h.1.1.1.1.1.1.1.0; open_yet = h.1.1.1.1.1.1.1.1.0 }

supported : (u w : Bool) → (not u && w) ≡ false → u ≡ false → w ≡ false
supported true w e t = absurd (true≢false t)
supported false w e t = e

-- neither the type of a declaration nor its value has a list that is too long
short_declaration : (text : List ℕ) (scope : Scope) (shape : Shape) (name : Token) (parts : List Leaf)
    → list_any (has_kind text scope FaultKind.TooMany) (type_leaves shape ++ Leaf.Declared name ∷ parts) ≡ false
    → (shape_is_long shape ≡ false) × (list_any (has_kind text scope FaultKind.TooMany) parts ≡ false)
short_declaration text scope shape name parts e =
    or_parts (shape_is_long shape) (list_any (has_kind text scope FaultKind.TooMany) parts) (sym (declaration_long text scope shape name parts) ∙ e)

-- what an item without a fault adds
pub adds : (laws : SetLaws) (text : List ℕ) (before : Reading) (what : WhatTree) → AreNames before.vars before.scope → Passes text before what → Adds before.vars (effect_of text before.scope (length before.vars) what)
unfolding effect_of
adds laws text before what h p = by what (supported (is_unsupported what) (has_wrong_argument text before.scope what) p.typed p.taken) p.short rows
  where
    rows : list_any has_long_row (effect_of text before.scope (length before.vars) what).constraints ≡ false
    rows =
        let more : Effect = effect_of text before.scope (length before.vars) what in
        (or_parts (list_any has_long_row more.constraints) (is_too_large (joined before more)) p.limit).0

    by : (w : WhatTree) → has_wrong_argument text before.scope w ≡ false → has_leaf text before.scope FaultKind.TooMany w ≡ false
        → list_any has_long_row (effect_of text before.scope (length before.vars) w).constraints ≡ false → Adds before.vars (effect_of text before.scope (length before.vars) w)
    by (predicate_item tokens) w l r = adds_nothing before.vars
    by (scalar_item shape name notes value) w l r =
        let s = short_declaration text before.scope shape name (flat_map expr_leaves (option_to_list value)) l in
        adds_scalar laws before.vars text before.scope h shape (spelling text name) notes value w s.0 (sym (exprs_long text before.scope (option_to_list value)) ∙ s.1)
    by (array_item low high shape name notes value) w l r =
        let s = short_declaration text before.scope shape name (expr_leaves value) l in
        adds_array laws before.vars text before.scope h shape (spelling text name) notes value (row_typed text before.scope low high shape value w) s.0
        (ap (λ b. b || false) (sym (expr_long text before.scope value) ∙ s.1))
    by (constraint_item name args notes) w l r = adds_constraint laws before.vars text before.scope h (spelling text name) args w (sym (exprs_long text before.scope args) ∙ l) r
    by (solve_item notes aim) w l r = adds_goal laws before.vars text before.scope h notes aim w l
