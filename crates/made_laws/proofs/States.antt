-- What stands after each line of a made text.
use Rattle.std.proofs.Common.{◌≡◌, ◌<◌, ◌≤◌, ◌+◌, ◌-◌, ℕ, true, false, List, [], ◌∷◌, ◌++◌, length, refl, sym, ◌∙◌, ap, subst, arith}
use Rattle.std.specs.Prelude.{codes, map, Bool, pos, negsuc, neg_ℤ, ℤ, Option, Some, None, option_map, option_and_then, unwrap_or, is_some, is_none, ◌||◌, ◌&&◌, not, nat_lt, fold}
use Rattle.std.specs.List.{list_any, range_with_len, cons_option}
use Rattle.std.proofs.lemmas.List.{append-nil}
use Rattle.std.proofs.lemmas.Bool.Decides.{nat_tests}
use Rattle.std.proofs.lemmas.List.FromFn.{map-range_with_len_more, length-map-range_with_len}
use Rattle.fzn_lexer.specs.declared.Token.{Token}
use Rattle.fzn_parser.specs.declared.tree.SetLit.{SetLit}
use Rattle.fzn_parser.specs.declared.tree.Elem.{Elem}
use Rattle.fzn_parser.specs.declared.tree.Expr.{Expr}
use Rattle.fzn_parser.specs.declared.tree.Shape.{Shape}
use Rattle.fzn_parser.specs.declared.tree.Aim.{Aim}
use Rattle.fzn_parser.specs.Items.{WhatTree, scalar_item, constraint_item, solve_item}
use Rattle.fzn_parser.specs.Texts.{spelling}
use Rattle.constraint_model.specs.declared.model.Term.{Term}
use Rattle.constraint_model.specs.declared.model.Operand.{Operand}
use Rattle.constraint_model.specs.declared.model.Constraint.{Constraint}
use Rattle.constraint_model.specs.declared.model.VarDecl.{VarDecl}
use Rattle.constraint_model.specs.declared.model.Phase.{Phase}
use Rattle.constraint_model.specs.declared.model.Goal.{Goal}
use Rattle.constraint_model.specs.declared.meanings.Meaning.{Meaning}
use Rattle.constraint_model.specs.declared.table.ConstraintName.{ConstraintName}
use Rattle.constraint_model.specs.declared.table.Letter.{Letter}
use Rattle.constraint_model.specs.Fits.{named, fits, add_once, row_for, constants_in, kernels_of, has_long_row, constraint_on}
use Rattle.constraint_model.specs.Searches.{last_phase}
use Rattle.fzn_model.specs.declared.effect.Effect.{Effect}
use Rattle.fzn_model.specs.Literals.{number_of}
use Rattle.fzn_model.specs.Scopes.{Scope, meaning_of, sign_number, number_at, expr_meaning, integer, array_literal, scalar_of, all_some}
use Rattle.fzn_model.specs.Outputs.{has_output_var}
use Rattle.fzn_model.specs.Effects.{Reading, joined, effect_of, meanings_of, constraint_alone, constraint_effect, term_in, no_effect}
use Rattle.fzn_model.specs.Leaves.{leaves as leaves_of}
use Rattle.fzn_model.specs.Faults.{leaf_test, is_too_large, all_mean, if_some}
use Rattle.made_laws.proofs.Lines.{name}
use Rattle.made_laws.proofs.Names.{integer_at, declared, scope_of, name_new}
use Rattle.made_laws.proofs.Runs.{IsClean, is_met}

-- ---- what stands

-- the variable at this place, from 0 to the bound
abbrev pub variable_at : ℕ → ℕ → VarDecl
variable_at u k = record { name = name (k + 1); is_bool = false; low = pos 0; high = pos u }

abbrev pub vars_of : ℕ → ℕ → List VarDecl
vars_of u n = map (variable_at u) (range_with_len 0 n)

-- after n declarations and so many constraints
abbrev pub reading : ℕ → ℕ → List Constraint → ℕ → Option (List Phase × Goal) → Reading
reading u n constraints kernels solved = record {
  scope = scope_of n;
  vars = vars_of u n;
  arrays = [];
  constraints = constraints;
  output = [];
  solved = solved;
  constants = [];
  kernels = kernels;
}

small_reading : (r : Reading) → length r.vars ≤ 2000 → r.kernels ≤ 8000 → r.constants ≡ [] → is_too_large r ≡ false
small_reading r vars kernels constants =
    let none : length r.constants ≡ 0 = ap length constants in
    limits (length r.vars) r.kernels (length r.constants) (omega arith) (omega arith) (omega arith)
  where
    limits : (a b c : ℕ) → a ≤ 65536 → b ≤ 1048576 → c ≤ 131072 → (nat_lt 65536 a || nat_lt 1048576 b || nat_lt 131072 c) ≡ false
    limits a b c x y z = grind (arith, nat_tests)

-- an effect whose constraints aren't too long passes no limit where what it leaves is small
few_of : (r s : Reading) (e f : Effect) → e ≡ f → list_any has_long_row f.constraints ≡ false → joined r e ≡ s → is_too_large s ≡ false
    → (list_any has_long_row e.constraints || is_too_large (joined r e)) ≡ false
few_of r s e f same short leaves small =
    ap (λ (x : Effect). list_any has_long_row x.constraints || is_too_large (joined r e)) same
    ∙ (ap (λ b. b || is_too_large (joined r e)) short ∙ (ap is_too_large leaves ∙ small))

-- ---- a declaration

variable_adds : ℕ → List ℕ → ℤ → ℤ → Effect
variable_adds place s low high = record {
  declared = Some (s, Meaning.One (integer_at place));
  var = Some (record { name = s; is_bool = false; low = low; high = high });
  constraints = [];
  output = None;
  solved = None;
}

variable_effect_is : (text : List ℕ) (scope : Scope) (place : ℕ) (low high t : Token)
    → effect_of text scope place (scalar_item (Shape.VarIn (SetLit.Range low high)) t [] None) ≡ variable_adds place (spelling text t) (number_at text low) (number_at text high)
unfolding effect_of has_output_var variable_adds
variable_effect_is text scope place low high t = refl

pub number_is : (text : List ℕ) (t : Token) (s : List ℕ) (z : ℤ) → spelling text t ≡ s → number_of s ≡ Some z → number_of (spelling text t) ≡ Some z
number_is text t s z spelled is = ap number_of spelled ∙ is

variable_short : (place : ℕ) (s : List ℕ) (low high : ℤ) → list_any has_long_row (variable_adds place s low high).constraints ≡ false
unfolding variable_adds
variable_short place s low high = refl

variable_joins : (u n : ℕ) → joined (reading u n [] 0 None) (variable_adds n (name (n + 1)) (pos 0) (pos u)) ≡ reading u (n + 1) [] 0 None
unfolding variable_adds
variable_joins u n =
    let scope : scope_of n ++ declared n ∷ [] ≡ scope_of (n + 1) = sym (map-range_with_len_more declared 0 n n (omega arith)) in
    let vars : vars_of u n ++ variable_at u n ∷ [] ≡ vars_of u (n + 1) = sym (map-range_with_len_more (variable_at u) 0 n n (omega arith)) in
    ap (λ (s : Scope). record { scope = s; vars = vars_of u n ++ variable_at u n ∷ []; arrays = []; constraints = []; output = []; solved = None; constants = []; kernels = 0 }) scope
    ∙ ap (λ (v : List VarDecl). record { scope = scope_of (n + 1); vars = v; arrays = []; constraints = []; output = []; solved = None; constants = []; kernels = 0 }) vars

pub record IsVariableItem (text : List ℕ) (u n : ℕ) (low high t : Token) : Type 0 where
  pub low_is : number_of (spelling text low) ≡ Some (pos 0)
  pub high_is : number_of (spelling text high) ≡ Some (pos u)
  pub name_is : spelling text t ≡ name (n + 1)

pub variable_leaves : (text : List ℕ) (u n : ℕ) (low high t : Token) → IsVariableItem text u n low high t
    → joined (reading u n [] 0 None) (effect_of text (scope_of n) (length (vars_of u n)) (scalar_item (Shape.VarIn (SetLit.Range low high)) t [] None)) ≡ reading u (n + 1) [] 0 None
variable_leaves text u n low high t w =
    let count : length (vars_of u n) ≡ n = length-map-range_with_len (variable_at u) 0 n in
    ap (λ k. joined (reading u n [] 0 None) (effect_of text (scope_of n) k (scalar_item (Shape.VarIn (SetLit.Range low high)) t [] None))) count
    ∙ (ap (joined (reading u n [] 0 None)) (variable_effect_is text (scope_of n) n low high t)
    ∙ (ap (λ s. joined (reading u n [] 0 None) (variable_adds n s (number_at text low) (number_at text high))) w.name_is
    ∙ (ap (λ o. joined (reading u n [] 0 None) (variable_adds n (name (n + 1)) (unwrap_or o (sign_number (spelling text low))) (number_at text high))) w.low_is
    ∙ (ap (λ o. joined (reading u n [] 0 None) (variable_adds n (name (n + 1)) (pos 0) (unwrap_or o (sign_number (spelling text high))))) w.high_is
    ∙ variable_joins u n))))

pub variable_clean : (text : List ℕ) (u n : ℕ) (low high t : Token) → n < 2000 → IsVariableItem text u n low high t
    → IsClean text (reading u n [] 0 None) (scalar_item (Shape.VarIn (SetLit.Range low high)) t [] None)
variable_clean text u n low high t few w =
    let leaves = variable_leaves text u n low high t w in
    let count : length (vars_of u (n + 1)) ≡ n + 1 = length-map-range_with_len (variable_at u) 0 (n + 1) in
    record {
      names = ap (λ o. is_none o || (is_none (number_of (spelling text high)) || (is_some (meaning_of (scope_of n) (spelling text t)) || false))) w.low_is
          ∙ (ap (λ o. is_none o || (is_some (meaning_of (scope_of n) (spelling text t)) || false)) w.high_is
          ∙ (ap (λ s. is_some (meaning_of (scope_of n) s) || false) w.name_is ∙ ap (λ o. is_some o || false) (name_new n (omega arith))));
      fits = refl;
      supported = refl;
      few = few_of (reading u n [] 0 None) (reading u (n + 1) [] 0 None) _ _ (variable_effect_is text (scope_of n) (length (vars_of u n)) low high t) (variable_short (length (vars_of u n)) (spelling text t) (number_at text low) (number_at text high)) leaves
          (small_reading (reading u (n + 1) [] 0 None) (omega arith) (omega arith) refl);
      unsolved = refl;
    }

-- ---- an order

-- what an order says: its first variable and its gap come to its second at most
abbrev pub order_constraint : ℕ → ℕ → ℕ → Constraint
order_constraint a b d = record {
  name = ConstraintName.IntLinLe;
  operands =
      Operand.Row (record { terms = Term.Number (pos 1) ∷ Term.Number (negsuc 0) ∷ []; number = None })
      ∷ Operand.Row (record { terms = Term.Var (a - 1) ∷ Term.Var (b - 1) ∷ []; number = None })
      ∷ Operand.One (Term.Number (neg_ℤ (pos d))) ∷ [];
}

abbrev coefficients : Meaning
coefficients = array_literal (integer (pos 1) ∷ integer (negsuc 0) ∷ [])

abbrev variables : ℕ → ℕ → Meaning
variables a b = array_literal (integer_at (a - 1) ∷ integer_at (b - 1) ∷ [])

abbrev bound : ℕ → Meaning
bound d = Meaning.One (integer (neg_ℤ (pos d)))

row_fits : (a b d : ℕ) → is_some (row_for ConstraintName.IntLinLe (coefficients ∷ variables a b ∷ bound d ∷ [])) ≡ true
unfolding row_for
row_fits a b d = refl

sum_named : named (codes "int_lin_le") ≡ Some ConstraintName.IntLinLe
unfolding named
sum_named = refl

order_has_no_constants : (a b d : ℕ) → constants_in (order_constraint a b d) ≡ []
unfolding constants_in
order_has_no_constants a b d = refl

pub order_is_one : (a b d : ℕ) → kernels_of (order_constraint a b d) ≡ 1
unfolding kernels_of
order_is_one a b d = refl

abbrev order_what : Token → Token → Token → Token → Token → Token → WhatTree
order_what t one minus a b d =
    constraint_item t (Expr.Row (Elem.Int one ∷ Elem.Int minus ∷ []) ∷ Expr.Row (Elem.Name a ∷ Elem.Name b ∷ []) ∷ Expr.One (Elem.Int d) ∷ []) []

pub record IsOrderItem (text : List ℕ) (n i j gap : ℕ) (t one minus a b d : Token) : Type 0 where
  pub sum_is : spelling text t ≡ codes "int_lin_le"
  pub one_is : number_of (spelling text one) ≡ Some (pos 1)
  pub minus_is : number_of (spelling text minus) ≡ Some (negsuc 0)
  pub first_is : meaning_of (scope_of n) (spelling text a) ≡ Some (Meaning.One (integer_at (i - 1)))
  pub second_is : meaning_of (scope_of n) (spelling text b) ≡ Some (Meaning.One (integer_at (j - 1)))
  pub gap_is : number_of (spelling text d) ≡ Some (neg_ℤ (pos gap))

coefficients_mean : (text : List ℕ) (scope : Scope) (one minus : Token) → number_of (spelling text one) ≡ Some (pos 1) → number_of (spelling text minus) ≡ Some (negsuc 0)
    → expr_meaning text scope (Expr.Row (Elem.Int one ∷ Elem.Int minus ∷ [])) ≡ Some coefficients
unfolding expr_meaning
coefficients_mean text scope one minus first second =
    ap (λ o. Some (array_literal (integer (unwrap_or o (sign_number (spelling text one))) ∷ integer (number_at text minus) ∷ []))) first
    ∙ ap (λ o. Some (array_literal (integer (pos 1) ∷ integer (unwrap_or o (sign_number (spelling text minus))) ∷ []))) second

variables_mean : (text : List ℕ) (scope : Scope) (i j : ℕ) (a b : Token) → meaning_of scope (spelling text a) ≡ Some (Meaning.One (integer_at (i - 1)))
    → meaning_of scope (spelling text b) ≡ Some (Meaning.One (integer_at (j - 1))) → expr_meaning text scope (Expr.Row (Elem.Name a ∷ Elem.Name b ∷ [])) ≡ Some (variables i j)
unfolding expr_meaning
variables_mean text scope i j a b first second =
    ap (λ o. option_map array_literal (all_some (option_and_then scalar_of o ∷ option_and_then scalar_of (meaning_of scope (spelling text b)) ∷ []))) first
    ∙ ap (λ o. option_map array_literal (all_some (Some (integer_at (i - 1)) ∷ option_and_then scalar_of o ∷ []))) second

bound_means : (text : List ℕ) (scope : Scope) (gap : ℕ) (d : Token) → number_of (spelling text d) ≡ Some (neg_ℤ (pos gap)) → expr_meaning text scope (Expr.One (Elem.Int d)) ≡ Some (bound gap)
unfolding expr_meaning
bound_means text scope gap d is = ap (λ o. Some (Meaning.One (integer (unwrap_or o (sign_number (spelling text d)))))) is

-- three arguments that stand for something
three_mean : (text : List ℕ) (scope : Scope) (e f g : Expr) (k l m : Meaning) → expr_meaning text scope e ≡ Some k → expr_meaning text scope f ≡ Some l → expr_meaning text scope g ≡ Some m
    → meanings_of text scope (e ∷ f ∷ g ∷ []) ≡ k ∷ l ∷ m ∷ []
three_mean text scope e f g k l m x y z =
    ap (λ o. cons_option o (meanings_of text scope (f ∷ g ∷ []))) x
    ∙ (ap (λ o. k ∷ cons_option o (meanings_of text scope (g ∷ []))) y
    ∙ ap (λ o. k ∷ l ∷ cons_option o []) z)

all_three_mean : (text : List ℕ) (scope : Scope) (e f g : Expr) (k l m : Meaning) → expr_meaning text scope e ≡ Some k → expr_meaning text scope f ≡ Some l → expr_meaning text scope g ≡ Some m
    → all_mean text scope (e ∷ f ∷ g ∷ []) ≡ true
all_three_mean text scope e f g k l m x y z =
    ap (λ o. is_some o && all_mean text scope (f ∷ g ∷ [])) x
    ∙ (ap (λ o. is_some o && all_mean text scope (g ∷ [])) y
    ∙ ap (λ o. is_some o && true) z)

order_meanings : (text : List ℕ) (n i j gap : ℕ) (t one minus a b d : Token) → IsOrderItem text n i j gap t one minus a b d
    → meanings_of text (scope_of n) (Expr.Row (Elem.Int one ∷ Elem.Int minus ∷ []) ∷ Expr.Row (Elem.Name a ∷ Elem.Name b ∷ []) ∷ Expr.One (Elem.Int d) ∷ [])
    ≡ coefficients ∷ variables i j ∷ bound gap ∷ []
order_meanings text n i j gap t one minus a b d w =
    three_mean text (scope_of n) _ _ _ coefficients (variables i j) (bound gap) (coefficients_mean text (scope_of n) one minus w.one_is w.minus_is)
    (variables_mean text (scope_of n) i j a b w.first_is w.second_is) (bound_means text (scope_of n) gap d w.gap_is)

order_effect_is : (text : List ℕ) (n count i j gap : ℕ) (t one minus a b d : Token) → IsOrderItem text n i j gap t one minus a b d
    → effect_of text (scope_of n) count (order_what t one minus a b d) ≡ constraint_alone (order_constraint i j gap)
unfolding effect_of
order_effect_is text n count i j gap t one minus a b d w =
    let args = Expr.Row (Elem.Int one ∷ Elem.Int minus ∷ []) ∷ Expr.Row (Elem.Name a ∷ Elem.Name b ∷ []) ∷ Expr.One (Elem.Int d) ∷ [] in
    ap (λ s. constraint_effect text (scope_of n) s args) w.sum_is
    ∙ (by_name text (scope_of n) args (codes "int_lin_le") ConstraintName.IntLinLe sum_named
    ∙ ap (λ ms. constraint_alone (constraint_on ConstraintName.IntLinLe ms)) (order_meanings text n i j gap t one minus a b d w))
  where
    by_name : (text : List ℕ) (scope : Scope) (args : List Expr) (s : List ℕ) (known : ConstraintName) → named s ≡ Some known
        → constraint_effect text scope s args ≡ constraint_alone (constraint_on known (meanings_of text scope args))
    by_name text scope args s known e = subst (λ o. (elim o as (λ _. Effect) [ None ↦ no_effect | Some k ↦ constraint_alone (constraint_on k (meanings_of text scope args)) ])
        ≡ constraint_alone (constraint_on known (meanings_of text scope args))) (sym e) refl

order_joins : (u n k i j gap : ℕ) (cs : List Constraint) → joined (reading u n cs k None) (constraint_alone (order_constraint i j gap)) ≡ reading u n (cs ++ order_constraint i j gap ∷ []) (k + 1) None
order_joins u n k i j gap cs =
    let c = order_constraint i j gap in
    let scope : scope_of n ++ [] ≡ scope_of n = append-nil (scope_of n) in
    let vars : vars_of u n ++ [] ≡ vars_of u n = append-nil (vars_of u n) in
    let constants : fold add_once [] (constants_in c ++ []) ≡ [] = ap (λ x. fold add_once [] (x ++ [])) (order_has_no_constants i j gap) in
    let kernels : k + (0 + kernels_of c) ≡ k + 1 = ap (λ x. k + (0 + x)) (order_is_one i j gap) in
    ap (λ (s : Scope). record { scope = s; vars = vars_of u n ++ []; arrays = []; constraints = cs ++ c ∷ []; output = []; solved = None; constants = fold add_once [] (constants_in c ++ []); kernels = k + (0 + kernels_of c) }) scope
    ∙ (ap (λ (v : List VarDecl). record { scope = scope_of n; vars = v; arrays = []; constraints = cs ++ c ∷ []; output = []; solved = None; constants = fold add_once [] (constants_in c ++ []); kernels = k + (0 + kernels_of c) }) vars
    ∙ (ap (λ (x : List ℤ). record { scope = scope_of n; vars = vars_of u n; arrays = []; constraints = cs ++ c ∷ []; output = []; solved = None; constants = x; kernels = k + (0 + kernels_of c) }) constants
    ∙ ap (λ (x : ℕ). record { scope = scope_of n; vars = vars_of u n; arrays = []; constraints = cs ++ c ∷ []; output = []; solved = None; constants = []; kernels = x }) kernels))

pub order_leaves : (text : List ℕ) (u n k i j gap : ℕ) (cs : List Constraint) (t one minus a b d : Token) → IsOrderItem text n i j gap t one minus a b d
    → joined (reading u n cs k None) (effect_of text (scope_of n) (length (vars_of u n)) (order_what t one minus a b d)) ≡ reading u n (cs ++ order_constraint i j gap ∷ []) (k + 1) None
order_leaves text u n k i j gap cs t one minus a b d w =
    ap (joined (reading u n cs k None)) (order_effect_is text n (length (vars_of u n)) i j gap t one minus a b d w) ∙ order_joins u n k i j gap cs

-- its names are known, its literals small and its lists short
order_names : (text : List ℕ) (n i j gap : ℕ) (t one minus a b d : Token) → IsOrderItem text n i j gap t one minus a b d
    → list_any is_met (map (leaf_test text (scope_of n)) (leaves_of (order_what t one minus a b d))) ≡ false
order_names text n i j gap t one minus a b d w =
    let unknown : Token → Bool = λ u. not (is_some (meaning_of (scope_of n) (spelling text u))) in
    let wide : Token → Bool = λ u. is_none (number_of (spelling text u)) in
    ap (λ s. is_none (named s) || (false || (wide one || (wide minus || (false || (unknown a || (unknown b || (wide d || false)))))))) w.sum_is
    ∙ (ap (λ o. is_none o || (false || (wide one || (wide minus || (false || (unknown a || (unknown b || (wide d || false)))))))) sum_named
    ∙ (ap (λ o. is_none o || (wide minus || (false || (unknown a || (unknown b || (wide d || false)))))) w.one_is
    ∙ (ap (λ o. is_none o || (false || (unknown a || (unknown b || (wide d || false))))) w.minus_is
    ∙ (ap (λ o. not (is_some o) || (unknown b || (wide d || false))) w.first_is
    ∙ (ap (λ o. not (is_some o) || (wide d || false)) w.second_is
    ∙ ap (λ o. is_none o || false) w.gap_is)))))

pub order_clean : (text : List ℕ) (u n k i j gap : ℕ) (cs : List Constraint) (t one minus a b d : Token) → n ≤ 2000 → k < 8000 → IsOrderItem text n i j gap t one minus a b d
    → IsClean text (reading u n cs k None) (order_what t one minus a b d)
order_clean text u n k i j gap cs t one minus a b d few less w =
    let leaves = order_leaves text u n k i j gap cs t one minus a b d w in
    let count : length (vars_of u n) ≡ n = length-map-range_with_len (variable_at u) 0 n in
    let args = Expr.Row (Elem.Int one ∷ Elem.Int minus ∷ []) ∷ Expr.Row (Elem.Name a ∷ Elem.Name b ∷ []) ∷ Expr.One (Elem.Int d) ∷ [] in
    record {
      names = order_names text n i j gap t one minus a b d w;
      fits = ap (λ s. not (all_mean text (scope_of n) args && if_some (λ known. is_some (row_for known (meanings_of text (scope_of n) args))) (named s))) w.sum_is
          ∙ (ap (λ o. not (all_mean text (scope_of n) args && if_some (λ known. is_some (row_for known (meanings_of text (scope_of n) args))) o)) sum_named
          ∙ (ap (λ ms. not (all_mean text (scope_of n) args && is_some (row_for ConstraintName.IntLinLe ms))) (order_meanings text n i j gap t one minus a b d w)
          ∙ (ap (λ x. not (all_mean text (scope_of n) args && x)) (row_fits i j gap)
          ∙ ap (λ x. not (x && true)) (all_three_mean text (scope_of n) _ _ _ coefficients (variables i j) (bound gap) (coefficients_mean text (scope_of n) one minus w.one_is w.minus_is)
          (variables_mean text (scope_of n) i j a b w.first_is w.second_is) (bound_means text (scope_of n) gap d w.gap_is)))));
      supported = refl;
      few = few_of (reading u n cs k None) (reading u n (cs ++ order_constraint i j gap ∷ []) (k + 1) None) _ (constraint_alone (order_constraint i j gap))
          (order_effect_is text n (length (vars_of u n)) i j gap t one minus a b d w) refl leaves
          (small_reading (reading u n (cs ++ order_constraint i j gap ∷ []) (k + 1) None) (omega arith) (omega arith) refl);
      unsolved = refl;
    }

-- ---- what is minimized

abbrev goal_what : Token → WhatTree
goal_what t = solve_item [] (Aim.Minimize (Expr.One (Elem.Name t)))

-- what a made text asks for: the least value of its last variable, by a search of all in order
abbrev pub asked : ℕ → List Phase × Goal
asked n = (last_phase n ∷ [], Goal.Minimize (Term.Var (n - 1)))

goal_means : (text : List ℕ) (n : ℕ) (t : Token) → meaning_of (scope_of n) (spelling text t) ≡ Some (Meaning.One (integer_at (n - 1)))
    → expr_meaning text (scope_of n) (Expr.One (Elem.Name t)) ≡ Some (Meaning.One (integer_at (n - 1)))
unfolding expr_meaning
goal_means text n t is = is

goal_adds : List Phase × Goal → Effect
goal_adds s = record { declared = None; var = None; constraints = []; output = None; solved = Some s }

goal_short : (s : List Phase × Goal) → list_any has_long_row (goal_adds s).constraints ≡ false
unfolding goal_adds
goal_short s = refl

goal_effect_is : (text : List ℕ) (n count : ℕ) (t : Token) → meaning_of (scope_of n) (spelling text t) ≡ Some (Meaning.One (integer_at (n - 1))) → count ≡ n
    → effect_of text (scope_of n) count (goal_what t) ≡ goal_adds (asked n)
unfolding effect_of goal_adds
goal_effect_is text n count t is all =
    ap (λ o. goal_adds (last_phase count ∷ [], Goal.Minimize (unwrap_or (term_in o) (Term.Number (pos 0))))) (goal_means text n t is)
    ∙ ap (λ c. goal_adds (last_phase c ∷ [], Goal.Minimize (Term.Var (n - 1)))) all

goal_joins : (u n k : ℕ) (cs : List Constraint) → joined (reading u n cs k None) (goal_adds (asked n)) ≡ reading u n cs k (Some (asked n))
unfolding goal_adds
goal_joins u n k cs =
    let scope : scope_of n ++ [] ≡ scope_of n = append-nil (scope_of n) in
    let vars : vars_of u n ++ [] ≡ vars_of u n = append-nil (vars_of u n) in
    let constraints : cs ++ [] ≡ cs = append-nil cs in
    let kernels : k + 0 ≡ k = omega arith in
    ap (λ (s : Scope). record { scope = s; vars = vars_of u n ++ []; arrays = []; constraints = cs ++ []; output = []; solved = Some (asked n); constants = []; kernels = k + 0 }) scope
    ∙ (ap (λ (v : List VarDecl). record { scope = scope_of n; vars = v; arrays = []; constraints = cs ++ []; output = []; solved = Some (asked n); constants = []; kernels = k + 0 }) vars
    ∙ (ap (λ (x : List Constraint). record { scope = scope_of n; vars = vars_of u n; arrays = []; constraints = x; output = []; solved = Some (asked n); constants = []; kernels = k + 0 }) constraints
    ∙ ap (λ (x : ℕ). record { scope = scope_of n; vars = vars_of u n; arrays = []; constraints = cs; output = []; solved = Some (asked n); constants = []; kernels = x }) kernels))

pub goal_leaves : (text : List ℕ) (u n k : ℕ) (cs : List Constraint) (t : Token) → meaning_of (scope_of n) (spelling text t) ≡ Some (Meaning.One (integer_at (n - 1)))
    → joined (reading u n cs k None) (effect_of text (scope_of n) (length (vars_of u n)) (goal_what t)) ≡ reading u n cs k (Some (asked n))
goal_leaves text u n k cs t is =
    ap (joined (reading u n cs k None)) (goal_effect_is text n (length (vars_of u n)) t is (length-map-range_with_len (variable_at u) 0 n)) ∙ goal_joins u n k cs

pub goal_clean : (text : List ℕ) (u n k : ℕ) (cs : List Constraint) (t : Token) → n ≤ 2000 → k ≤ 8000 → meaning_of (scope_of n) (spelling text t) ≡ Some (Meaning.One (integer_at (n - 1)))
    → IsClean text (reading u n cs k None) (goal_what t)
goal_clean text u n k cs t few less is =
    let leaves = goal_leaves text u n k cs t is in
    let count : length (vars_of u n) ≡ n = length-map-range_with_len (variable_at u) 0 n in
    record {
      names = ap (λ o. not (is_some o) || false) is;
      fits = ap (λ o. not (if_some (fits Letter.Integer) o)) (goal_means text n t is);
      supported = refl;
      few = few_of (reading u n cs k None) (reading u n cs k (Some (asked n))) _ (goal_adds (asked n)) (goal_effect_is text n (length (vars_of u n)) t is count) (goal_short (asked n)) leaves
          (small_reading (reading u n cs k (Some (asked n))) (omega arith) (omega arith) refl);
      unsolved = refl;
    }
