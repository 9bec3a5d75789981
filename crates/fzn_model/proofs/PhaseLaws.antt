-- The phases that annotations ask for have declared variables, where the declared names stand for such.
use Rattle.std.proofs.Common.{◌≡◌, ℕ, zero, suc, ◌+◌, ◌<◌, ◌≤◌, List, [], ◌∷◌, ◌++◌, length, Bool, true, false, cond, Option, Some, None, refl, arith}
use Rattle.std.specs.Prelude.{option_map, All, codes}
use Rattle.std.specs.List.{AllByRecursion as Each, cons_option, range_with_len}
use Rattle.std.specs.Option.{IfSome}
use Rattle.std.proofs.lemmas.List.Elements.{All-from_recursion, recursion_from_All}
use Rattle.fzn_parser.specs.Notes.{ArgTree, note_arg, row_arg, AnnTree, bare, called, ArgTrees, no_args, more_args}
use Rattle.fzn_parser.specs.Texts.{spelling}
use Rattle.constraint_model.specs.declared.model.Term.{Term}
use Rattle.constraint_model.specs.declared.model.VarDecl.{VarDecl}
use Rattle.constraint_model.specs.declared.model.VarSel.{VarSel}
use Rattle.constraint_model.specs.declared.model.ValSel.{ValSel}
use Rattle.constraint_model.specs.declared.model.Phase.{Phase}
use Rattle.constraint_model.specs.declared.meanings.Scalar.{Scalar}
use Rattle.constraint_model.specs.declared.meanings.Meaning.{Meaning}
use Rattle.constraint_model.specs.Entries.{variable_in, variables_in}
use Rattle.constraint_model.specs.Searches.{last_phase}
use Rattle.constraint_model.specs.WellFormed.{IsTermOf, IsScalarOf, IsMeaningOf}
use Rattle.fzn_model.specs.Scopes.{Scope, meaning_of}
use Rattle.fzn_model.specs.Outputs.{both, is_spelled}
use Rattle.fzn_model.specs.Searches.{variables_of_entry, entry_variables, entries_variables, variables_of_row, phase_variables, var_sel_of, val_sel_of, phase_on, phase_of, is_search, phases_in, phases_in_list, phases_in_row, phases_in_entries, phases_in_entry, phases_of}
use Rattle.fzn_model.proofs.MeaningLaws.{each_append, each_weaker, AreNames, found}

abbrev pub AreBelow : ℕ → List ℕ → Type 0
AreBelow n vs = Each (λ v. v < n) vs

-- the variables of each phase are declared
abbrev pub AreDeclared : ℕ → List Phase → Type 0
AreDeclared n phases = Each (λ (p : Phase). AreBelow n p.vars) phases

term_below : (vars : List VarDecl) (is_bool : Bool) (t : Term) → IsTermOf vars is_bool t → IfSome (variable_in t) (λ v. v < length vars)
term_below vars is_bool (Term.Number n) h = tt
term_below vars is_bool (Term.Var v) h = h.inside

variables_below : (vars : List VarDecl) (entries : List Scalar) → Each (IsScalarOf vars) entries → AreBelow (length vars) (variables_in entries)
variables_below vars [] h = tt
variables_below vars (s ∷ ss) h = by (variable_in s.term) (term_below vars s.is_bool s.term h.0) (variables_below vars ss h.1)
  where
    by : (o : Option ℕ) → IfSome o (λ v. v < length vars) → AreBelow (length vars) (variables_in ss) → AreBelow (length vars) (cons_option o (variables_in ss))
    by None k rest = rest
    by (Some v) k rest = (k, rest)

row_below : (vars : List VarDecl) (o : Option Meaning) → IfSome o (IsMeaningOf vars) → IfSome (variables_of_row o) (AreBelow (length vars))
row_below vars None h = tt
row_below vars (Some (Meaning.One s)) h = tt
row_below vars (Some (Meaning.Set ranges)) h = tt
row_below vars (Some (Meaning.Row array)) h = variables_below vars array.entries (recursion_from_All (IsScalarOf vars) array.entries h.1)

entry_below : (vars : List VarDecl) (o : Option Meaning) → IfSome o (IsMeaningOf vars) → IfSome (variables_of_entry o) (AreBelow (length vars))
entry_below vars None h = tt
entry_below vars (Some (Meaning.One s)) h = variables_below vars (s ∷ []) (h, tt)
entry_below vars (Some (Meaning.Set ranges)) h = tt
entry_below vars (Some (Meaning.Row array)) h = tt

both_below : (n : ℕ) (o q : Option (List ℕ)) → IfSome o (AreBelow n) → IfSome q (AreBelow n) → IfSome (option_map (λ (p : List ℕ × List ℕ). p.0 ++ p.1) (both o q)) (AreBelow n)
both_below n None q h k = tt
both_below n (Some xs) None h k = tt
both_below n (Some xs) (Some ys) h k = each_append (λ v. v < n) xs ys h k

on_below : (n : ℕ) (o : Option (List ℕ)) (r : VarSel) (s : ValSel) → IfSome o (AreBelow n) → AreDeclared n (phase_on o r s)
on_below n None r s h = tt
on_below n (Some vs) r s h = (h, tt)

chosen_below : (n : ℕ) (b : Bool) (ps qs : List Phase) → AreDeclared n ps → AreDeclared n qs → AreDeclared n (cond b ps qs)
chosen_below n true ps qs h k = h
chosen_below n false ps qs h k = k

arg_entry : (vars : List VarDecl) (text : List ℕ) (scope : Scope) → AreNames vars scope → (a : ArgTree) → IfSome (entry_variables text scope a) (AreBelow (length vars))
arg_entry vars text scope h (note_arg (bare t)) = entry_below vars (meaning_of scope (spelling text t)) (found (IsMeaningOf vars) scope (spelling text t) h)
arg_entry vars text scope h (note_arg (called t args)) = tt
arg_entry vars text scope h (row_arg args) = tt
arg_entry vars text scope h a = tt

arg_entries : (vars : List VarDecl) (text : List ℕ) (scope : Scope) → AreNames vars scope → (args : ArgTrees) → IfSome (entries_variables text scope args) (AreBelow (length vars))
arg_entries vars text scope h no_args = tt
arg_entries vars text scope h (more_args a rest) = both_below (length vars) (entry_variables text scope a) (entries_variables text scope rest) (arg_entry vars text scope h a) (arg_entries vars text scope h rest)

arg_variables : (vars : List VarDecl) (text : List ℕ) (scope : Scope) → AreNames vars scope → (a : ArgTree) → IfSome (phase_variables text scope a) (AreBelow (length vars))
arg_variables vars text scope h (note_arg (bare t)) = row_below vars (meaning_of scope (spelling text t)) (found (IsMeaningOf vars) scope (spelling text t) h)
arg_variables vars text scope h (row_arg entries) = arg_entries vars text scope h entries
arg_variables vars text scope h a = tt

phase_declared : (vars : List VarDecl) (text : List ℕ) (scope : Scope) → AreNames vars scope → (args : ArgTrees) → AreDeclared (length vars) (phase_of text scope args)
phase_declared vars text scope h (more_args a (more_args r (more_args s rest))) = on_below (length vars) (phase_variables text scope a) (var_sel_of text r) (val_sel_of text s) (arg_variables vars text scope h a)
phase_declared vars text scope h args = tt

mutual
  note_declared : (vars : List VarDecl) (text : List ℕ) (scope : Scope) → AreNames vars scope → (note : AnnTree) → AreDeclared (length vars) (phases_in text scope note)
  note_declared vars text scope h (bare t) = tt
  note_declared vars text scope h (called t args) =
      chosen_below (length vars) (is_search text t) (phase_of text scope args) (cond (is_spelled text (codes "seq_search") t) (phases_in_list text scope args) []) (phase_declared vars text scope h args)
      (chosen_below (length vars) (is_spelled text (codes "seq_search") t) (phases_in_list text scope args) [] (list_declared vars text scope h args) tt)

  list_declared : (vars : List VarDecl) (text : List ℕ) (scope : Scope) → AreNames vars scope → (args : ArgTrees) → AreDeclared (length vars) (phases_in_list text scope args)
  list_declared vars text scope h (more_args a no_args) = row_declared vars text scope h a
  list_declared vars text scope h args = tt

  row_declared : (vars : List VarDecl) (text : List ℕ) (scope : Scope) → AreNames vars scope → (a : ArgTree) → AreDeclared (length vars) (phases_in_row text scope a)
  row_declared vars text scope h (row_arg entries) = entries_declared vars text scope h entries
  row_declared vars text scope h a = tt

  entries_declared : (vars : List VarDecl) (text : List ℕ) (scope : Scope) → AreNames vars scope → (args : ArgTrees) → AreDeclared (length vars) (phases_in_entries text scope args)
  entries_declared vars text scope h no_args = tt
  entries_declared vars text scope h (more_args a rest) =
      each_append (λ (p : Phase). AreBelow (length vars) p.vars) (phases_in_entry text scope a) (phases_in_entries text scope rest) (one_declared vars text scope h a) (entries_declared vars text scope h rest)

  one_declared : (vars : List VarDecl) (text : List ℕ) (scope : Scope) → AreNames vars scope → (a : ArgTree) → AreDeclared (length vars) (phases_in_entry text scope a)
  one_declared vars text scope h (note_arg note) = note_declared vars text scope h note
  one_declared vars text scope h a = tt

pub phases_declared : (vars : List VarDecl) (text : List ℕ) (scope : Scope) → AreNames vars scope → (notes : List AnnTree) → AreDeclared (length vars) (phases_of text scope notes)
phases_declared vars text scope h [] = tt
phases_declared vars text scope h (note ∷ notes) =
    each_append (λ (p : Phase). AreBelow (length vars) p.vars) (phases_in text scope note) (phases_of text scope notes) (note_declared vars text scope h note) (phases_declared vars text scope h notes)

range_below : (a n m : ℕ) → a + n ≤ m → AreBelow m (range_with_len a n)
range_below a zero m l = tt
range_below a (suc n) m l = (omega arith, range_below (a + 1) n m (omega arith))

-- the text's phases, and the last one behind them
pub record IsSearch (n : ℕ) (phases : List Phase) : Type 0 where
  pub declared : AreDeclared n phases
  pub front : List Phase
  pub last : phases ≡ front ++ last_phase n ∷ []

pub search_declared : (vars : List VarDecl) (text : List ℕ) (scope : Scope) → AreNames vars scope → (notes : List AnnTree) → IsSearch (length vars) (phases_of text scope notes ++ last_phase (length vars) ∷ [])
search_declared vars text scope h notes = record {
  declared = each_append (λ (p : Phase). AreBelow (length vars) p.vars) (phases_of text scope notes) (last_phase (length vars) ∷ []) (phases_declared vars text scope h notes)
      (range_below 0 (length vars) (length vars) (omega arith), tt);
  front = phases_of text scope notes;
  last = refl;
}

pub all_declared : (n : ℕ) (phases : List Phase) → AreDeclared n phases → All (λ (p : Phase). All (λ v. v < n) p.vars) phases
all_declared n phases h =
    All-from_recursion (λ (p : Phase). All (λ v. v < n) p.vars) phases
    (each_weaker (λ (p : Phase). AreBelow n p.vars) (λ (p : Phase). All (λ v. v < n) p.vars) (λ p k. All-from_recursion (λ v. v < n) p.vars k) phases h)
