-- What is written of a solution for an item is well-formed.
use Rattle.std.proofs.Common.{◌≡◌, ℕ, ◌≤◌, List, [], ◌∷◌, length, map, Bool, true, false, cond, ◌&&◌, nat_le, Option, Some, None, refl, subst, arith, ℤ}
use Rattle.std.specs.Prelude.{option_map, option_and_then, codes}
use Rattle.std.specs.List.{AllByRecursion as Each, list_all}
use Rattle.std.specs.Option.{IfSome, option_or}
use Rattle.std.proofs.lemmas.Bool.{and_parts, leb-true}
use Rattle.std.proofs.lemmas.List.{length-map}
use Rattle.std.proofs.lemmas.List.Elements.{All-from_recursion, recursion_from_All}
use Rattle.fzn_parser.specs.declared.tree.SetLit.{SetLit}
use Rattle.fzn_parser.specs.declared.tree.Shape.{Shape}
use Rattle.fzn_parser.specs.Notes.{ArgTree, set_arg, row_arg, AnnTree, bare, called, ArgTrees, no_args, more_args}
use Rattle.fzn_parser.specs.Texts.{spelling}
use Rattle.constraint_model.specs.declared.model.Term.{Term}
use Rattle.constraint_model.specs.declared.model.VarDecl.{VarDecl}
use Rattle.constraint_model.specs.declared.model.Output.{Output}
use Rattle.constraint_model.specs.declared.meanings.Scalar.{Scalar}
use Rattle.constraint_model.specs.declared.meanings.Meaning.{Meaning}
use Rattle.constraint_model.specs.Limits.{most_entries, most_index_sets}
use Rattle.constraint_model.specs.Numbers.{IsInProfile}
use Rattle.constraint_model.specs.Ranges.{Range}
use Rattle.constraint_model.specs.WellFormed.{IsTermOf, IsScalarOf, IsMeaningOf, IsOutputOf}
use Rattle.fzn_model.specs.Literals.{number_of}
use Rattle.fzn_model.specs.Outputs.{has_output_var, is_spelled, both, index_set, index_sets, lawful, array_argument, array_arguments, array_output, output_ranges}
use Rattle.fzn_model.specs.Effects.{is_bool_shape, term_in, terms_in, scalar_output, array_output as array_text}
use Rattle.fzn_model.specs.Faults.{scalar_fits, fits_scalar_type, fits_array_type}
use Rattle.fzn_model.proofs.MeaningLaws.{Ends, number_small}
use Rattle.fzn_model.proofs.AddedLaws.{same_type}

-- ---- scalars

scalar_written : (vars : List VarDecl) (is_bool : Bool) (name : List ℕ) (t : Term) (b : Bool) → IsTermOf vars is_bool t → IfSome (cond b (Some (Output.Scalar name is_bool t)) None) (IsOutputOf vars)
scalar_written vars is_bool name t true h = h
scalar_written vars is_bool name t false h = tt

pub scalar_outputs : (vars : List VarDecl) (text : List ℕ) (notes : List AnnTree) (is_bool : Bool) (name : List ℕ) (t : Term) → IsTermOf vars is_bool t → IfSome (scalar_output text notes is_bool name t) (IsOutputOf vars)
scalar_outputs vars text notes is_bool name t h = scalar_written vars is_bool name t (has_output_var text notes) h

pub value_outputs : (vars : List VarDecl) (text : List ℕ) (notes : List AnnTree) (shape : Shape) (name : List ℕ) (value : Option Meaning)
    → IfSome value (IsMeaningOf vars) → IfSome value (λ m. fits_scalar_type shape m ≡ true) → IfSome (option_and_then (scalar_output text notes (is_bool_shape shape) name) (term_in value)) (IsOutputOf vars)
value_outputs vars text notes shape name None k f = tt
value_outputs vars text notes shape name (Some (Meaning.One s)) k f =
    scalar_outputs vars text notes (is_bool_shape shape) name s.term (subst (λ b. IsTermOf vars b s.term) (same_type shape s f) k)
value_outputs vars text notes shape name (Some (Meaning.Row array)) k f = tt
value_outputs vars text notes shape name (Some (Meaning.Set ranges)) k f = tt

-- ---- index sets

-- one to six ranges within the profile
abbrev pub AreIndexSets : List Range → Type 0
AreIndexSets ranges = (1 ≤ length ranges) × (length ranges ≤ most_index_sets) × Each (Ends IsInProfile) ranges

both_ends : (o q : Option ℤ) → IfSome o IsInProfile → IfSome q IsInProfile → IfSome {T = Range} (both o q) (Ends IsInProfile)
both_ends None q h k = tt
both_ends (Some x) None h k = tt
both_ends (Some x) (Some y) h k = (h, k)

range_ends : (text : List ℕ) (a : ArgTree) → IfSome (index_set text a) (Ends IsInProfile)
range_ends text (set_arg (SetLit.Range low high)) = both_ends (number_of (spelling text low)) (number_of (spelling text high)) (number_small (spelling text low)) (number_small (spelling text high))
range_ends text (set_arg (SetLit.Braces values)) = tt
range_ends text a = tt

one_more : (o : Option Range) (q : Option (List Range)) → IfSome o (Ends IsInProfile) → IfSome q (Each (Ends IsInProfile)) → IfSome (option_map (λ (p : Range × List Range). p.0 ∷ p.1) (both o q)) (Each (Ends IsInProfile))
one_more None q h k = tt
one_more (Some r) None h k = tt
one_more (Some r) (Some rs) h k = (h, k)

ranges_ends : (text : List ℕ) (args : ArgTrees) → IfSome (index_sets text args) (Each (Ends IsInProfile))
ranges_ends text no_args = tt
ranges_ends text (more_args a rest) = one_more (index_set text a) (index_sets text rest) (range_ends text a) (ranges_ends text rest)

few_ranges : (ranges : List Range) → Each (Ends IsInProfile) ranges → IfSome (lawful ranges) AreIndexSets
few_ranges ranges h = by (nat_le 1 (length ranges) && nat_le (length ranges) most_index_sets) refl
  where
    by : (b : Bool) → (nat_le 1 (length ranges) && nat_le (length ranges) most_index_sets) ≡ b → IfSome (cond b (Some ranges) None) AreIndexSets
    by true e = let parts = and_parts (nat_le 1 (length ranges)) (nat_le (length ranges) most_index_sets) e in (leb-true 1 (length ranges) parts.0, leb-true (length ranges) most_index_sets parts.1, h)
    by false e = tt

then_few : (o : Option (List Range)) → IfSome o (Each (Ends IsInProfile)) → IfSome (option_and_then lawful o) AreIndexSets
then_few None h = tt
then_few (Some ranges) h = few_ranges ranges h

argument_sets : (text : List ℕ) (a : ArgTree) → IfSome (array_argument text a) AreIndexSets
argument_sets text (row_arg ranges) = then_few (index_sets text ranges) (ranges_ends text ranges)
argument_sets text a = tt

arguments_sets : (text : List ℕ) (args : ArgTrees) → IfSome (array_arguments text args) AreIndexSets
arguments_sets text (more_args a no_args) = argument_sets text a
arguments_sets text args = tt

chosen_sets : (b : Bool) (o : Option (List Range)) → IfSome o AreIndexSets → IfSome (cond b o None) AreIndexSets
chosen_sets true o h = h
chosen_sets false o h = tt

note_sets : (text : List ℕ) (note : AnnTree) → IfSome (array_output text note) AreIndexSets
note_sets text (called t args) = chosen_sets (is_spelled text (codes "output_array") t) (array_arguments text args) (arguments_sets text args)
note_sets text (bare t) = tt

first_sets : (o q : Option (List Range)) → IfSome o AreIndexSets → IfSome q AreIndexSets → IfSome (option_or o q) AreIndexSets
first_sets None q h k = k
first_sets (Some ranges) q h k = h

notes_sets : (text : List ℕ) (notes : List AnnTree) → IfSome (output_ranges text notes) AreIndexSets
unfolding output_ranges
notes_sets text [] = tt
notes_sets text (note ∷ notes) = first_sets (array_output text note) (output_ranges text notes) (note_sets text note) (notes_sets text notes)

-- ---- arrays

-- few terms of one type
abbrev AreTerms : List VarDecl → Bool → List Term → Type 0
AreTerms vars is_bool ts = (length ts ≤ most_entries) × Each (IsTermOf vars is_bool) ts

entries_terms : (vars : List VarDecl) (shape : Shape) (entries : List Scalar) → Each (IsScalarOf vars) entries → list_all (scalar_fits shape) entries ≡ true → Each (IsTermOf vars (is_bool_shape shape)) (map (λ (e : Scalar). e.term) entries)
entries_terms vars shape [] h f = tt
entries_terms vars shape (e ∷ es) h f =
    let parts = and_parts (scalar_fits shape e) (list_all (scalar_fits shape) es) f in
    (subst (λ b. IsTermOf vars b e.term) (same_type shape e parts.0) h.0, entries_terms vars shape es h.1 parts.1)

value_terms : (vars : List VarDecl) (shape : Shape) (value : Option Meaning) → IfSome value (IsMeaningOf vars) → IfSome value (λ m. fits_array_type shape m ≡ true) → AreTerms vars (is_bool_shape shape) (terms_in value)
value_terms vars shape None k f = (omega arith, tt)
value_terms vars shape (Some (Meaning.One s)) k f = (omega arith, tt)
value_terms vars shape (Some (Meaning.Set ranges)) k f = (omega arith, tt)
value_terms vars shape (Some (Meaning.Row array)) k f =
    (omega (arith, k.0, length-map array.entries (λ (e : Scalar). e.term)), entries_terms vars shape array.entries (recursion_from_All (IsScalarOf vars) array.entries k.1) f)

array_written : (vars : List VarDecl) (is_bool : Bool) (name : List ℕ) (ts : List Term) (o : Option (List Range)) → AreTerms vars is_bool ts → IfSome o AreIndexSets → IfSome (option_map (λ ranges. Output.Array name is_bool ranges ts) o) (IsOutputOf vars)
array_written vars is_bool name ts None h k = tt
array_written vars is_bool name ts (Some ranges) h k = (h.0, All-from_recursion (IsTermOf vars is_bool) ts h.1, k.0, k.1, All-from_recursion (Ends IsInProfile) ranges k.2)

pub array_outputs : (vars : List VarDecl) (text : List ℕ) (notes : List AnnTree) (shape : Shape) (name : List ℕ) (value : Option Meaning)
    → IfSome value (IsMeaningOf vars) → IfSome value (λ m. fits_array_type shape m ≡ true) → IfSome (array_text text notes (is_bool_shape shape) name (terms_in value)) (IsOutputOf vars)
array_outputs vars text notes shape name value k f = array_written vars (is_bool_shape shape) name (terms_in value) (output_ranges text notes) (value_terms vars shape value k f) (notes_sets text notes)
