-- The phases of the search that annotations of the solve item ask for. An annotation of any other shape asks for none.
-- (MiniZinc Handbook, FlatZinc: search annotations.)
use Rattle.std.specs.Prelude.{ℕ, List, [], ◌∷◌, ◌++◌, Bool, cond, ◌||◌, codes, bytes_eq, Option, Some, None, option_map, if◌then◌else◌}
use Rattle.fzn_lexer.specs.declared.Token.{Token}
use Rattle.fzn_parser.specs.Notes.{ArgTree, note_arg, row_arg, AnnTree, bare, called, ArgTrees, no_args, more_args}
use Rattle.fzn_parser.specs.Texts.{spelling}
use Rattle.constraint_model.specs.declared.model.VarSel.{VarSel}
use Rattle.constraint_model.specs.declared.model.ValSel.{ValSel}
use Rattle.constraint_model.specs.declared.model.Phase.{Phase}
use Rattle.constraint_model.specs.declared.meanings.Meaning.{Meaning}
use Rattle.constraint_model.specs.Entries.{variables_in}
use Rattle.fzn_model.specs.Scopes.{Scope, meaning_of}
use Rattle.fzn_model.specs.Outputs.{is_spelled, both}

-- the variables that a name in an array of them denotes, by its meaning: one variable, or none where it is a constant or a set;
-- no list where it is an array or wasn't declared
abbrev pub variables_of_entry : Option Meaning → Option (List ℕ)
variables_of_entry (Some (Meaning.One s)) = Some (variables_in (s ∷ []))
variables_of_entry (Some (Meaning.Set ranges)) = Some []
variables_of_entry (Some (Meaning.Row array)) = None
variables_of_entry None = None

-- the variables of one entry of an array literal; literals are passed over
abbrev pub entry_variables : List ℕ → Scope → ArgTree → Option (List ℕ)
entry_variables text scope (note_arg (bare t)) = variables_of_entry (meaning_of scope (spelling text t))
entry_variables text scope (note_arg (called t args)) = None
entry_variables text scope (row_arg args) = None
entry_variables text scope _ = Some []

abbrev pub entries_variables : List ℕ → Scope → ArgTrees → Option (List ℕ)
entries_variables text scope no_args = Some []
entries_variables text scope (more_args a rest) = option_map (λ p. p.0 ++ p.1) (both (entry_variables text scope a) (entries_variables text scope rest))

abbrev pub variables_of_row : Option Meaning → Option (List ℕ)
variables_of_row (Some (Meaning.Row array)) = Some (variables_in array.entries)
variables_of_row _ = None

-- the variables that the first argument names: an array by its name, or an array literal
abbrev pub phase_variables : List ℕ → Scope → ArgTree → Option (List ℕ)
phase_variables text scope (note_arg (bare t)) = variables_of_row (meaning_of scope (spelling text t))
phase_variables text scope (row_arg entries) = entries_variables text scope entries
phase_variables text scope _ = None

abbrev pub var_sel_named : List ℕ → VarSel
var_sel_named word =
    if bytes_eq word (codes "first_fail") then VarSel.FirstFail
    else (if bytes_eq word (codes "anti_first_fail") then VarSel.AntiFirstFail
    else (if bytes_eq word (codes "smallest") then VarSel.Smallest
    else (if bytes_eq word (codes "largest") then VarSel.Largest
    else VarSel.InputOrder)))

abbrev pub val_sel_named : List ℕ → ValSel
val_sel_named word =
    if bytes_eq word (codes "indomain_max") then ValSel.Max
    else (if bytes_eq word (codes "indomain_split") then ValSel.Split
    else (if bytes_eq word (codes "indomain_reverse_split") then ValSel.ReverseSplit
    else ValSel.Min))

-- the selections by their names; anything else is read as an unknown name
abbrev pub var_sel_of : List ℕ → ArgTree → VarSel
var_sel_of text (note_arg (bare t)) = var_sel_named (spelling text t)
var_sel_of text _ = VarSel.InputOrder

abbrev pub val_sel_of : List ℕ → ArgTree → ValSel
val_sel_of text (note_arg (bare t)) = val_sel_named (spelling text t)
val_sel_of text _ = ValSel.Min

-- a phase over these variables, where they are there
abbrev pub phase_on : Option (List ℕ) → VarSel → ValSel → List Phase
phase_on (Some vars) var_sel val_sel = record { vars = vars; var_sel = var_sel; val_sel = val_sel } ∷ []
phase_on None var_sel val_sel = []

-- the phase of three arguments or more
abbrev pub phase_of : List ℕ → Scope → ArgTrees → List Phase
phase_of text scope (more_args vars (more_args var_sel (more_args val_sel rest))) =
    phase_on (phase_variables text scope vars) (var_sel_of text var_sel) (val_sel_of text val_sel)
phase_of text scope _ = []

abbrev pub is_search : List ℕ → Token → Bool
is_search text t = is_spelled text (codes "int_search") t || is_spelled text (codes "bool_search") t

abbrev mutual
  -- the phases of an annotation, in the order of the text
  pub phases_in : List ℕ → Scope → AnnTree → List Phase
  phases_in text scope (bare t) = []
  phases_in text scope (called t args) = cond (is_search text t) (phase_of text scope args) (cond (is_spelled text (codes "seq_search") t) (phases_in_list text scope args) [])

  -- the one argument of `seq_search` is a list of annotations
  pub phases_in_list : List ℕ → Scope → ArgTrees → List Phase
  phases_in_list text scope (more_args a no_args) = phases_in_row text scope a
  phases_in_list text scope _ = []

  pub phases_in_row : List ℕ → Scope → ArgTree → List Phase
  phases_in_row text scope (row_arg entries) = phases_in_entries text scope entries
  phases_in_row text scope _ = []

  pub phases_in_entries : List ℕ → Scope → ArgTrees → List Phase
  phases_in_entries text scope no_args = []
  phases_in_entries text scope (more_args a rest) = phases_in_entry text scope a ++ phases_in_entries text scope rest

  -- what is no annotation asks for no phase
  pub phases_in_entry : List ℕ → Scope → ArgTree → List Phase
  phases_in_entry text scope (note_arg note) = phases_in text scope note
  phases_in_entry text scope _ = []

abbrev pub phases_of : List ℕ → Scope → List AnnTree → List Phase
phases_of text scope [] = []
phases_of text scope (note ∷ notes) = phases_in text scope note ++ phases_of text scope notes
