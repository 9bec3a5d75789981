-- Which declarations are written with a solution: those with the annotation `output_var`, and arrays with
-- `output_array([l1..u1, ..])` of one to six index sets. (MiniZinc Handbook, FlatZinc: annotations.)
use Rattle.std.specs.Prelude.{ℕ, List, [], ◌∷◌, length, Bool, false, ◌&&◌, cond, nat_le, codes, bytes_eq, Option, Some, None, option_and_then, option_map}
use Rattle.std.specs.List.{list_any}
use Rattle.std.specs.Option.{option_or}
use Rattle.fzn_lexer.specs.declared.Token.{Token}
use Rattle.fzn_parser.specs.declared.tree.SetLit.{SetLit}
use Rattle.fzn_parser.specs.Notes.{ArgTree, set_arg, row_arg, AnnTree, bare, called, ArgTrees, no_args, more_args}
use Rattle.fzn_parser.specs.Texts.{spelling}
use Rattle.fzn_model.specs.Literals.{number_of}
use Rattle.constraint_model.specs.Limits.{most_index_sets}
use Rattle.constraint_model.specs.Ranges.{Range}

-- the token is spelled so
abbrev pub is_spelled : List ℕ → List ℕ → Token → Bool
is_spelled text word t = bytes_eq (spelling text t) word

-- the annotation is this name alone
abbrev pub is_word : List ℕ → List ℕ → AnnTree → Bool
is_word text word (bare t) = is_spelled text word t
is_word text word (called t args) = false

-- one of the annotations is `output_var`
unfoldable pub has_output_var : List ℕ → List AnnTree → Bool
has_output_var text notes = list_any (is_word text (codes "output_var")) notes

abbrev pub both : {A B : Type 0} → Option A → Option B → Option (A × B)
both (Some x) (Some y) = Some (x, y)
both _ _ = None

-- the argument is a range of two numbers of the profile
abbrev pub index_set : List ℕ → ArgTree → Option Range
index_set text (set_arg (SetLit.Range low high)) = both (number_of (spelling text low)) (number_of (spelling text high))
index_set text _ = None

abbrev pub index_sets : List ℕ → ArgTrees → Option (List Range)
index_sets text no_args = Some []
index_sets text (more_args a rest) = option_map (λ p. p.0 ∷ p.1) (both (index_set text a) (index_sets text rest))

-- one to six index sets
abbrev pub lawful : List Range → Option (List Range)
lawful ranges = cond (nat_le 1 (length ranges) && nat_le (length ranges) most_index_sets) (Some ranges) None

-- the index sets of the one argument of a lawful `output_array`
abbrev pub array_argument : List ℕ → ArgTree → Option (List Range)
array_argument text (row_arg ranges) = option_and_then lawful (index_sets text ranges)
array_argument text _ = None

abbrev pub array_arguments : List ℕ → ArgTrees → Option (List Range)
array_arguments text (more_args a no_args) = array_argument text a
array_arguments text _ = None

-- the index sets of a lawful `output_array`
abbrev pub array_output : List ℕ → AnnTree → Option (List Range)
array_output text (called t args) = cond (is_spelled text (codes "output_array") t) (array_arguments text args) None
array_output text (bare t) = None

-- the index sets of the first lawful `output_array` among the annotations
unfoldable pub output_ranges : List ℕ → List AnnTree → Option (List Range)
output_ranges text [] = None
output_ranges text (note ∷ notes) = option_or (array_output text note) (output_ranges text notes)
