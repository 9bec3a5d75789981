-- Arguments of annotations by how many there are.
use Rattle.std.proofs.Common.{◌≡◌, ℕ, ◌<◌, ◌≤◌, List, [], ◌∷◌, map, length, get_or, None, refl, ap, arith}
use Rattle.fzn_parser.specs.declared.tree.Arg.{Arg}
use Rattle.fzn_parser.specs.Notes.{ArgTrees, args_of, arg_tree}
use Rattle.fzn_model.specs.Outputs.{array_arguments}
use Rattle.fzn_model.specs.Scopes.{Scope}
use Rattle.fzn_model.specs.Searches.{phase_of, phases_in_list, phases_in_row}

-- the arguments as their tree
abbrev pub trees : List Arg → ArgTrees
trees args = args_of (map arg_tree args)

module _ (text : List ℕ) (scope : Scope) where
  -- fewer than three arguments are no search
  pub no_phase : (args : List Arg) → length args < 3 → [] ≡ phase_of text scope (trees args)
  no_phase [] l = refl
  no_phase (a ∷ []) l = refl
  no_phase (a ∷ b ∷ []) l = refl
  no_phase (a ∷ b ∷ c ∷ rest) l = absurd (omega arith)

  -- one argument, which may be a list of annotations
  pub one_argument : (args : List Arg) (a : Arg) → 1 ≤ length args → length args < 2 → a ≡ get_or args 0 a → phases_in_row text scope (arg_tree a) ≡ phases_in_list text scope (trees args)
  one_argument [] a l m e = absurd (omega arith)
  one_argument (x ∷ []) a l m e = ap (λ y. phases_in_row text scope (arg_tree y)) e
  one_argument (x ∷ y ∷ rest) a l m e = absurd (omega arith)

  -- more than one argument are no list of annotations
  pub more_arguments : (args : List Arg) → 2 ≤ length args → phases_in_list text scope (trees args) ≡ []
  more_arguments [] l = refl
  more_arguments (x ∷ []) l = absurd (omega arith)
  more_arguments (x ∷ y ∷ rest) l = refl

-- more than one argument are no list of index sets
pub more_range_lists : (text : List ℕ) (args : List Arg) → 2 ≤ length args → array_arguments text (trees args) ≡ None
more_range_lists text [] l = refl
more_range_lists text (x ∷ []) l = absurd (omega arith)
more_range_lists text (x ∷ y ∷ rest) l = refl
