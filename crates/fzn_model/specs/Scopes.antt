-- What names and expressions denote, by the declarations before them.
-- (MiniZinc Handbook, FlatZinc: parameter and variable declarations, basic expressions.)
use Rattle.std.specs.Prelude.{ℕ, ℤ, pos, neg_ℤ, List, [], ◌∷◌, map, true, false, if◌then◌else◌, bytes_eq, find, Option, Some, None, option_map, option_and_then, unwrap_or, All}
use Rattle.std.specs.Str.Parse.{starts_with_minus}
use Rattle.fzn_lexer.specs.declared.Token.{Token}
use Rattle.fzn_parser.specs.declared.tree.SetLit.{SetLit}
use Rattle.fzn_parser.specs.declared.tree.Elem.{Elem}
use Rattle.fzn_parser.specs.declared.tree.Expr.{Expr}
use Rattle.fzn_parser.specs.Texts.{spelling}
use Rattle.constraint_model.specs.declared.model.Term.{Term}
use Rattle.constraint_model.specs.declared.meanings.Scalar.{Scalar}
use Rattle.constraint_model.specs.declared.meanings.Meaning.{Meaning}
use Rattle.fzn_model.specs.Literals.{number_of}
use Rattle.constraint_model.specs.Ranges.{Range, ranges_of, range_of}
use Rattle.constraint_model.specs.Fits.{operand_of}
use Rattle.constraint_model.specs.Arrays.{HasNumber}

-- the declared names in order, each with what it denotes
abbrev pub Scope : Type 0
Scope = List (List ℕ × Meaning)

-- each array with a number that a name denotes has the terms of the declared array at that place
abbrev pub AreNumbered : List (List Term) → Scope → Type 0
AreNumbered arrays scope = All (λ d. HasNumber arrays (operand_of d.1)) scope

-- what a name denotes, where it was declared: the first declaration counts
abbrev pub meaning_of : Scope → List ℕ → Option Meaning
meaning_of scope name = option_map (λ entry. entry.1) (find (λ entry. bytes_eq name entry.0) scope)

-- what a literal counts as whose number no model has: its sign, by which it may be a wrong argument; else it is out of range
abbrev pub sign_number : List ℕ → ℤ
sign_number s = if starts_with_minus s then neg_ℤ (pos 1) else pos 0

-- the number of an integer literal
abbrev pub number_at : List ℕ → Token → ℤ
number_at text t = unwrap_or (number_of (spelling text t)) (sign_number (spelling text t))

-- the set that a literal writes
abbrev pub set_at : List ℕ → SetLit → List Range
set_at text (SetLit.Range low high) = range_of (number_at text low) (number_at text high)
set_at text (SetLit.Braces values) = ranges_of (map (number_at text) values)

-- the boolean with this number: 0 is false, 1 true
abbrev pub boolean : ℤ → Scalar
boolean n = record { is_bool = true; term = Term.Number n }

-- the integer with this number
abbrev pub integer : ℤ → Scalar
integer n = record { is_bool = false; term = Term.Number n }

-- the boolean or the integer that a meaning is
abbrev pub scalar_of : Meaning → Option Scalar
scalar_of (Meaning.One s) = Some s
scalar_of (Meaning.Row array) = None
scalar_of (Meaning.Set ranges) = None

-- all of them, where each is there
abbrev pub all_some : {A : Type 0} → List (Option A) → Option (List A)
all_some [] = Some []
all_some (None ∷ os) = None
all_some (Some x ∷ os) = option_map (λ xs. x ∷ xs) (all_some os)

-- what a single literal or name denotes: nothing for a float or a name that wasn't declared; a name may denote an array
abbrev pub simple_at : List ℕ → Scope → Elem → Option Meaning
simple_at text scope Elem.True = Some (Meaning.One (boolean (pos 1)))
simple_at text scope Elem.False = Some (Meaning.One (boolean (pos 0)))
simple_at text scope (Elem.Int t) = Some (Meaning.One (integer (number_at text t)))
simple_at text scope (Elem.Float t) = None
simple_at text scope (Elem.Name t) = meaning_of scope (spelling text t)
simple_at text scope (Elem.Set s) = Some (Meaning.Set (set_at text s))

-- what an array's entry denotes, where that is a boolean or an integer
abbrev pub entry_at : List ℕ → Scope → Elem → Option Scalar
entry_at text scope e = option_and_then scalar_of (simple_at text scope e)

-- an array as it is written out, which has no number
abbrev pub array_literal : List Scalar → Meaning
array_literal entries = Meaning.Row (record { entries = entries; number = None })

-- what an expression denotes, where that is a boolean, an integer, an array of these or a set
unfoldable pub expr_meaning : List ℕ → Scope → Expr → Option Meaning
expr_meaning text scope (Expr.One e) = simple_at text scope e
expr_meaning text scope (Expr.Row es) = option_map array_literal (all_some (map (entry_at text scope) es))
