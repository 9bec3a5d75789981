-- What all entries of an array have in common.
use Rattle.std.specs.Prelude.{pos, List, Bool, true, false, not, ◌&&◌, int_le, map, cond}
use Rattle.std.specs.List.{list_all}
use Rattle.constraint_model.specs.declared.model.Term.{Term}
use Rattle.constraint_model.specs.declared.meanings.Scalar.{Scalar}
use Rattle.constraint_model.specs.declared.kinds.Kinds.{Kinds}

abbrev pub is_constant : Scalar → Bool
is_constant s = is_number s.term
  where
    is_number : Term → Bool
    is_number (Term.Number n) = true
    is_number (Term.Var v) = false

abbrev pub is_integer : Scalar → Bool
is_integer s = not s.is_bool

abbrev pub is_boolean : Scalar → Bool
is_boolean s = s.is_bool

-- an integer constant that isn't negative
abbrev pub is_amount : Scalar → Bool
is_amount s = is_integer s && is_natural s.term
  where
    is_natural : Term → Bool
    is_natural (Term.Number n) = int_le (pos 0) n
    is_natural (Term.Var v) = false

-- what all of these entries have in common
abbrev pub kinds_of : List Scalar → Kinds
kinds_of entries =
    record {
      all_integers = list_all is_integer entries;
      all_booleans = list_all is_boolean entries;
      all_constants = list_all is_constant entries;
      all_amounts = list_all is_amount entries;
    }

-- the entries of these terms, all booleans or all integers
abbrev pub entries_on : Bool → List Term → List Scalar
entries_on is_bool terms = map (λ t. record { is_bool = is_bool; term = t }) terms

-- the entries of these terms where all are integers or all are booleans, else those that are kept beside
abbrev pub scalars_of : Kinds → List Term → List Scalar → List Scalar
scalars_of kinds terms mixed = cond kinds.all_integers (entries_on false terms) (cond kinds.all_booleans (entries_on true terms) mixed)
