-- The kinds of fault of a text: how each is numbered and named.
use Rattle.std.specs.Prelude.{ℕ, List, [], ◌∷◌, codes, find, nat_eq, Option}
use Rattle.fzn_model.specs.declared.fault_kinds.FaultKind.{FaultKind}

abbrev pub kind_number : FaultKind → ℕ
kind_number FaultKind.Lex = 1
kind_number FaultKind.Syntax = 2
kind_number FaultKind.NameTwice = 3
kind_number FaultKind.NameUnknown = 4
kind_number FaultKind.UnknownConstraint = 5
kind_number FaultKind.WrongArgument = 6
kind_number FaultKind.Unsupported = 7
kind_number FaultKind.OutOfRange = 8
kind_number FaultKind.TooMany = 9
kind_number FaultKind.NoSolve = 10
kind_number FaultKind.AfterSolve = 11
kind_number FaultKind.TooLong = 12

abbrev pub kind_name : FaultKind → List ℕ
kind_name FaultKind.Lex = codes "Lex"
kind_name FaultKind.Syntax = codes "Syntax"
kind_name FaultKind.NameTwice = codes "NameTwice"
kind_name FaultKind.NameUnknown = codes "NameUnknown"
kind_name FaultKind.UnknownConstraint = codes "UnknownConstraint"
kind_name FaultKind.WrongArgument = codes "WrongArgument"
kind_name FaultKind.Unsupported = codes "Unsupported"
kind_name FaultKind.OutOfRange = codes "OutOfRange"
kind_name FaultKind.TooMany = codes "TooMany"
kind_name FaultKind.NoSolve = codes "NoSolve"
kind_name FaultKind.AfterSolve = codes "AfterSolve"
kind_name FaultKind.TooLong = codes "TooLong"

-- every kind, in the order of the numbers
abbrev pub kinds : List FaultKind
kinds =
    FaultKind.Lex ∷ FaultKind.Syntax ∷ FaultKind.NameTwice ∷ FaultKind.NameUnknown ∷ FaultKind.UnknownConstraint ∷ FaultKind.WrongArgument
    ∷ FaultKind.Unsupported ∷ FaultKind.OutOfRange ∷ FaultKind.TooMany ∷ FaultKind.NoSolve ∷ FaultKind.AfterSolve ∷ FaultKind.TooLong ∷ []

-- the kind of this number, where there is one
unfoldable pub kind_numbered : ℕ → Option FaultKind
kind_numbered number = find (λ kind. nat_eq (kind_number kind) number) kinds
