-- The literals of a clause, whether they are listed or its variables are, by their signs.
use Rattle.std.specs.Prelude.{ℕ, Bool, true, false, List, ◌++◌, map}
use Rattle.tells.specs.declared.tell.Lit.{Lit}
use Rattle.clause_tells.specs.declared.literal_list.Form.{Form}

-- the literal of a variable by its sign
abbrev pub literal : Bool → ℕ → Lit
literal positive v = record { var = v; positive = positive }

-- the positive literals of some variables, and behind them the negative ones of others
abbrev pub literals_by_sign : List ℕ → List ℕ → List Lit
literals_by_sign positives negatives = map (literal true) positives ++ map (literal false) negatives

-- the listed literals, or the positive ones and behind them the negative ones
abbrev pub literals : Form → List Lit
literals (Form.Listed lits) = lits
literals (Form.BySign positives negatives) = literals_by_sign positives negatives
