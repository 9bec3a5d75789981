use Rattle.std.proofs.Common.{◌≡◌, ◌<◌, ℕ, get_or}
use Rattle.std.specs.Prelude.{Contains}
use Rattle.constraint_model.specs.declared.model.Term.{Term}
use Rattle.constraint_model.specs.declared.model.Output.{Output}
use Rattle.fzn_print.specs.Reading.{terms_in}
use Rattle.fzn_print.proofs.unprinted.find_from.Given as goal

-- from the start on, no output so far has the variable
abbrev pub invariant-loop-output : goal.invariant-loop-output
invariant-loop-output l = l.fn.from.output ≡ 0 → l.fn.from.entry ≡ 0
    → (l.entry ≡ 0) × ((k : ℕ) (d : Output) → k < l.output → Contains (terms_in (get_or l.outputs k d)) (Term.Var l.variable) → ⊥)
