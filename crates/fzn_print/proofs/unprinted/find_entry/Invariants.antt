use Rattle.std.proofs.Common.{◌≡◌, ◌<◌, ◌≤◌, ℕ, pos, get_or}
use Rattle.constraint_model.specs.declared.model.Term.{Term}
use Rattle.fzn_print.proofs.unprinted.find_entry.Given as goal

-- those so far aren't the variable
abbrev pub invariant-loop-place : goal.invariant-loop-place
invariant-loop-place l = (k : ℕ) → l.from ≤ k → k < l.place → get_or l.entries k (Term.Number (pos 0)) ≡ Term.Var l.variable → ⊥
