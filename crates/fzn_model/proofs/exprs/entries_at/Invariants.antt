use Rattle.std.proofs.Common.{map}
use Rattle.fzn_model.specs.Scopes.{entry_at, all_some}
use Rattle.fzn_model.proofs.Turns.{Gathered}
use Rattle.fzn_model.proofs.exprs.entries_at.Given as goal

abbrev pub invariant-loop-entry : goal.invariant-loop-entry
invariant-loop-entry l = Gathered (λ entries. all_some (map (entry_at l.text l.scope) entries)) l.entries l.entry-index l.scalars
