use Rattle.fzn_model.specs.Searches.{entries_variables}
use Rattle.fzn_model.proofs.Turns.{Gathered}
use Rattle.fzn_model.proofs.NoteLaws.{trees}
use Rattle.fzn_model.proofs.searches.entries_variables.Given as goal

abbrev pub invariant-loop-entry : goal.invariant-loop-entry
invariant-loop-entry l = Gathered (λ args. entries_variables l.text l.scope (trees args)) l.entries l.entry-index l.vars.items
