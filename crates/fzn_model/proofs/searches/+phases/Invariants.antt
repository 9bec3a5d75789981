use Rattle.fzn_model.specs.Searches.{phases_in_entries}
use Rattle.fzn_model.proofs.Turns.{Joined}
use Rattle.fzn_model.proofs.NoteLaws.{trees}
use Rattle.fzn_model.proofs.searches.+phases.Given as goal

abbrev pub invariant-add_entries_phases-loop-entry : goal.invariant-add_entries_phases-loop-entry
invariant-add_entries_phases-loop-entry l = Joined (λ args. phases_in_entries l.text l.scope (trees args)) l.entries l.initial.phases l.entry-index l.phases
