use Rattle.std.proofs.Common.{map}
use Rattle.std.specs.List.{list_any}
use Rattle.fzn_model.specs.Leaves.{elem_leaves}
use Rattle.fzn_model.specs.Drafts.{has_kind}
use Rattle.fzn_model.specs.declared.fault_kinds.FaultKind.{FaultKind}
use Rattle.fzn_model.specs.Scopes.{entry_at, all_some}
use Rattle.fzn_model.proofs.Turns.{Gathered, Passed}
use Rattle.fzn_model.proofs.exprs.sure_entries.Given as goal

abbrev pub invariant-loop-entry : goal.invariant-loop-entry
invariant-loop-entry l =
    Gathered (λ entries. all_some (map (entry_at l.text l.scope) entries)) l.entries l.entry-index l.scalars
    × (Passed (λ entries. list_any (λ e. list_any (has_kind l.text l.scope FaultKind.OutOfRange) (elem_leaves e)) entries) l.entries l.entry-index
    × Passed (λ entries. list_any (λ e. list_any (has_kind l.text l.scope FaultKind.TooMany) (elem_leaves e)) entries) l.entries l.entry-index)
